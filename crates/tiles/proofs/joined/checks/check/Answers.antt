use Rattle.std.proofs.Common.{refl}
use Rattle.tiles.proofs.JoinSides.{all-apart, all-beside}
use Rattle.tiles.proofs.JoinTests.{not-true}
use Rattle.tiles.proofs.joined.checks.check.Goals as goal

pub returns-then-not-are_all_beside-clause-fault : goal.returns-then-not-are_all_beside-clause-fault
returns-then-not-are_all_beside-clause-fault c =
    let windows = c.args.tiles.windows.now in
    let some = c.if-not-have_points.ensures.0 refl in
    (c.if-not-are_tiles.ensures.0 refl, some, λ apart. not-true (c.if-not-are_all_beside.ensures.1 (all-beside windows some apart)))

pub returns-then-not-lie_within-clause-fault : goal.returns-then-not-lie_within-clause-fault
returns-then-not-lie_within-clause-fault c =
    let windows = c.args.tiles.windows.now in
    (c.if-not-are_tiles.ensures.0 refl, c.if-not-have_points.ensures.0 refl, all-apart windows (c.if-not-are_all_beside.ensures.0 refl), λ within. not-true (c.if-not-lie_within.ensures.1 within))

pub returns-clause-ok : goal.returns-clause-ok
returns-clause-ok c = record {
  lengths = c.if-not-are_tiles.ensures.0 refl;
  some = c.if-not-have_points.ensures.0 refl;
  apart = all-apart c.args.tiles.windows.now (c.if-not-are_all_beside.ensures.0 refl);
  within = c.if-not-lie_within.ensures.0 refl;
}
