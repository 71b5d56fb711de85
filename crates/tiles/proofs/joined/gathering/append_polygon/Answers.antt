use Rattle.std.proofs.Common.{◌≡◌, ◌∷◌, ◌++◌, [], ◌∙◌, ℕ, List, get_or, ap, subst, arith}
use Rattle.std.specs.List.{between}
use Rattle.tiles.specs.Join.{all_rings}
use Rattle.tiles.proofs.JoinGiven.{AreAppended-one}
use Rattle.tiles.proofs.JoinLists.{AreGathered, AreGathered-more, AreGathered-one, between-more, length-lists_of}
use Rattle.tiles.proofs.joined.gathering.append_polygon.Goals as goal

pub loop-ring-preserved : goal.loop-ring-preserved
loop-ring-preserved g c =
    let rings = all_rings c.args.rings in
    let first = c.args.first in
    let at = c.loop-ring.ring in
    let (gathered, same) = c.loop-ring.invariant in
    let size = length-lists_of c.args.rings.points.now 0 c.args.rings.ends.now in
    let behind = c.requires.within in (
      rw (between-more rings first at [] (omega arith) (omega arith))
          (AreGathered-more (between first at rings) (get_or rings at [] ∷ []) _ _ _ _ _ _ gathered
          (AreGathered-one (get_or rings at []) _ _ _ _ c.len.result (rw c.list_at.ensures at c.in_ok-extend_from_slice.ensures.items) c.in_ok-push.ensures.items (omega (arith, c.len.ensures)))),
      same,
    )

pub returns-clause-ok : goal.returns-clause-ok
returns-clause-ok g c =
    let rings = all_rings c.args.rings in
    let out = c.args.out.now in
    let now = c.loop-ring.out in
    let (gathered, same) = c.loop-ring.invariant in
    let onwards = c.requires.onwards in
    let last : c.loop-ring.ring ≡ c.args.behind = omega arith in
    AreAppended-one (between c.args.first c.args.behind rings) _ _ _ _ _ _ c.len-2.result
    (subst (λ (n : ℕ). AreGathered (between c.args.first n rings) out.points.items now.points.items out.ring_ends.items now.ring_ends.items) last gathered)
    (c.in_ok-push-2.ensures.items ∙ ap (λ (ends : List ℕ). ends ++ c.len-2.result ∷ []) same) (omega (arith, c.len-2.ensures))
