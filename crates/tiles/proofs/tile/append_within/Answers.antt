use Rattle.std.proofs.Common.{[], append-nil, sym}
use Rattle.plane.proofs.PairsLemmas.Extends.{OnErr-always}
use Rattle.tiles.proofs.Made.{tile-made}
use Rattle.tiles.proofs.tile.append_within.Goals as goal

pub cut-requires-clause-closed : goal.cut-requires-clause-closed
cut-requires-clause-closed g c = c.in_ok-kept.ensures.bordered.closed

pub cut-requires-clause-two_ends : goal.cut-requires-clause-two_ends
cut-requires-clause-two_ends g c = c.in_ok-kept.ensures.bordered.bounds.two_ends

pub returns-clause-ok : goal.returns-clause-ok
returns-clause-ok g c =
    let (tile, is, (edges, has), appended) = c.in_ok-cut.ensures.ok in
    (tile, tile-made c.args.window c.args.choice.rule c.args.choice.operation _ _ c.in_ok-kept.kept.items tile c.requires.window.some c.in_ok-kept.ensures.bordered is edges has, appended)

-- nothing is appended then
pub returns-in_err-kept-clause-err : goal.returns-in_err-kept-clause-err
returns-in_err-kept-clause-err g c =
    OnErr-always c.from_residual-in_err-kept.result _ (([], sym (append-nil c.args.out.now.points.items)), ([], sym (append-nil c.args.out.now.ring_ends.items)), ([], sym (append-nil c.args.out.now.polygon_ends.items)))
