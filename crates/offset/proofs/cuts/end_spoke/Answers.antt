use Rattle.std.proofs.Common.{◌∙◌, ap, ap₂, arith}
use Rattle.plane.specs.declared.edge.Edge.{Edge}
use Rattle.plane.specs.declared.point.Point.{Point}
use Rattle.plane.specs.Ends.{edge_between, end_of}
use Rattle.offset.proofs.CutLemmas.Moved.{length-moved, moved-at}
use Rattle.offset.proofs.cuts.end_spoke.Goals as goal

pub bounds-moved-place : goal.bounds-moved-place
bounds-moved-place c = let size = length-moved c.args.corners.now c.args.ring.now c.args.moved.now c.requires.moved in omega (arith, size, c.requires.within)

pub returns : goal.returns
returns c =
    c.edge_between.ensures
    ∙ ap₂ (λ (from to : Point). edge_between from to)
    (c.end_of.ensures ∙ ap (λ (edge : Edge). end_of edge) c.side_at.ensures)
    (c.end_of-2.ensures ∙ ap (λ (edge : Edge). end_of edge) (moved-at c.args.corners.now c.args.ring.now c.args.moved.now c.requires.moved c.args.place _ c.requires.within))
