use Rattle.std.proofs.Common.{◌*◌, Fits, w64, List, length, refl, subst, sym, ◌∙◌, arith, rules}
use Rattle.overlay.specs.Fill.Sweep.{AreFillPieces}
use Rattle.overlay.specs.Grouping.{Rise, firsts_of, pieces_of}
use Rattle.overlay.specs.Rings.{edges_in, rings_of}
use Rattle.overlay.specs.declared.grouping.sides.Side.{Side}
use Rattle.overlay.proofs.ContourLemmas.Counts.{rings-closed}
use Rattle.overlay.proofs.GroupingLemmas.Before.{begins-rise}
use Rattle.overlay.proofs.GroupingLemmas.Edges.{length-edges_in}
use Rattle.overlay.proofs.GroupingLemmas.Filling.{AreFillPieces-sides}
use Rattle.overlay.proofs.GroupingLemmas.Homes.{untold-of}
use Rattle.overlay.proofs.grouping.homes.find_below.Goals as goal

pub sweep_sides-requires-clause-pieces : goal.sweep_sides-requires-clause-pieces
sweep_sides-requires-clause-pieces g c =
    let points = c.args.points.now in
    let ends = c.args.ends.now in
    let bounds = c.requires.bounding in
    let wide : Fits w64 (length points * 8) = search rules in
    let few = length-edges_in points ends c.requires.ends in
    let are = c.in_ok-sides.ensures in
    subst (λ (sides : List Side). AreFillPieces (pieces_of sides)) (sym c.deref-2.ensures.value)
    (AreFillPieces-sides (edges_in points ends) c.in_ok-sides.sides.items (λ test. rings-closed test (rings_of points 0 ends)) bounds.noded bounds.distinct are.pieces are.order
    (omega (arith, wide, few)))

pub passes_few-requires-clause-rise : goal.passes_few-requires-clause-rise
passes_few-requires-clause-rise g c = subst Rise (sym (c.deref.ensures.value ∙ c.in_ok-xs.ensures)) (begins-rise (firsts_of c.args.holes.now) c.requires.firsts.order)

pub walk_rings-requires : goal.walk_rings-requires
walk_rings-requires g c =
    let rings = rings_of c.args.points.now 0 c.args.ends.now in
    let each = c.deref-then-passes_few.ensures.value ∙ c.in_ok-xs.ensures in (
      each,
      (
        subst Rise (sym each) (begins-rise (firsts_of c.args.holes.now) c.requires.firsts.order),
        (c.requires.ends, (refl, (c.requires.bounding.noded, (untold-of rings c.args.holes.now c.requires.firsts.all.of c.requires.untold, c.requires.untold)))),
      ),
    )
