use Rattle.std.proofs.Common.{◌+◌, List, pos, subst, sym}
use Rattle.plane.specs.declared.edge.Edge.{Edge}
use Rattle.noding.specs.declared.distinct.Placed.{Placed}
use Rattle.noding.proofs.ChainLemmas.Distinct.{ArePlacedUpto, placed-all, placed-more, placed-none}
use Rattle.noding.proofs.distinct.placed_edges.Goals as goal

pub loop-place-init : goal.loop-place-init
loop-place-init g c = subst (ArePlacedUpto c.args.edges.now 0) (sym c.in_ok-placed.ensures.items) (placed-none c.args.edges.now)

pub loop-place-preserved : goal.loop-place-preserved
loop-place-preserved g c =
    let none : Edge = record { x0 = pos 0; y0 = pos 0; x1 = pos 0; y1 = pos 0 } in
    let edges = c.args.edges.now in
    let k = c.loop-place.place in
    subst (λ (placed : List Placed). ArePlacedUpto edges (k + 1) placed) (sym c.in_ok-push.ensures.items)
    (placed-more edges k none c.loop-place.placed.items c.loop-place-test.true c.loop-place.invariant)

pub returns : goal.returns
returns g c =
    placed-all c.args.edges.now c.loop-place.place c.loop-place.placed.items c.sort_unstable_by.new.self.items c.loop-place-test.false c.loop-place.invariant
    c.sort_unstable_by.ensures.permutation
