use Rattle.std.proofs.Common.{[], List, pos, subst, sym}
use Rattle.plane.specs.declared.edge.Edge.{Edge}
use Rattle.noding.specs.Crossings.{IsCrossedAt}
use Rattle.plane.specs.Gains.{GainsThese, IsOfSome}
use Rattle.noding.specs.declared.crossings.Crossing.{Crossing}
use Rattle.plane.proofs.GainsLemmas.{gained-all, upto-all, upto-first, upto-next}
use Rattle.noding.proofs.crossings.crossings_of_pairs.Goals as goal

pub loop-pair-init : goal.loop-pair-init
loop-pair-init g c =
    let edges = c.args.edges.now in
    subst (λ (now : List Crossing). GainsThese (IsOfSome (IsCrossedAt edges) []) [] now) (sym c.new-crossings.ensures.items) (upto-first (IsCrossedAt edges) edges edges c.args.pairs.now [])

pub loop-pair-preserved : goal.loop-pair-preserved
loop-pair-preserved g c =
    let edges = c.args.edges.now in
    let none : Edge = record { x0 = pos 0; y0 = pos 0; x1 = pos 0; y1 = pos 0 } in
    upto-next (IsCrossedAt edges) edges edges c.args.pairs.now [] c.requires c.loop-pair.pair-index none none c.loop-pair.crossings.items c.push_crossing.new.crossings.items c.loop-pair-test.true c.loop-pair.invariant
    (λ first second. c.in_ok-push_crossing.ensures)

pub returns : goal.returns
returns g c =
    let edges = c.args.edges.now in
    let pairs = c.args.pairs.now in
    let found = c.loop-pair.crossings.items in
    gained-all (IsOfSome (IsCrossedAt edges) pairs) found (upto-all (IsCrossedAt edges) edges edges pairs [] c.loop-pair.pair-index found c.loop-pair-test.false c.loop-pair.invariant)
