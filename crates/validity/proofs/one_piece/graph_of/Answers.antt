use Rattle.std.proofs.Common.{◌+◌, ℕ, List, refl, sym, subst, arith}
use Rattle.validity.proofs.Graphs.{IsGrowing, growing-all, growing-next, growing-none}
use Rattle.validity.proofs.one_piece.graph_of.Goals as goal

pub loop-place-init : goal.loop-place-init
loop-place-init g c = subst (λ (graph : List (ℕ × ℕ)). IsGrowing c.args.count c.args.contacts.now 0 c.args.count graph) (sym c.in_ok-graph.ensures.items) (growing-none c.args.count c.args.contacts.now)

pub loop-place-preserved : goal.loop-place-preserved
loop-place-preserved g c =
    subst (λ (graph : List (ℕ × ℕ)). IsGrowing c.args.count c.args.contacts.now (c.loop-place.place + 1) c.next_node-node.result graph) (sym c.in_ok-push.ensures.items)
    (growing-next c.args.count c.args.contacts.now c.requires.together c.loop-place.place c.loop-place.node c.loop-place.graph.items c.loop-place-test.true c.loop-place.invariant c.next_node-node.result _ refl refl c.next_node-node.ensures)

pub returns-clause-graph : goal.returns-clause-graph
returns-clause-graph g c =
    let past = c.loop-place-test.false in
    let auto = c.loop-place.auto.place-end in
    growing-all c.args.count c.args.contacts.now c.loop-place.place c.loop-place.node c.loop-place.graph.items c.loop-place.invariant (omega (arith, past, auto))
