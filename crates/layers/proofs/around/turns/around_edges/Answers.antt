use Rattle.std.proofs.Common.{◌∙◌, ◌^◌, [], ◌∷◌, take, get_or, sym, subst, ap, ap₂, add-one, arith}
use Rattle.std.proofs.lemmas.List.{length-take, take_all}
use Rattle.plane.specs.Meet.Crosses.{IsWithin}
use Rattle.plane.specs.Ends.{edge_between}
use Rattle.layers.specs.Around.{halved}
use Rattle.layers.specs.Chains.{IsAround, chain_edges}
use Rattle.layers.proofs.AroundLemmas.Chains.{length-pieces, pieces-at}
use Rattle.layers.proofs.AroundLemmas.Rounds.{IsAround-more, winding-within}
use Rattle.layers.proofs.around.turns.around_edges.Goals as goal

pub both-around-requires-clause-one : goal.both-around-requires-clause-one
both-around-requires-clause-one c =
    let edges = chain_edges c.args.chain in
    let most = c.requires.few in
    let before = c.loop-place-test.true in
    let taken = length-take c.loop-place.place edges in
    subst (IsWithin (2 ^ 62)) (sym c.loop-place.invariant.turns) (winding-within (halved c.args.point) (take c.loop-place.place edges) (2 ^ 62) (omega (arith, most, before, taken)))

pub both-around-requires-clause-other : goal.both-around-requires-clause-other
both-around-requires-clause-other c =
    subst (IsWithin (2 ^ 61)) (sym c.around_edge-edge.ensures.turns) (winding-within (halved c.args.point) (edge_between c.point_at.result c.point_at-in-loop-place.result ∷ []) (2 ^ 61) (omega arith))

pub loop-place-preserved : goal.loop-place-preserved
loop-place-preserved c =
    let points = c.args.chain.points.now in
    let end = c.args.chain.end in
    let place = c.loop-place.place in
    let edge = edge_between c.point_at.result c.point_at-in-loop-place.result in
    let size = length-pieces points end in
    IsAround-more (halved c.args.point) (chain_edges c.args.chain) place edge edge c.loop-place.around c.around_edge-edge.result c.both-around.result
    (omega (arith, size, c.loop-place-test.true))
    (pieces-at points end place edge c.loop-place-test.true ∙ ap₂ edge_between (sym c.point_at.ensures) (ap (λ n. get_or points n end) (sym (add-one place)) ∙ sym c.point_at-in-loop-place.ensures))
    c.loop-place.invariant c.around_edge-edge.ensures c.both-around.ensures.turns c.both-around.ensures.touches

pub returns : goal.returns
returns c =
    let edges = chain_edges c.args.chain in
    let size = length-pieces c.args.chain.points.now c.args.chain.end in
    subst (λ some. IsAround (halved c.args.point) some c.loop-place.around) (take_all c.loop-place.place edges (omega (arith, size, c.loop-place-test.false))) c.loop-place.invariant
