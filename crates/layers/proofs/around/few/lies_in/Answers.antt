use Rattle.std.proofs.Common.{◌≡◌, ◌∙◌, ◌^◌, take, get_or, sym, subst, ap, SFits, w64, arith, rules}
use Rattle.std.proofs.lemmas.List.{length-take, take_all}
use Rattle.std.proofs.lemmas.List.Elements.{All-take}
use Rattle.std.proofs.lemmas.Int.{to_z-of_z}
use Rattle.plane.specs.Meet.Crosses.{IsWithin}
use Rattle.overlay.specs.Fill.Rules.{is_inside}
use Rattle.layers.specs.Around.{halved}
use Rattle.layers.specs.Chains.{IsAround, IsBounded, chain_edges, edges_of_chains, is_in}
use Rattle.layers.proofs.AroundLemmas.Chains.{length-pieces}
use Rattle.layers.proofs.AroundLemmas.Groups.{IsAround-chains, is_in-lies, length-edges, no_chain}
use Rattle.layers.proofs.AroundLemmas.Rounds.{winding-within}
use Rattle.layers.proofs.around.few.lies_in.Goals as goal

pub both-around-requires-clause-one : goal.both-around-requires-clause-one
both-around-requires-clause-one c =
    let chains = c.args.chains.now in
    let i = c.loop-chain.chain-index in
    let many = length-edges (take i chains) (All-take IsBounded i chains c.requires) in
    let some = length-take i chains in
    subst (IsWithin (2 ^ 62)) (sym c.loop-chain.invariant.turns) (winding-within (halved c.args.point) (edges_of_chains (take i chains)) (2 ^ 62) (omega (arith, many, some)))

pub both-around-requires-clause-other : goal.both-around-requires-clause-other
both-around-requires-clause-other c =
    let chain = get_or c.args.chains.now c.loop-chain.chain-index no_chain in
    let own = c.requires c.loop-chain.chain-index no_chain c.loop-chain-test.true in
    let few = own.few in
    let size = length-pieces chain.points.now chain.end in
    subst (IsWithin (2 ^ 61)) (sym c.around_chain.ensures.turns) (winding-within (halved c.args.point) (chain_edges chain) (2 ^ 61) (omega (arith, few, size)))

pub loop-chain-preserved : goal.loop-chain-preserved
loop-chain-preserved c =
    IsAround-chains (halved c.args.point) c.args.chains.now c.loop-chain.chain-index c.loop-chain.around c.around_chain.result c.both-around.result
    c.loop-chain-test.true c.loop-chain.invariant c.around_chain.ensures c.both-around.ensures.turns c.both-around.ensures.touches

pub returns : goal.returns
returns c =
    let chains = c.args.chains.now in
    let all = subst (λ some. IsAround (halved c.args.point) (edges_of_chains some) c.loop-chain.around) (take_all c.loop-chain.chain-index chains c.loop-chain-test.false) c.loop-chain.invariant in
    let fits : SFits w64 c.loop-chain.around.turns = search rules in
    let inside : c.is_inside.result ≡ is_inside c.args.rule c.loop-chain.around.turns = simp to_z-of_z at c.is_inside.ensures in
    let is = c.is_in.ensures ∙ ap (λ test. is_in c.args.border test c.loop-chain.around.touches) inside in
    let says = is_in-lies c.args.rule c.args.border (halved c.args.point) (edges_of_chains chains) c.loop-chain.around all in
    (λ test. says.0 (sym is ∙ test), λ lies. is ∙ says.1 lies)
