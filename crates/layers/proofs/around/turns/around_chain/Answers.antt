use Rattle.std.proofs.Common.{SFits, w64, pos, ◌∙◌, sym, ap, rules}
use Rattle.std.proofs.lemmas.Int.{to_z-of_z}
use Rattle.layers.specs.Around.{halved}
use Rattle.layers.specs.Chains.{chain_edges, extent_at, is_above, is_apart}
use Rattle.layers.proofs.AroundLemmas.Apart.{IsInExtent-itself}
use Rattle.layers.proofs.AroundLemmas.Chains.{IsLow-above, apart-chain, apart-chain_off, low-chain, low-chain_off}
use Rattle.layers.proofs.AroundLemmas.Rounds.{IsAround-off}
use Rattle.layers.proofs.around.turns.around_chain.Goals as goal

pub returns-then-is_apart_from : goal.returns-then-is_apart_from
returns-then-is_apart_from c =
    let chain = c.args.chain in
    let at = c.args.point in
    let apart = ap (λ extent. is_apart extent chain.bounds) (sym c.extent_at-extent.ensures) ∙ sym c.is_apart_from.ensures ∙ c.if-is_apart_from.true in
    IsAround-off (halved at) (chain_edges chain) (pos 0)
    (apart-chain (extent_at at) at (IsInExtent-itself at) chain c.requires apart)
    (apart-chain_off (extent_at at) at (IsInExtent-itself at) chain c.requires apart)

pub returns-then-is_above : goal.returns-then-is_above
returns-then-is_above c =
    let fits : SFits w64 c.steps_over.result = search rules in
    let chain = c.args.chain in
    let at = c.args.point in
    let above = ap (λ extent. is_above extent chain.bounds) (sym c.extent_at-extent.ensures) ∙ sym c.is_above.ensures ∙ c.if-is_above.true in
    let low = IsLow-above (extent_at at) chain c.requires above in
    simp to_z-of_z (rw (c.steps_over.ensures, c.point_at.ensures) (IsAround-off (halved at) (chain_edges chain) _
    (low-chain (extent_at at) at (IsInExtent-itself at) chain low)
    (low-chain_off (extent_at at) at (IsInExtent-itself at) chain low)))
