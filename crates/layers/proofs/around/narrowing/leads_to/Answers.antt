use Rattle.std.proofs.Common.{◌∙◌, sym, ap}
use Rattle.layers.specs.Chains.{is_beside}
use Rattle.layers.proofs.around.narrowing.leads_to.Goals as goal
use Rattle.layers.proofs.around.narrowing.leads_to.Goals.{then-last-chain-via-then-last-chain, then-last-chain-via-else-last-chain+then-not-is_above}

pub returns-then-last-chain : goal.returns-then-last-chain
returns-then-last-chain c = (
  λ test. cc,
  λ leads. elim c.then-last-chain.branch [
    | then-last-chain-via-then-last-chain w ↦ absurd (w.if-last-chain.true leads.shape)
    | then-last-chain-via-else-last-chain+then-not-is_above w ↦ sym w.if-not-is_above.true ∙ w.is_above.ensures ∙ leads.below
  ],
)

pub returns : goal.returns
returns c =
    let beside = ap (λ at. is_beside c.args.extent c.args.last.end.x at.x) (sym c.point_at.ensures) ∙ sym c.is_beside.ensures in (
      λ test. record {
        shape = c.if-last-chain.false;
        below = sym c.is_above.ensures ∙ c.if-not-is_above.false;
        beside = beside ∙ test;
      },
      λ leads. sym beside ∙ leads.beside,
    )
