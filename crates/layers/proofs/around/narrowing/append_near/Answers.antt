use Rattle.std.proofs.Common.{refl, sym, subst, ◌∙◌}
use Rattle.layers.specs.Chains.{AreUpto}
use Rattle.layers.proofs.AroundLemmas.Narrow.{AreUpto-push, apart-gone}
use Rattle.layers.proofs.around.narrowing.append_near.Goals as goal

pub returns-then-is_apart_from-clause-same : goal.returns-then-is_apart_from-clause-same
returns-then-is_apart_from-clause-same g c =
    apart-gone c.args.extent c.args.kept.now.items c.args.chain c.requires.bounded (sym c.is_apart_from.ensures ∙ c.if-is_apart_from.true)

pub returns-clause-order : goal.returns-clause-order
returns-clause-order g c =
    subst (λ chains. AreUpto c.args.chain.shape chains) (sym c.in_ok-push.ensures.items) (AreUpto-push c.args.chain.shape c.args.kept.now.items c.args.chain c.requires.order refl c.requires.bounded)
