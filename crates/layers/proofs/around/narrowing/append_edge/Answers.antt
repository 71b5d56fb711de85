use Rattle.std.proofs.Common.{refl, sym, subst, ap, ◌∙◌}
use Rattle.layers.specs.Chains.{AreUpto, is_beside}
use Rattle.layers.proofs.AroundLemmas.Narrow.{AreUpto-push, beside-gone}
use Rattle.layers.proofs.around.narrowing.append_edge.Goals as goal

pub returns-in_ok-push-clause-order : goal.returns-in_ok-push-clause-order
returns-in_ok-push-clause-order g c =
    subst (λ chains. AreUpto c.args.edge.shape chains) (sym c.in_ok-push.ensures.items) (AreUpto-push c.args.edge.shape c.args.kept.now.items c.args.edge c.requires.order refl c.requires.bounded)

pub returns-else-not-is_beside-clause-same : goal.returns-else-not-is_beside-clause-same
returns-else-not-is_beside-clause-same g c =
    beside-gone c.args.extent c.args.kept.now.items c.args.edge c.requires.low
    (ap (λ at. is_beside c.args.extent at.x c.args.edge.end.x) (sym c.point_at.ensures) ∙ sym c.is_beside.ensures ∙ c.if-not-is_beside.false)
