use Rattle.std.proofs.Common.{◌∙◌}
use Rattle.plane.proofs.PairsLemmas.Extends.{OnErr-always}
use Rattle.layers.proofs.append.append_moved.Goals as goal

pub returns-in_err-push-clause-err : goal.returns-in_err-push-clause-err
returns-in_err-push-clause-err g c = OnErr-always c.from_residual.result _ (_, c.in_err-push.ensures.items ∙ c.loop-end.invariant)
