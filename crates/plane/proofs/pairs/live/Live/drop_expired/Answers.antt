use Rattle.std.proofs.Common.{rules}
use Rattle.std.proofs.lemmas.Fn.{filter_same}
use Rattle.plane.proofs.pairs.live.Live.drop_expired.Goals as goal

pub returns-clause-live : goal.returns-clause-live
returns-clause-live g c = filter_same _ _ _ (λ placed kept f' k. search rules) _ _ c.retain.ensures.filtered
