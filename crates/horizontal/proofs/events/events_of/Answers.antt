use Rattle.std.proofs.Common.{rules}
use Rattle.horizontal.specs.Events.{answer_x, begin_x, end_x}
use Rattle.horizontal.proofs.events.events_of.Goals as goal

pub returns : goal.returns
returns g c = c.events_in_order.ensures end_x begin_x answer_x (λ k d inside answer says. search rules) (λ k d inside answer says. search rules) (λ k d inside answer says. search rules)
