use Rattle.std.proofs.Common.{rules}
use Rattle.plane.specs.Columns.Sweep.{asked_x}
use Rattle.plane.specs.Locate.Events.{begin_x, end_x}
use Rattle.plane.proofs.columns.events.events_of.Goals as goal

pub returns : goal.returns
returns g c = c.events_in_order.ensures end_x begin_x asked_x (λ k d inside answer says. search rules) (λ k d inside answer says. search rules) (λ k d inside answer says. search rules)
