use Rattle.std.proofs.Common.{◌∙◌}
use Rattle.overlay.proofs.contours.walk.behind.Goals as goal

pub returns-then-starts_at : goal.returns-then-starts_at
returns-then-starts_at c = λ differ. absurd (differ (c.if-starts_at.ensures ∙ c.end_of.ensures))
