use Rattle.std.proofs.Common.{rules}
use Rattle.layers.proofs.BoxLemmas.{same-sides}
use Rattle.layers.proofs.boxes.grown.Goals as goal

pub returns : goal.returns
returns c = same-sides _ _ _ _ _ _ _ _ (search rules) (search rules) (search rules) (search rules)
