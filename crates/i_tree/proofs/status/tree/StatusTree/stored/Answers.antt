use Rattle.std.proofs.Common.{◌∙◌, sym}
use Rattle.i_tree.proofs.ExpiringLemmas.SearchPath.{length-items}
use Rattle.i_tree.proofs.status.tree.StatusTree.stored.Goals as goal

pub returns-clause-value : goal.returns-clause-value
returns-clause-value g c = rw (← c.self.view_is) (c.len.ensures.value ∙ sym (length-items c.self.inside.core.shape))
