use Rattle.std.proofs.Common.{◌≡◌}
use Rattle.i_tree.proofs.RbLemmas.Shape.SubtreeHandles.{MatchBool-weaker}
use Rattle.i_tree.proofs.SetLemmas.LiveHandles.{HasHandle-live, LacksHandle-absent}
use Rattle.i_tree.proofs.SetLemmas.Handles.{AreApart-from_handles}
use Rattle.i_tree.specs.Rb.Shape.{IsHandle, occurs}
use Rattle.i_tree.proofs.set.tree.SetTreeSetCollection.has_index.Goals as goal

pub returns-clause-cases : goal.returns-clause-cases
returns-clause-cases g c =
    rw (← c.self.view_is)
    (MatchBool-weaker c.has.result (IsHandle c.self.inside.core.shape c.args.index) (occurs c.args.index c.self.inside.core.shape ≡ 0) _ _
    (HasHandle-live c.args.index c.self.inside.core.shape) (LacksHandle-absent c.args.index c.self.inside.core.shape) c.has.ensures.value)

pub returns-clause-handles : goal.returns-clause-handles
returns-clause-handles g c = rw (← c.self.view_is) (AreApart-from_handles c.self.inside.core.shape c.has.ensures.core.handles)
