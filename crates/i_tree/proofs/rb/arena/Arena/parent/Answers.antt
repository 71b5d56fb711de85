use Rattle.i_tree.proofs.RbLemmas.Slots.Layout.{AreHandles-sound}
use Rattle.i_tree.proofs.RbLemmas.Slots.Reads.{IsSound-view, IsUsed-sound, top_links}
use Rattle.i_tree.proofs.rb.arena.Arena.parent.Goals as goal

pub links_at-requires : goal.links_at-requires
links_at-requires g c =
    let sound = IsSound-view _ _ _ _ _ c.args.self.now c.self.invariant c.self.view_is in
    rw c.deref.ensures.value (IsUsed-sound _ _ _ _ c.args.handle c.args.self.now.shape sound c.requires)

pub returns-clause-handles : goal.returns-clause-handles
returns-clause-handles g c = AreHandles-sound _ _ _ _ _ (IsSound-view _ _ _ _ _ c.args.self.now c.self.invariant c.self.view_is)

pub returns-clause-value : goal.returns-clause-value
returns-clause-value g c = λ around subtree is here.
    let sound = IsSound-view _ _ _ _ _ c.args.self.now c.self.invariant c.self.view_is in
    (top_links _ _ _ _ c.args.handle c.args.self.now.shape c.links_at.result around subtree sound c.requires (rw c.deref.ensures.value at c.links_at.ensures) is here).0
