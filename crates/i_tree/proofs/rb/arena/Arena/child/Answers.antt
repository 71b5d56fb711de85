use Rattle.std.proofs.Common.{◌∙◌}
use Rattle.i_tree.proofs.RbLemmas.Slots.Reads.{IsSound-view, IsUsed-sound, child_at}
use Rattle.i_tree.proofs.rb.arena.Arena.child.Goals as goal

pub links_at-requires : goal.links_at-requires
links_at-requires g c =
    let sound = IsSound-view _ _ _ _ _ c.args.self.now c.self.invariant c.self.view_is in
    rw c.deref.ensures.value (IsUsed-sound _ _ _ _ c.args.handle c.args.self.now.shape sound c.requires)

pub returns : goal.returns
returns g c = λ around colour near item far is.
    let sound = IsSound-view _ _ _ _ _ c.args.self.now c.self.invariant c.self.view_is in
    c.child.ensures ∙ child_at _ _ _ _ c.args.handle c.args.self.now.shape c.links_at.result c.args.side around colour near item far sound (rw c.deref.ensures.value at c.links_at.ensures) is
