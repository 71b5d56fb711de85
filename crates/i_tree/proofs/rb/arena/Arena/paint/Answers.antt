use Rattle.std.proofs.Common.{◌∙◌, ap, length}
use Rattle.std.proofs.lemmas.List.{take_at}
use Rattle.i_tree.proofs.RbLemmas.Shape.Contexts.{cut_at}
use Rattle.i_tree.proofs.RbLemmas.Slots.Layout.{AreHandles-sound, read_sound}
use Rattle.i_tree.proofs.RbLemmas.Slots.Writes.{IsSound-read, sound-painted}
use Rattle.i_tree.proofs.RbLemmas.Slots.Reads.{IsSound-view, IsUsed-sound}
use Rattle.i_tree.proofs.rb.arena.Arena.paint.Goals as goal

pub write_colour-requires : goal.write_colour-requires
write_colour-requires g c =
    let sound = IsSound-view _ _ _ _ _ c.args.self.now c.self.invariant c.self.view_is in
    rw c.deref_mut.ensures.value (IsUsed-sound _ _ _ _ c.args.handle c.args.self.now.shape sound c.requires)

pub invariant_of-self : goal.invariant_of-self
invariant_of-self g c =
    let sound = IsSound-view _ _ _ _ _ c.args.self.now c.self.invariant c.self.view_is in
    let cut = cut_at c.args.self.now.shape c.args.handle c.requires in
    let painted = sound-painted _ c.write_colour.new.slots _ _ _ _ cut.around cut.colour c.args.colour cut.before c.args.handle cut.item cut.after
    sound cut.is (rw c.deref_mut.ensures.value at c.write_colour.ensures) (c.write_colour.auto.slots ∙ ap length c.deref_mut.ensures.value) in
    rw (take_at c.write_colour.new.slots _ c.self.inside.slots.len (c.write_colour.auto.slots ∙ c.deref_mut.ensures.len)) (IsSound-read _ _ _ _ _ painted)

pub returns-clause-shape : goal.returns-clause-shape
returns-clause-shape g c = λ before item after was around is.
    let sound = IsSound-view _ _ _ _ _ c.args.self.now c.self.invariant c.self.view_is in
    let painted = sound-painted _ c.write_colour.new.slots _ _ _ _ around was c.args.colour before c.args.handle item after
    sound is (rw c.deref_mut.ensures.value at c.write_colour.ensures) (c.write_colour.auto.slots ∙ ap length c.deref_mut.ensures.value) in
    rw (take_at c.write_colour.new.slots _ c.self.inside.slots.len (c.write_colour.auto.slots ∙ c.deref_mut.ensures.len)) (read_sound _ _ _ _ _ painted)

pub returns-clause-handles : goal.returns-clause-handles
returns-clause-handles g c =
    let sound = IsSound-view _ _ _ _ _ c.args.self.now c.self.invariant c.self.view_is in
    let cut = cut_at c.args.self.now.shape c.args.handle c.requires in
    let painted = sound-painted _ c.write_colour.new.slots _ _ _ _ cut.around cut.colour c.args.colour cut.before c.args.handle cut.item cut.after
    sound cut.is (rw c.deref_mut.ensures.value at c.write_colour.ensures) (c.write_colour.auto.slots ∙ ap length c.deref_mut.ensures.value) in
    rw (take_at c.write_colour.new.slots _ c.self.inside.slots.len (c.write_colour.auto.slots ∙ c.deref_mut.ensures.len))
    (AreHandles-sound _ _ _ _ _ (IsSound-read _ _ _ _ _ painted))
