use Rattle.std.proofs.Common.{◌∙◌}
use Rattle.std.proofs.lemmas.List.{take_at}
use Rattle.i_tree.proofs.RbLemmas.Slots.Layout.{AreHandles-sound, read_sound}
use Rattle.i_tree.proofs.RbLemmas.Slots.Writes.{IsSound-read}
use Rattle.i_tree.proofs.RbLemmas.Slots.Reads.{IsSound-view, IsSound-as}
use Rattle.i_tree.proofs.rb.arena.Arena.rotate.Goals as goal

pub rotate_slots-requires : goal.rotate_slots-requires
rotate_slots-requires g c =
    let sound = IsSound-view _ _ _ _ _ c.args.self.now c.self.invariant c.self.view_is in
    rw c.deref_mut.ensures.value (record {
      rotation = c.requires.rotation;
      first_free = c.self.inside.first_free;
      free = c.self.inside.free;
      sound = IsSound-as _ _ _ _ _ _ c.requires.is sound;
    })

pub invariant_of-self : goal.invariant_of-self
invariant_of-self g c =
    let sound = IsSound-view _ _ _ _ _ c.args.self.now c.self.invariant c.self.view_is in
    let round = c.rotate_slots.ensures c.requires.rotation c.self.inside.first_free c.self.inside.free
    (rw c.deref_mut.ensures.value (IsSound-as _ _ _ _ _ _ c.requires.is sound)) in
    rw (take_at c.rotate_slots.new.slots _ c.self.inside.slots.len (c.rotate_slots.auto.slots ∙ c.deref_mut.ensures.len)) (IsSound-read _ _ _ _ _ round)

pub returns-clause-shape : goal.returns-clause-shape
returns-clause-shape g c = λ rotation is.
    let sound = IsSound-view _ _ _ _ _ c.args.self.now c.self.invariant c.self.view_is in
    let round = c.rotate_slots.ensures rotation c.self.inside.first_free c.self.inside.free (rw c.deref_mut.ensures.value (IsSound-as _ _ _ _ _ _ is sound)) in
    rw (take_at c.rotate_slots.new.slots _ c.self.inside.slots.len (c.rotate_slots.auto.slots ∙ c.deref_mut.ensures.len)) (read_sound _ _ _ _ _ round)

pub returns-clause-handles : goal.returns-clause-handles
returns-clause-handles g c =
    let sound = IsSound-view _ _ _ _ _ c.args.self.now c.self.invariant c.self.view_is in
    let round = c.rotate_slots.ensures c.requires.rotation c.self.inside.first_free c.self.inside.free
    (rw c.deref_mut.ensures.value (IsSound-as _ _ _ _ _ _ c.requires.is sound)) in
    rw (take_at c.rotate_slots.new.slots _ c.self.inside.slots.len (c.rotate_slots.auto.slots ∙ c.deref_mut.ensures.len)) (AreHandles-sound _ _ _ _ _ (IsSound-read _ _ _ _ _ round))
