use Rattle.std.proofs.Common.{◌≡◌, ◌-◌, ℕ, List, ◌∷◌, length, slice_get, sym, ap, ◌∙◌, subst, arith}
use Rattle.i_tree.specs.declared.rb.links.Colour.{Colour}
use Rattle.i_tree.specs.declared.rb.links.Colour.TheVariants.{Red}
use Rattle.i_tree.specs.declared.rb.links.Slot.{Slot}
use Rattle.i_tree.specs.Rb.Context.{Frame, fork_on, plug}
use Rattle.i_tree.specs.Rb.Shape.{Shape, leaf, fork, occurs}
use Rattle.i_tree.specs.Rb.Slots.{IsSound, Relinks, with_child_link, read_tree}
use Rattle.i_tree.proofs.RbLemmas.Slots.Layout.{AreHandles-sound}
use Rattle.i_tree.proofs.RbLemmas.Slots.FreeSlots.{head_of, head_fresh, parent_used, sound-attached, written_back, read_back, sound_back}
use Rattle.i_tree.proofs.rb.arena.Arena.attach.Goals as goal

pub take_slot-handle-requires : goal.take_slot-handle-requires
take_slot-handle-requires g c =
    let inside = c.self.inside in
    let spare : inside.free ≡ c.args.self.now.spare = ap (λ contents. contents.spare) c.self.view_is in
    let head = head_of inside.slots.items inside.root inside.first_free inside.free _ c.self.invariant (omega (arith, c.requires.spare)) in
    (head.next, ap (λ list. slice_get list inside.first_free) c.deref_mut.ensures.value ∙ head.is_free)

pub write_child-requires : goal.write_child-requires
write_child-requires g c =
    let inside = c.self.inside in
    let items = inside.slots.items in
    let taken = c.take_slot-handle in
    let lent = c.deref_mut.ensures.value in
    let room = c.requires.room in
    let spare : inside.free ≡ c.args.self.now.spare = ap (λ contents. contents.spare) c.self.view_is in
    let frame : Frame g.row.T.Denot = record { side = c.args.side; colour = room.colour; handle = c.args.parent; item = room.item; sibling = room.far } in
    let Holds : Shape g.row.T.Denot → Type 0 = λ tree. IsSound items inside.root inside.first_free inside.free tree in
    let Begins : ℕ → Type 0 = λ first. IsSound items inside.root first inside.free (plug (frame ∷ room.around) leaf) in
    let sound = subst Begins (sym taken.ensures.handle) (subst Holds (ap (λ contents. contents.shape) c.self.view_is ∙ room.is) c.self.invariant) in
    parent_used items taken.new.slots _ inside.root taken.result inside.free frame room.around sound (omega (arith, c.requires.spare))
    (λ other apart. taken.ensures.others other apart ∙ ap (λ list. slice_get list other) lent)
    (c.deref_mut-2.ensures.value ∙ written_back _ _ _ (taken.auto.slots ∙ ap length lent) inside.slots.ok.0)

-- the slots after the first step, as they are lent to the second
lent_again : (g : _) (c : goal.After-self-3-1 g) → c.deref_mut-2.result.now ≡ c.take_slot-handle.new.slots
lent_again g c =
    c.deref_mut-2.ensures.value ∙ written_back _ _ _ (c.take_slot-handle.auto.slots ∙ ap length c.deref_mut.ensures.value) c.self.inside.slots.ok.0

-- the node is in the slots
attached : (g : _) (c : goal.After-self-3-1 g) (colour : Colour) (at : g.row.T.Denot) (far : Shape g.row.T.Denot) (around : List (Frame g.row.T.Denot))
    → c.args.self.now.shape ≡ plug around (fork_on c.args.side colour leaf c.args.parent at far)
    → IsSound c.write_child.new.slots c.self.inside.root c.take_slot-handle.new.first_free (c.self.inside.free - 1)
    (plug around (fork_on c.args.side colour (fork Red leaf c.take_slot-handle.result c.args.item leaf) c.args.parent at far))
attached g c colour at far around is =
    let inside = c.self.inside in
    let items = inside.slots.items in
    let taken = c.take_slot-handle in
    let spare : inside.free ≡ c.args.self.now.spare = ap (λ contents. contents.spare) c.self.view_is in
    let frame : Frame g.row.T.Denot = record { side = c.args.side; colour = colour; handle = c.args.parent; item = at; sibling = far } in
    let Holds : Shape g.row.T.Denot → Type 0 = λ tree. IsSound items inside.root inside.first_free inside.free tree in
    let Begins : ℕ → Type 0 = λ first. IsSound items inside.root first inside.free (plug (frame ∷ around) leaf) in
    let sound = subst Begins (sym taken.ensures.handle) (subst Holds (ap (λ contents. contents.shape) c.self.view_is ∙ is) c.self.invariant) in
    let From : List (Slot g.row.T.Denot) → Type 0 = λ list. Relinks list c.write_child.new.slots c.args.parent (with_child_link c.args.side taken.result) in
    sound-attached items taken.new.slots c.write_child.new.slots inside.root taken.result taken.new.first_free inside.free frame around c.args.item
    sound (omega (arith, c.requires.spare))
    (ap (λ list. slice_get list taken.result) (sym c.deref_mut.ensures.value) ∙ taken.ensures.next)
    taken.ensures.used
    (λ other apart. taken.ensures.others other apart ∙ ap (λ list. slice_get list other) c.deref_mut.ensures.value)
    (subst From (lent_again g c) c.write_child.ensures)
    (c.write_child.auto.slots ∙ ap length (lent_again g c) ∙ taken.auto.slots ∙ ap length c.deref_mut.ensures.value)

-- they are given back whole
given_back : (g : _) (c : goal.After-self-3-1 g) → length c.write_child.new.slots ≡ length c.deref_mut-2.result.now
given_back g c = c.write_child.auto.slots

as_many : (g : _) (c : goal.After-self-3-1 g) → c.self.inside.slots.len ≡ length c.deref_mut-2.result.now
as_many g c = c.self.inside.slots.ok.0 ∙ sym (c.take_slot-handle.auto.slots ∙ ap length c.deref_mut.ensures.value) ∙ ap length (sym (lent_again g c))

pub invariant_of-self : goal.invariant_of-self
invariant_of-self g c =
    let room = c.requires.room in
    let value = c.deref_mut-2.ensures.value in
    sound_back _ _ _ _ _ _ (written_back _ _ _ (given_back g c ∙ ap length value) (as_many g c ∙ ap length value)) (attached g c room.colour room.item room.far room.around room.is)

pub returns-clause-shape : goal.returns-clause-shape
returns-clause-shape g c colour at far around is =
    let value = c.deref_mut-2.ensures.value in
    read_back _ _ _ _ _ _ (written_back _ _ _ (given_back g c ∙ ap length value) (as_many g c ∙ ap length value)) (attached g c colour at far around is)

pub returns-clause-handles : goal.returns-clause-handles
returns-clause-handles g c = AreHandles-sound _ _ _ _ _ (invariant_of-self g c)

pub returns-clause-fresh : goal.returns-clause-fresh
returns-clause-fresh g c =
    let inside = c.self.inside in
    let spare : inside.free ≡ c.args.self.now.spare = ap (λ contents. contents.spare) c.self.view_is in
    let head = head_of inside.slots.items inside.root inside.first_free inside.free _ c.self.invariant (omega (arith, c.requires.spare)) in
    let before : Shape g.row.T.Denot = read_tree inside.slots.items (length inside.slots.items) inside.root in
    ap (λ (tree : Shape g.row.T.Denot). occurs c.take_slot-handle.result tree) (sym (ap (λ contents. contents.shape) c.self.view_is))
    ∙ ap (λ number. occurs number before) c.take_slot-handle.ensures.handle
    ∙ head_fresh _ _ _ _ head
