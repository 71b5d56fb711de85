use Rattle.std.proofs.Common.{◌≡◌, ◌-◌, ℕ, length, slice_get, sym, ap, ◌∙◌, subst, arith}
use Rattle.i_tree.specs.declared.rb.links.Colour.TheVariants.{Black}
use Rattle.i_tree.specs.Rb.Shape.{Shape, leaf, fork}
use Rattle.i_tree.specs.Rb.Slots.{IsSound}
use Rattle.i_tree.proofs.RbLemmas.Slots.Layout.{AreHandles-sound}
use Rattle.i_tree.proofs.RbLemmas.Slots.FreeSlots.{head_of, sound-rooted, written_back, read_back, sound_back}
use Rattle.i_tree.proofs.rb.arena.Arena.attach_root.Goals as goal

pub take_slot-handle-requires : goal.take_slot-handle-requires
take_slot-handle-requires g c =
    let inside = c.self.inside in
    let spare : inside.free ≡ c.args.self.now.spare = ap (λ contents. contents.spare) c.self.view_is in
    let head = head_of inside.slots.items inside.root inside.first_free inside.free _ c.self.invariant (omega (arith, c.requires.spare)) in
    (head.next, ap (λ list. slice_get list inside.first_free) c.deref_mut.ensures.value ∙ head.is_free)

-- the node is in the slots
rooted : (g : _) (c : goal.After-self-3-1 g)
    → IsSound c.take_slot-handle.new.slots c.take_slot-handle.result c.take_slot-handle.new.first_free (c.self.inside.free - 1) (fork Black leaf c.take_slot-handle.result c.args.item leaf)
rooted g c =
    let inside = c.self.inside in
    let items = inside.slots.items in
    let taken = c.take_slot-handle in
    let spare : inside.free ≡ c.args.self.now.spare = ap (λ contents. contents.spare) c.self.view_is in
    let Holds : Shape g.row.T.Denot → Type 0 = λ tree. IsSound items inside.root inside.first_free inside.free tree in
    let Begins : ℕ → Type 0 = λ first. IsSound items inside.root first inside.free leaf in
    let sound = subst Begins (sym taken.ensures.handle) (subst Holds (ap (λ contents. contents.shape) c.self.view_is ∙ c.requires.empty) c.self.invariant) in
    sound-rooted items taken.new.slots inside.root taken.result taken.new.first_free inside.free c.args.item sound (omega (arith, c.requires.spare))
    (ap (λ list. slice_get list taken.result) (sym c.deref_mut.ensures.value) ∙ taken.ensures.next)
    taken.ensures.used
    (λ other apart. taken.ensures.others other apart ∙ ap (λ list. slice_get list other) c.deref_mut.ensures.value)
    (taken.auto.slots ∙ ap length c.deref_mut.ensures.value)

-- they are given back whole
whole : (g : _) (c : goal.After-self-3-1 g) → length c.take_slot-handle.new.slots ≡ length c.self.inside.slots.items
whole g c = c.take_slot-handle.auto.slots ∙ ap length c.deref_mut.ensures.value

pub invariant_of-self : goal.invariant_of-self
invariant_of-self g c = sound_back _ _ _ _ _ _ (written_back _ _ _ (whole g c) c.self.inside.slots.ok.0) (rooted g c)

pub returns-clause-shape : goal.returns-clause-shape
returns-clause-shape g c = read_back _ _ _ _ _ _ (written_back _ _ _ (whole g c) c.self.inside.slots.ok.0) (rooted g c)

pub returns-clause-handles : goal.returns-clause-handles
returns-clause-handles g c =
    AreHandles-sound _ _ _ _ _ (invariant_of-self g c)
