use Rattle.std.proofs.Common.{◌≡◌, ◌+◌, List, length, slice_get, sym, ap, ◌∙◌}
use Rattle.i_tree.specs.declared.rb.links.Colour.{Colour}
use Rattle.i_tree.specs.declared.rb.links.Side.{Side}
use Rattle.i_tree.specs.Rb.Context.{Frame, fork_on, plug}
use Rattle.i_tree.specs.Rb.Shape.{Shape, leaf}
use Rattle.i_tree.specs.Rb.Slots.{IsSound}
use Rattle.i_tree.proofs.RbLemmas.Slots.Layout.{AreHandles-sound}
use Rattle.i_tree.proofs.RbLemmas.Slots.FreeSlots.{written_back, read_back, sound_back}
use Rattle.i_tree.proofs.RbLemmas.Slots.Reads.{IsSound-view, IsSound-as, node_at}
use Rattle.i_tree.proofs.RbLemmas.Slots.RotationSteps.{used_by}
use Rattle.i_tree.proofs.RbLemmas.Slots.Detaching.{OnlySubtree, alone_in, lent_again, hung_used, subtree_used, own_kept, own_used, sound-left}
use Rattle.i_tree.proofs.rb.arena.Arena.detach.Goals.{then-links, else-links}
use Rattle.i_tree.proofs.rb.arena.Arena.detach.Goals as goal

pub links_at-links-requires : goal.links_at-links-requires
links_at-links-requires g c =
    let lies = alone_in c.self.inside.slots.items _ _ _ c.args.self.now.shape c.args.handle c.requires (IsSound-view _ _ _ _ _ c.args.self.now c.self.invariant c.self.view_is) in
    rw c.deref.ensures.value (used_by c.self.inside.slots.items c.args.handle _ _ lies.own)

pub replace_child-requires : goal.replace_child-requires
replace_child-requires g c =
    let lies = alone_in c.self.inside.slots.items _ _ _ c.args.self.now.shape c.args.handle c.requires (IsSound-view _ _ _ _ _ c.args.self.now c.self.invariant c.self.view_is) in
    rw c.deref_mut.ensures.value (hung_used _ _ _ _ _ _ _ c.links_at-links.result lies (rw c.deref.ensures.value at c.links_at-links.ensures))

pub set_parent-requires : goal.set_parent-requires
set_parent-requires g c =
    let lies = alone_in c.self.inside.slots.items _ _ _ c.args.self.now.shape c.args.handle c.requires (IsSound-view _ _ _ _ _ c.args.self.now c.self.invariant c.self.view_is) in
    let only : OnlySubtree c.links_at-links.result c.if-links.subtree = elim c.if-links.branch [
      | then-links w ↦ record { none = λ _. w.subtree-is; some = λ some. absurd (some w.if-links.true) }
      | else-links w ↦ record { none = λ none. absurd (w.if-links.false none); some = λ _. w.subtree-is }
    ] in
    let lent = lent_again c.self.inside.slots.len c.self.inside.slots.items c.replace_child.new.slots c.deref_mut-2.result.now
    (c.replace_child.auto.slots ∙ ap length c.deref_mut.ensures.value) c.self.inside.slots.ok.0 c.deref_mut-2.ensures.value in
    rw lent
    (subtree_used _ c.replace_child.new.slots _ _ _ _ _ _ _ _ c.links_at-links.result c.if-links.subtree lies (rw c.deref.ensures.value at c.links_at-links.ensures) only
    (rw c.deref_mut.ensures.value at c.replace_child.ensures))

pub free_slot-item-requires : goal.free_slot-item-requires
free_slot-item-requires g c =
    let lies = alone_in c.self.inside.slots.items _ _ _ c.args.self.now.shape c.args.handle c.requires (IsSound-view _ _ _ _ _ c.args.self.now c.self.invariant c.self.view_is) in
    let only : OnlySubtree c.links_at-links.result c.if-links.subtree = elim c.if-links.branch [
      | then-links w ↦ record { none = λ _. w.subtree-is; some = λ some. absurd (some w.if-links.true) }
      | else-links w ↦ record { none = λ none. absurd (w.if-links.false none); some = λ _. w.subtree-is }
    ] in
    let lent = lent_again c.self.inside.slots.len c.self.inside.slots.items c.replace_child.new.slots c.deref_mut-2.result.now
    (c.replace_child.auto.slots ∙ ap length c.deref_mut.ensures.value) c.self.inside.slots.ok.0 c.deref_mut-2.ensures.value in
    let long = ap length (sym c.deref_mut-2.ensures.value) in
    let again = lent_again c.self.inside.slots.len _ c.set_parent.new.slots c.deref_mut-3.result.now
    (c.set_parent.auto.slots ∙ sym long)
    (c.self.inside.slots.ok.0 ∙ sym (long ∙ ap length lent ∙ c.replace_child.auto.slots ∙ ap length c.deref_mut.ensures.value)) c.deref_mut-3.ensures.value in
    rw again
    (own_used _ c.replace_child.new.slots c.set_parent.new.slots _ _ _ _ _ _ _ _ c.links_at-links.result c.if-links.subtree lies (rw c.deref.ensures.value at c.links_at-links.ensures) only
    (rw c.deref_mut.ensures.value at c.replace_child.ensures) (rw lent at c.set_parent.ensures))

-- the subtree that the code read is the only one
only_subtree : (g : _) (c : goal.After-self-5-1 g) → OnlySubtree c.links_at-links.result c.if-links.subtree
only_subtree g c = elim c.if-links.branch [
  | then-links w ↦ record { none = λ _. w.subtree-is; some = λ some. absurd (some w.if-links.true) }
  | else-links w ↦ record { none = λ none. absurd (w.if-links.false none); some = λ _. w.subtree-is }
]

-- the slots after each step, as they are lent to the next
second_lent : (g : _) (c : goal.After-self-5-1 g) → c.deref_mut-2.result.now ≡ c.replace_child.new.slots
second_lent g c = lent_again c.self.inside.slots.len c.self.inside.slots.items c.replace_child.new.slots c.deref_mut-2.result.now
    (c.replace_child.auto.slots ∙ ap length c.deref_mut.ensures.value) c.self.inside.slots.ok.0 c.deref_mut-2.ensures.value

second_long : (g : _) (c : goal.After-self-5-1 g) → length c.deref_mut-2.result.now ≡ length c.self.inside.slots.items
second_long g c = ap length (second_lent g c) ∙ c.replace_child.auto.slots ∙ ap length c.deref_mut.ensures.value

third_lent : (g : _) (c : goal.After-self-5-1 g) → c.deref_mut-3.result.now ≡ c.set_parent.new.slots
third_lent g c =
    let long = ap length (sym c.deref_mut-2.ensures.value) in
    lent_again c.self.inside.slots.len _ c.set_parent.new.slots c.deref_mut-3.result.now
    (c.set_parent.auto.slots ∙ sym long) (c.self.inside.slots.ok.0 ∙ sym (long ∙ second_long g c)) c.deref_mut-3.ensures.value

third_long : (g : _) (c : goal.After-self-5-1 g) → length c.deref_mut-3.result.now ≡ length c.self.inside.slots.items
third_long g c = ap length (third_lent g c) ∙ c.set_parent.auto.slots ∙ second_long g c

-- the node is out of the tree, and its slot before the free ones
detached : (g : _) (c : goal.After-self-5-1 g) (side : Side) (colour : Colour) (subtree : Shape g.row.T.Denot) (item : g.row.T.Denot) (around : List (Frame g.row.T.Denot))
    → c.args.self.now.shape ≡ plug around (fork_on side colour subtree c.args.handle item leaf)
    → IsSound c.free_slot-item.new.slots c.replace_child.new.root c.args.handle (c.self.inside.free + 1) (plug around subtree)
detached g c side colour subtree item around is =
    let sound = IsSound-as _ _ _ _ _ (plug around (fork_on side colour subtree c.args.handle item leaf)) is
    (IsSound-view _ _ _ _ _ c.args.self.now c.self.invariant c.self.view_is) in
    sound-left c.self.inside.slots.items c.replace_child.new.slots c.set_parent.new.slots c.free_slot-item.new.slots
    c.self.inside.root c.replace_child.new.root c.self.inside.first_free c.self.inside.free around side colour subtree c.args.handle item
    c.links_at-links.result c.if-links.subtree sound (rw c.deref.ensures.value at c.links_at-links.ensures) (only_subtree g c)
    (rw c.deref_mut.ensures.value at c.replace_child.ensures) (rw (second_lent g c) at c.set_parent.ensures)
    c.free_slot-item.ensures.freed
    (λ other apart. c.free_slot-item.ensures.others other apart ∙ ap (λ list. slice_get list other) (third_lent g c))
    (c.free_slot-item.auto.slots ∙ third_long g c)

pub invariant_of-self : goal.invariant_of-self
invariant_of-self g c =
    let room = c.requires in
    let long = ap length (sym c.deref_mut-3.ensures.value) in
    sound_back _ _ _ _ _ _
    (written_back _ _ _ (c.free_slot-item.auto.slots ∙ sym long) (c.self.inside.slots.ok.0 ∙ sym (long ∙ third_long g c)))
    (detached g c room.side room.colour room.subtree room.item room.around room.is)

pub returns-clause-shape : goal.returns-clause-shape
returns-clause-shape g c side colour subtree item around is =
    let long = ap length (sym c.deref_mut-3.ensures.value) in
    read_back _ _ _ _ _ _
    (written_back _ _ _ (c.free_slot-item.auto.slots ∙ sym long) (c.self.inside.slots.ok.0 ∙ sym (long ∙ third_long g c)))
    (detached g c side colour subtree item around is)

pub returns-clause-item : goal.returns-clause-item
returns-clause-item g c around colour before item after is =
    let sound = IsSound-view _ _ _ _ _ c.args.self.now c.self.invariant c.self.view_is in
    let lies = alone_in c.self.inside.slots.items _ _ _ c.args.self.now.shape c.args.handle c.requires sound in
    let kept = own_kept _ c.replace_child.new.slots c.set_parent.new.slots _ _ _ _ _ _ _ _ c.links_at-links.result c.if-links.subtree lies
    (rw c.deref.ensures.value at c.links_at-links.ensures) (only_subtree g c)
    (rw c.deref_mut.ensures.value at c.replace_child.ensures) (rw (second_lent g c) at c.set_parent.ensures) in
    c.free_slot-item.ensures.item _ item
    (ap (λ list. slice_get list c.args.handle) (third_lent g c) ∙ kept
    ∙ node_at c.self.inside.slots.items _ _ _ c.args.self.now.shape around colour before c.args.handle item after sound is)

pub returns-clause-handles : goal.returns-clause-handles
returns-clause-handles g c = AreHandles-sound _ _ _ _ _ (invariant_of-self g c)
