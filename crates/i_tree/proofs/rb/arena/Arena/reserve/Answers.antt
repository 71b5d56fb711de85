use Rattle.std.proofs.Common.{◌≡◌, ◌+◌, ◌-◌, ℕ, List, sym, ap, ◌∙◌, subst, refl, arith, rules}
use Rattle.i_tree.specs.declared.rb.links.Slot.{Slot}
use Rattle.i_tree.specs.Rb.RbTree.{slots}
use Rattle.i_tree.specs.Rb.Shape.{Shape}
use Rattle.i_tree.specs.Rb.Slots.{IsSound}
use Rattle.i_tree.proofs.RbLemmas.Slots.FreeSlots.{read_back, sound_back}
use Rattle.i_tree.proofs.RbLemmas.Slots.Growth.{sound-grown}
use Rattle.i_tree.proofs.rb.arena.Arena.reserve.Goals as goal

-- the old tree is in the slots
grown : (g : _) (c : goal.After-self-then-capacity-before-1 g)
    → IsSound c.add_slots-self-inside.new.slots.items c.self.inside.root c.add_slots-self-inside.result (c.self.inside.free + (c.args.capacity - c.len-before.result)) c.args.self.now.shape
grown g c =
    let inside = c.self.inside in
    let old = c.reserve_exact.new.self in
    let added = c.add_slots-self-inside in
    let Holds : Shape g.row.T.Denot → Type 0 = λ tree. IsSound inside.slots.items inside.root inside.first_free inside.free tree in
    let Lies : List (Slot g.row.T.Denot) → Type 0 = λ list. IsSound list inside.root inside.first_free inside.free c.args.self.now.shape in
    let Has : ℕ → Type 0 = λ size. IsSound added.new.slots.items inside.root added.result (inside.free + (c.args.capacity - size)) c.args.self.now.shape in
    let same = (c.in_ok-reserve_exact.ensures).items in
    let sound = subst Lies (sym same) (subst Holds (ap (λ contents. contents.shape) c.self.view_is) c.self.invariant) in
    let size : old.len ≡ c.len-before.result = omega (arith, (c.in_ok-reserve_exact.ensures).len) in
    subst Has size
    (sound-grown old.items added.new.slots.items inside.root inside.first_free added.result inside.free old.len c.args.capacity c.args.self.now.shape sound added.ensures.kept added.ensures.linked old.ok.0
    (sym added.new.slots.ok.0 ∙ added.ensures.len) (omega arith) (omega arith))

pub invariant_of-self-then-capacity-before : goal.invariant_of-self-then-capacity-before
invariant_of-self-then-capacity-before g c = sound_back _ _ _ _ _ _ refl (grown g c)

pub returns-in_ok-reserve_exact : goal.returns-in_ok-reserve_exact
returns-in_ok-reserve_exact g c =
    let added = c.add_slots-self-inside.new.slots in
    let as_seen = ap (λ contents. slots contents) c.self.view_is in
    record {
      reserves = record {
        shape = read_back _ _ _ _ _ _ refl (grown g c);
        err = search rules;
        with_slots = search rules;
        no_handle = λ many. absurd (omega (arith, many));
        refused = search rules;
        slots = (invariant_of-self-then-capacity-before g c).total ∙ sym added.ok.0 ∙ omega (arith, c.self.invariant.total, c.add_slots-self-inside.ensures.len);
      };
    }
