use Rattle.std.proofs.Common.{◌-◌, [], ◌∷◌, ◌++◌, sym, ap, ◌∙◌, refl, arith, rules}
use Rattle.i_tree.specs.declared.TheConstants.{EMPTY_REF}
use Rattle.i_tree.specs.declared.rb.links.Slot.TheVariants.{Free}
use Rattle.i_tree.specs.Rb.Shape.{leaf}
use Rattle.i_tree.specs.Rb.Slots.{IsSound}
use Rattle.i_tree.proofs.RbLemmas.Balance.Ranks.{IsCore-from_red_black}
use Rattle.i_tree.proofs.RbLemmas.Slots.FreeSlots.{read_back, sound_back}
use Rattle.i_tree.proofs.RbLemmas.Slots.Growth.{sound-made}
use Rattle.i_tree.proofs.rb.arena.Arena.new.Goals as goal

-- the slots hold the empty tree
made : (g : _) (c : goal.After-add_slots-first_free g)
    → IsSound c.add_slots-first_free.new.slots.items EMPTY_REF c.add_slots-first_free.result (c.max-count.result - 1) leaf
made g c =
    let first = c.push_reserved.new.self in
    let added = c.add_slots-first_free in
    let is = c.push_reserved.ensures.items ∙ ap (λ list. list ++ Free EMPTY_REF ∷ []) (c.in_ok-slots.ensures).items in
    sound-made first.items added.new.slots.items added.result first.len c.max-count.result is added.ensures.kept added.ensures.linked first.ok.0
    (sym added.new.slots.ok.0 ∙ added.ensures.len) (omega arith) (omega arith)

pub invariant_of-result : goal.invariant_of-result
invariant_of-result g c = sound_back _ _ _ _ _ _ refl (made g c)

pub returns : goal.returns
returns g c =
    let added = c.add_slots-first_free.new.slots in
    record {
      makes = record {
        empty = read_back _ _ _ _ _ _ refl (made g c);
        core = rw (read_back _ _ _ _ _ _ refl (made g c)) (IsCore-from_red_black leaf (search rules) (search rules));
        no_handle = λ many. absurd (omega (arith, many));
        refused = search rules;
        slots = (invariant_of-result g c).total ∙ sym added.ok.0 ∙ c.add_slots-first_free.ensures.len ∙ c.max-count.ensures;
      };
    }
