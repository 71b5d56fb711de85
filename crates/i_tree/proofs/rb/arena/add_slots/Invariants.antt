use Rattle.std.proofs.Common.{◌≡◌, ◌-◌, ℕ, List, vec_len, vec_capacity}
use Rattle.i_tree.specs.Rb.FreeSlots.{Keeps, with_numbers}
use Rattle.i_tree.specs.Rb.Slots.{IsChain}
use Rattle.i_tree.proofs.rb.arena.add_slots.Given as goal

-- The slots up to the number are there, and chained.
abbrev pub invariant-loop-number : goal.invariant-loop-number
invariant-loop-number g l =
    record {
      kept : Keeps l.fn.slots.items l.slots.items;
      linked :
          (chain : List ℕ) → IsChain l.fn.slots.items l.first_free chain
          → IsChain l.slots.items l.first (with_numbers (vec_len l.fn.slots) (l.number - vec_len l.fn.slots) chain);
      len : vec_len l.slots ≡ l.number;
      capacity : vec_capacity l.slots ≡ vec_capacity l.fn.slots;
    }
