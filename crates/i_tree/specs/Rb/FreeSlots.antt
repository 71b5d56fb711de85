-- Free slots of the arena, and how they are added. No public clause cites this module.
use Rattle.std.specs.Prelude.{◌≡◌, ℕ, zero, suc, ◌+◌, List, ◌∷◌, Some, slice_get}
use Rattle.i_tree.specs.declared.rb.links.Slot.{Slot}
use Rattle.i_tree.specs.declared.rb.links.Slot.TheVariants.{Free}

-- so many numbers from the first one on, the greatest first, before the others
abbrev pub with_numbers : ℕ → ℕ → List ℕ → List ℕ
with_numbers first zero others = others
with_numbers first (suc count) others = (first + count) ∷ with_numbers first count others

module _ {T : Type 0} where
  abbrev pub IsFree : List (Slot T) → ℕ → Type 0
  IsFree slots handle = (next : ℕ) × (slice_get slots handle ≡ Some (Free next))

  -- each slot of the old list is the same in the new one
  abbrev pub Keeps : List (Slot T) → List (Slot T) → Type 0
  Keeps old new = (handle : ℕ) (slot : Slot T) → slice_get old handle ≡ Some slot → slice_get new handle ≡ Some slot
