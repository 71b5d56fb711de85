-- The chunks that a vector lends to a call, and what it has once they come back.
use Rattle.std.proofs.Common.{arith, ◌≡◌, ℕ, List, [], ◌++◌, take, length, replicate, Vec, ap, sym, ◌∙◌}
use Rattle.std.proofs.lemmas.List.{length-map, length-replicate, take_at}
use Rattle.i_tree.specs.Seg.Copies.{copies_in, PlacesCopies}

module _ {V A : Type 0} where
  lengths : (chunks : List (Vec (ℕ × V) A)) → length (copies_in chunks) ≡ length chunks
  lengths chunks = length-map chunks (λ chunk. chunk.items)

  -- as many are lent as the vector has
  pub all-lent : (count : ℕ) (items lent : List (Vec (ℕ × V) A)) → length (copies_in items) ≡ count → lent ≡ items → length lent ≡ count
  all-lent count items lent whole shown = ap length shown ∙ sym (lengths items) ∙ whole

  -- where as many come back, the vector has these alone
  pub all-back : (count : ℕ) (lent back behind : List (Vec (ℕ × V) A)) → length lent ≡ count → length (copies_in back) ≡ length (copies_in lent) → take count (back ++ behind) ≡ back
  all-back count lent back behind long same = take_at back behind count (sym (lengths back) ∙ same ∙ lengths lent ∙ long)

  -- copies are placed among those of the vector, which making room left as they were
  pub placed-after_room : (count mask : ℕ) (value : V) (items lent roomy behind again filled : List (Vec (ℕ × V) A)) → length lent ≡ count → lent ≡ items → copies_in roomy ≡ copies_in lent
      → again ≡ take count (roomy ++ behind) → PlacesCopies mask value (copies_in again) (copies_in filled) → PlacesCopies mask value (copies_in items) (copies_in filled)
  placed-after_room count mask value items lent roomy behind again filled long shown same shown_again placed = grind (arith, all-back)

  -- cleared chunks come back as the vector's
  pub all-cleared : (count chunks : ℕ) (lent back behind : List (Vec (ℕ × V) A)) → length lent ≡ count → length lent ≡ chunks → copies_in back ≡ replicate (length lent) []
      → copies_in (take count (back ++ behind)) ≡ replicate chunks []
  all-cleared count chunks lent back behind long whole cleared = grind (arith, all-back, length-replicate, lengths)
