-- One halving of a search: a part of a list, surrounded by what passes and what fails, is cut at a tested item.
use Rattle.std.proofs.Common.{◌≡◌, ℕ, ◌+◌, ◌-◌, ◌<◌, ◌≤◌, Bool, true, false, List, length, get_or, sym, refl, arith}
use Rattle.std.specs.Int.{from_bool}
use Rattle.std.specs.List.{AllWithin, HoldsAt}
use Rattle.std.specs.List.Sorted.{IsPartitionPoint, IsPartitionedBy}
use Rattle.std.proofs.lemmas.Bool.{both_ways, false_from_ne_true}
use Rattle.i_tree.specs.Root.BinarySearch.{ItemsAnswer, Surrounds}

module _ {X : Type 0} (test : X → Bool) (xs : List X) (partitioned : IsPartitionedBy test xs) where
  -- all up to an item that passes do, and all from an item on that fails do
  pub passes_up_to : (middle : ℕ) → middle < length xs → HoldsAt (λ y. test y ≡ true) xs middle → AllWithin (λ y. test y ≡ true) xs 0 (middle + 1)
  passes_up_to middle inside passes k d low below = partitioned k middle d (omega arith) inside (passes d)

  pub fails_from : (middle : ℕ) → HoldsAt (λ y. test y ≡ false) xs middle → AllWithin (λ y. test y ≡ false) xs middle (length xs)
  fails_from middle fails k d from within =
      false_from_ne_true (test (get_or xs k d)) (λ passes. both_ways (test (get_or xs middle d)) (fails d) (partitioned middle k d from within passes))

-- The item in the middle is tested: where it passes, what is left begins there, and otherwise nothing from there on is left.
module _ {X : Type 0} (may_answer : X → Bool → Type 0) (items : List X) (start size half : ℕ) (around : Surrounds may_answer items start size) (some : 0 < half) (twice : half + half ≤ size) where
  pub Surrounds-half : (next : ℕ) (passed : Bool) → HoldsAt (λ item. may_answer item passed) items (start + half) → (passed ≡ true → next ≡ start + half) → (passed ≡ false → next ≡ start)
      → Surrounds may_answer items next (size - half)
  Surrounds-half next true answered there _ =
      let inside : start + half < length items = omega (arith, some, twice, around.within) in
      record {
        some = omega (arith, some, twice);
        within = omega (arith, some, twice, around.within, there refl);
        splits = λ test answers partitioned.
            let (front, back) = around.splits test answers partitioned in (
              λ k d low below. passes_up_to test items partitioned (start + half) inside (λ e. sym (answers (start + half) e inside true (answered e))) k d low (omega (arith, below, there refl)),
              λ k d from within. back k d (omega (arith, from, there refl, some, twice)) within,
            );
      }
  Surrounds-half next false answered _ here =
      let inside : start + half < length items = omega (arith, some, twice, around.within) in
      record {
        some = omega (arith, some, twice);
        within = omega (arith, around.within, here refl);
        splits = λ test answers partitioned.
            let (front, back) = around.splits test answers partitioned in (
              λ k d low below. front k d low (omega (arith, below, here refl)),
              λ k d from within. fails_from test items partitioned (start + half) (λ e. sym (answers (start + half) e inside false (answered e))) k d (omega (arith, from, here refl, twice)) within,
            );
      }

-- The last item that is left is tested: the items that pass are those before it, and it too where it passes.
module _ {X : Type 0} (may_answer : X → Bool → Type 0) (items : List X) (start : ℕ) (around : Surrounds may_answer items start 1) (bit : ℕ) where
  pub Surrounds-one : (passed : Bool) → HoldsAt (λ item. may_answer item passed) items start → bit ≡ from_bool passed
      → (test : X → Bool) → ItemsAnswer may_answer test items → IsPartitionedBy test items → IsPartitionPoint (λ item. test item ≡ true) (λ item. test item ≡ false) items (start + bit)
  Surrounds-one true answered one test answers partitioned =
      let (front, back) = around.splits test answers partitioned in
      let inside : start < length items = omega (arith, around.within) in (
        λ k d low below. passes_up_to test items partitioned start inside (λ e. sym (answers start e inside true (answered e))) k d low (omega (arith, below, one)),
        λ k d from within. back k d (omega (arith, from, one)) within,
      )
  Surrounds-one false answered zero test answers partitioned =
      let (front, back) = around.splits test answers partitioned in
      let inside : start < length items = omega (arith, around.within) in (
        λ k d low below. front k d low (omega (arith, below, zero)),
        λ k d from within. fails_from test items partitioned start (λ e. sym (answers start e inside false (answered e))) k d (omega (arith, from, zero)) within,
      )
