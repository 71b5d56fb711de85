-- Facts on entries, by the keys of their items and by their handles.
use Rattle.std.proofs.Common.{arith, ◌≡◌, ℕ, List, [], ◌∷◌, ◌++◌}
use Rattle.std.specs.Cmp.{IsTotalOrder}
use Rattle.std.specs.List.{All}
use Rattle.std.specs.declared.cmp.Ordering.{Ordering}
use Rattle.std.specs.declared.cmp.Ordering.TheVariants.{Less}
use Rattle.std.proofs.lemmas.List.{map-append}
use Rattle.std.proofs.lemmas.List.Elements.{All-head}
use Rattle.i_tree.specs.Root.Ends.{StartsIn}
use Rattle.i_tree.specs.Rb.Removal.{LosesAt}
use Rattle.i_tree.specs.Rb.Items.{items_of}

module _ {X : Type 0} (P Q S : X → Type 0) (join : (x : X) → P x → Q x → S x) where
  pub StartsIn-with : (xs : List X) → All Q xs → StartsIn P xs → StartsIn S xs
  StartsIn-with [] all starts = tt
  StartsIn-with (x ∷ xs) all starts = join x starts (All-head Q x xs all)

module _ {K V : Type 0} (key_of : V → K) {cmp : K → K → Ordering} (o : IsTotalOrder cmp) where
  -- the earlier entry's key is below the later one's
  abbrev pub IsBelow : ℕ × V → ℕ × V → Type 0
  IsBelow earlier later = cmp (key_of earlier.1) (key_of later.1) ≡ Less

module _ {V : Type 0} where
  pub values-append : (front back : List (ℕ × V)) → items_of (front ++ back) ≡ items_of front ++ items_of back
  values-append front back = map-append (λ (pair : ℕ × V). pair.1) front back

  -- a list that loses the pair at a handle loses its value, and no other one
  pub values-LosesAt : (handle : ℕ) (front back after : List (ℕ × V)) → LosesAt handle front back after → items_of after ≡ items_of front ++ items_of back
  values-LosesAt handle front back after = grind (arith, values-append)
