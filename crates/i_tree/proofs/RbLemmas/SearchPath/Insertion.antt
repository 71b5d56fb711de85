-- A new key among keys that rise.
use Rattle.std.proofs.Common.{◌≡◌, ℕ, List, [], ◌∷◌, ◌++◌, length, refl, sym, ap, ◌∙◌, arith, length-append}
use Rattle.std.proofs.Math.Seq.{take-append_seam, drop-append_seam}
use Rattle.std.specs.Cmp.{IsTotalOrder}
use Rattle.std.specs.List.{All, AllPairs, insert}
use Rattle.std.specs.declared.cmp.Ordering.{Ordering}
use Rattle.std.specs.declared.cmp.Ordering.TheVariants.{Less}
use Rattle.std.proofs.lemmas.List.{map-append}
use Rattle.std.proofs.lemmas.Grind.{common_steps}
use Rattle.i_tree.proofs.RootLemmas.Joined.{All-front, All-behind, AllPairs-front, AllPairs-behind, AllPairs-joined, All-from_end, All-from_start}
use Rattle.i_tree.proofs.RbLemmas.SearchPath.Entries.{IsBelow, StartsIn-with}
use Rattle.i_tree.specs.Root.Ends.{LastFinds, StartsIn}
use Rattle.i_tree.specs.Root.Change.{Joins}
use Rattle.i_tree.specs.Rb.Items.{items_of}
use Rattle.i_tree.specs.Rb.Context.{beside}
use Rattle.i_tree.specs.Rb.Place.{IsPlaceBetween}
use Rattle.i_tree.specs.Rb.Shape.{Shape, entries}
use Rattle.i_tree.specs.declared.rb.links.Side.{Side}
use Rattle.i_tree.specs.declared.rb.place.Place.{Place}
use Rattle.i_tree.specs.declared.rb.place.Place.TheVariants.{Root, Below}

module _ {K V : Type 0} (key_of : V → K) {cmp : K → K → Ordering} (o : IsTotalOrder cmp) where
  module _ (key : K) where
    abbrev pub IsLower : ℕ × V → Type 0
    IsLower pair = cmp (key_of pair.1) key ≡ Less

    abbrev pub IsHigher : ℕ × V → Type 0
    IsHigher pair = cmp key (key_of pair.1) ≡ Less

    -- what was found at the last pair in front of a place is lower, and the first one behind it, which was missed, is higher
    pub record IsBetween {A : Type 0} (Finds : ℕ × V → A → Type 0) (Misses Also : ℕ × V → Type 0) (nothing found : A) (front back : List (ℕ × V)) : Type 0 where
      pub last : LastFinds Finds nothing front found
      pub first : StartsIn Misses back
      pub lower : (pair : ℕ × V) → Also pair → Finds pair found → IsLower pair
      pub higher : (pair : ℕ × V) → Also pair → Misses pair → IsHigher pair

    -- then so are all further out
    pub keys_between : {A : Type 0} {Finds : ℕ × V → A → Type 0} {Misses Also : ℕ × V → Type 0} {nothing found : A} (front back : List (ℕ × V)) → IsBetween Finds Misses Also nothing found front back
        → AllPairs (IsBelow key_of o) (front ++ back) → All Also (front ++ back) → All IsLower front × All IsHigher back
    keys_between {A} {Finds} {Misses} {Also} {nothing} {found} front back between below also =
        let Below : ℕ × V → ℕ × V → Type 0 = IsBelow key_of o in (
          All-from_end Below Finds nothing found IsLower Also (λ x y h low. o.trans (key_of x.1) (key_of y.1) key h low) between.lower front (AllPairs-front Below front back below) (All-front Also front back also) between.last,
          All-from_start Below IsHigher (λ x y h high. o.trans key (key_of x.1) (key_of y.1) high h) back (AllPairs-behind Below front back below)
              (StartsIn-with Misses Also IsHigher (λ pair misses too. between.higher pair too misses) back (All-behind Also front back also) between.first),
        )

  -- a pair joins at its place
  pub below_joined : (front : List (ℕ × V)) (handle : ℕ) (value : V) (back : List (ℕ × V)) → AllPairs (IsBelow key_of o) (front ++ back) → All (IsLower (key_of value)) front × All (IsHigher (key_of value)) back
      → AllPairs (IsBelow key_of o) (front ++ (handle, value) ∷ back)
  below_joined front handle value back below (lows, highs) = AllPairs-joined (IsBelow key_of o) front (handle, value) back below lows highs

-- the value of a pair that joins has joined the items
pub Joins-values : {V : Type 0} (before after front : List (ℕ × V)) (handle : ℕ) (value : V) (back : List (ℕ × V)) → before ≡ front ++ back → after ≡ front ++ (handle, value) ∷ back → Joins value (items_of before) (items_of after)
Joins-values before after front handle value back is is_too =
    let old : items_of before ≡ items_of front ++ items_of back = ap items_of is ∙ map-append (λ (pair : ℕ × _). pair.1) front back in
    let new : items_of after ≡ items_of front ++ value ∷ items_of back = ap items_of is_too ∙ map-append (λ (pair : ℕ × _). pair.1) front ((handle, value) ∷ back) in (
      length (items_of front),
      omega (arith, ap length old, length-append (items_of front) (items_of back)),
      new ∙ sym (ap (λ xs. insert xs (length (items_of front)) value) old ∙ rw (take-append_seam (items_of front) (items_of back), drop-append_seam (items_of front) (items_of back)) refl),
    )

-- What an insertion beside a handle says of a place there. The pairs of the tree are `old`, and then `new`.
module _ {V : Type 0} (tree : Shape V) (place : Place) (old new : List (ℕ × V)) (old_is : old ≡ entries tree) (handle : ℕ) (value : V) where
  pub joined_below : (parent : ℕ) (side : Side) → place ≡ Below parent side
      → ((front : List (ℕ × V)) (at : V) (back : List (ℕ × V)) → old ≡ front ++ (parent, at) ∷ back → new ≡ front ++ beside side (handle, value) (parent, at) back)
      → (front back : List (ℕ × V)) → IsPlaceBetween tree front back place → new ≡ front ++ (handle, value) ∷ back
  joined_below parent side is says front back between = grind (arith, common_steps)

  pub joined_root : place ≡ Root → new ≡ (handle, value) ∷ [] → (front back : List (ℕ × V)) → IsPlaceBetween tree front back place → new ≡ front ++ (handle, value) ∷ back
  joined_root is says front back between = grind arith
