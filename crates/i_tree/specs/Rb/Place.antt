-- Places of a tree where a subtree hangs, and where a new pair goes. For the private contracts of both trees.
use Rattle.std.specs.Prelude.{⊤, ◌≡◌, ◌==◌, ℕ, Bool, List, [], ◌∷◌, ◌++◌, if◌then◌else◌}
use Rattle.i_tree.specs.Rb.Context.{subtree_on}
use Rattle.i_tree.specs.Rb.Shape.{Shape, leaf, entries, IsHandle}
use Rattle.i_tree.specs.declared.TheConstants.{EMPTY_REF}
use Rattle.i_tree.specs.declared.rb.links.Side.{Side}
use Rattle.i_tree.specs.declared.rb.links.Side.TheVariants.{Left, Right}
use Rattle.i_tree.specs.declared.rb.place.Place.{Place}
use Rattle.i_tree.specs.declared.rb.place.Place.TheVariants.{Root, Below}

-- the place on a side of a handle, or that of the root where the handle is `EMPTY_REF`
abbrev pub place_below : ℕ → Bool → Place
place_below above on_right = if above == EMPTY_REF then Root else (if on_right then Below above Right else Below above Left)

module _ {V : Type 0} where
  -- the place is that of the root, or below a live handle
  abbrev pub IsPlace : Shape V → Place → Type 0
  IsPlace tree Root = ⊤
  IsPlace tree (Below handle _) = IsHandle tree handle

  -- the subtree at the place
  abbrev pub subtree_of : Place → Shape V → Shape V
  subtree_of Root tree = tree
  subtree_of (Below handle side) tree = subtree_on side handle tree

  -- the handle's pair is the first one behind a subtree on its left, or the last one in front of a subtree on its right
  abbrev pub IsNextTo : Side → ℕ → List (ℕ × V) → List (ℕ × V) → Type 0
  IsNextTo Left handle front back = (value : V) × (rest : List (ℕ × V)) × (back ≡ (handle, value) ∷ rest)
  IsNextTo Right handle front back = (rest : List (ℕ × V)) × (value : V) × (front ≡ rest ++ (handle, value) ∷ [])

  -- the place is that of a subtree of the tree, where the pairs in front of the subtree and those behind it are these
  abbrev pub IsPlaceOf : Shape V → Shape V → List (ℕ × V) → List (ℕ × V) → Place → Type 0
  IsPlaceOf tree subtree front back Root = (tree ≡ subtree) × (front ≡ []) × (back ≡ [])
  IsPlaceOf tree subtree front back (Below handle side) = IsHandle tree handle × (subtree_on side handle tree ≡ subtree) × IsNextTo side handle front back

  -- a new pair at the place comes between the pairs in front and those behind
  pub record IsPlaceBetween (tree : Shape V) (front back : List (ℕ × V)) (place : Place) : Type 0 where
    pub cut : entries tree ≡ front ++ back
    pub free : IsPlaceOf tree leaf front back place
