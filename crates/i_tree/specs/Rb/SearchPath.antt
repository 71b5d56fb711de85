-- Which items stand on a search path, how many of them were asked about, and where a descent of a tree ends. For the private contracts of both trees.
use Rattle.std.specs.Prelude.{◌≡◌, ℕ, Bool, false, not, List, [], ◌∷◌, length, if◌then◌else◌}
use Rattle.std.specs.Ordering.{is_gt}
use Rattle.std.specs.declared.cmp.Ordering.{Ordering}
use Rattle.std.specs.declared.cmp.Ordering.TheVariants.{Greater}
use Rattle.i_tree.specs.Rb.Place.{IsPlaceBetween}
use Rattle.i_tree.specs.Rb.Shape.{Shape, leaf, fork}
use Rattle.i_tree.specs.Root.Ends.{LastFinds, StartsIn}
use Rattle.i_tree.specs.Root.Steps.{Counts}
use Rattle.i_tree.specs.declared.TheConstants.{EMPTY_REF}
use Rattle.i_tree.specs.declared.rb.place.Place.{Place}

-- an item passes exactly where it isn't called Greater
abbrev pub AnswersAs : {T : Type 0} → (T → Ordering → Type 0) → (T → Bool) → Type 0
AnswersAs {T} may_answer passes = (item : T) (answer : Ordering) → may_answer item answer → not (is_gt answer) ≡ passes item

-- the search path by a test: from the top on, to the right of each item that passes, and to the left of each other one
abbrev pub way_by : {T : Type 0} → (T → Bool) → Shape T → List T
way_by passes leaf = []
way_by passes (fork _ before _ item after) = item ∷ (if passes item then way_by passes after else way_by passes before)

-- The comparisons made between two states of a counter are exactly one for each item on the search path, by each test that says
-- which items aren't called Greater. `Made` says which counts were made.
pub record AsksAlong {S T : Type 0} (Made : S → S → Counts → Type 0) (may_answer : T → Ordering → Type 0) (old new : S) (tree : Shape T) : Type 0 where
  pub made : Counts
  pub counted : Made old new made
  pub asked : (passes : T → Bool) → AnswersAs may_answer passes → made.comparisons ≡ length (way_by passes tree)

-- No subtree is at the place. Found is what the entry in front of it gives, and of the entries behind it this holds.
pub record EndsBetween {T A : Type 0} (Finds : ℕ × T → A → Type 0) (HoldsBehind : List (ℕ × T) → Type 0) (nothing : A) (tree : Shape T) (place : Place) (found : A) : Type 0 where
  pub front : List (ℕ × T)
  pub back : List (ℕ × T)
  pub between : IsPlaceBetween tree front back place
  pub before : LastFinds Finds nothing front found
  pub after : HoldsBehind back

-- `MayAnswer` says how an item may be called by what is sought.
module _ {T : Type 0} (MayAnswer : T → Ordering → Type 0) where
  -- the handle and the answer of an entry that wasn't called Greater
  abbrev pub FindsNotAbove : ℕ × T → ℕ × Ordering → Type 0
  FindsNotAbove entry found = (found.0 ≡ entry.0) × MayAnswer entry.1 found.1 × (is_gt found.1 ≡ false)

  -- a search has ended behind all that it didn't call Greater
  abbrev pub SearchesBetween : Shape T → Place → ℕ → Ordering → Type 0
  SearchesBetween tree place found said =
      EndsBetween FindsNotAbove (StartsIn (λ entry. MayAnswer entry.1 Greater)) (EMPTY_REF, Greater) tree place (found, said)
