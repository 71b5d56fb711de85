-- A descent of a tree whose entries go: the place that it has come to, and what it has counted.
use Rattle.std.proofs.Common.{Bool, true, false, ◌≡◌, ◌≢◌, ℕ, ◌+◌, ◌≤◌, List, [], ◌∷◌, ◌++◌, length, sym, ap, ◌∙◌, arith, length-append}
use Rattle.std.proofs.lemmas.List.{map-append}
use Rattle.std.proofs.lemmas.List.Elements.{All-contains}
use Rattle.std.specs.List.{All, Contains, filter}
use Rattle.std.specs.declared.cmp.Ordering.{Ordering}
use Rattle.std.specs.declared.cmp.Ordering.TheVariants.{Greater}
use Rattle.i_tree.proofs.ExpiringLemmas.SearchPath.{IsFollowed, length-items}
use Rattle.i_tree.proofs.RootLemmas.Lists.{Contains-filter}
use Rattle.i_tree.proofs.RbLemmas.SearchPath.Descent.{IsCutAt, IsCutAt-top, IsPath}
use Rattle.i_tree.proofs.RbLemmas.SearchPath.Asked.{IsAsked}
use Rattle.i_tree.proofs.RbLemmas.SearchPath.Counts.{IsCounted}
use Rattle.i_tree.proofs.RbLemmas.SearchPath.Entries.{values-LosesAt}
use Rattle.i_tree.proofs.RootLemmas.Joined.{Contains-middle}
use Rattle.i_tree.proofs.RbLemmas.Shape.SubtreeHandles.{SubtreeAt-live}
use Rattle.i_tree.proofs.RootLemmas.Withouts.{Without-middle, filter-without}
use Rattle.i_tree.specs.Root.Change.{Without}
use Rattle.i_tree.specs.Root.Ends.{FirstFinds}
use Rattle.i_tree.specs.Expiring.Descent.{FindsAbove, MayCall}
use Rattle.i_tree.specs.Expiring.Tree.{items}
use Rattle.i_tree.specs.Rb.SearchPath.{FindsNotAbove}
use Rattle.i_tree.specs.Rb.Place.{IsPlace, subtree_of}
use Rattle.i_tree.specs.Rb.RbTree.{Contents, slots}
use Rattle.i_tree.specs.Rb.Removal.{ChangesSide, LosesAt}
use Rattle.i_tree.specs.Set.Pairs.{values}
use Rattle.i_tree.specs.Rb.Balance.{IsCore}
use Rattle.i_tree.specs.Rb.Shape.{Shape, top, entries, rank, subtree_at, left_at, right_at, IsHandle}
use Rattle.i_tree.specs.Root.Steps.{Counts}
use Rattle.i_tree.specs.declared.TheConstants.{EMPTY_REF}
use Rattle.i_tree.specs.declared.rb.place.Place.{Place}
use Rattle.i_tree.specs.declared.rb.links.Side.TheVariants.{Left, Right}
use Rattle.i_tree.specs.declared.rb.place.Place.TheVariants.{Root, Below}

module _ {T : Type 0} where
  top_live : (tree : Shape T) (here : ℕ) → IsHandle tree here → top (subtree_at here tree) ≡ here
  top_live tree here live = ap top (SubtreeAt-live here tree live).is

  -- what a removal keeps above the handle
  pub record IsRemoved (tree : Shape T) (here : ℕ) (tree' : Shape T) : Type 0 where
    pub left : (above : ℕ) → IsHandle tree above → top (left_at above tree) ≡ here → ChangesSide tree tree' above (left_at above tree) (left_at above tree')
    pub right : (above : ℕ) → IsHandle tree above → top (right_at above tree) ≡ here → ChangesSide tree tree' above (right_at above tree) (right_at above tree')
    pub rank : rank tree' ≤ rank tree

  module _ {A : Type 0} (Finds : ℕ × T → A → Type 0) (HoldsBehind : List (ℕ × T) → Type 0) (nothing : A) (tree tree' : Shape T) (here : ℕ) (live : IsHandle tree here) (gone : IsRemoved tree here tree') (found : A) where
    changes_left : (above : ℕ) → IsHandle tree above → left_at above tree ≡ subtree_at here tree → ChangesSide tree tree' above (left_at above tree) (left_at above tree')
    changes_left above live_above is = gone.left above live_above (ap top is ∙ top_live tree here live)

    changes_right : (above : ℕ) → IsHandle tree above → right_at above tree ≡ subtree_at here tree → ChangesSide tree tree' above (right_at above tree) (right_at above tree')
    changes_right above live_above is = gone.right above live_above (ap top is ∙ top_live tree here live)

    pub place_stays : (place : Place) → IsPath Finds HoldsBehind nothing tree here place found → IsPlace tree' place
    place_stays place way = grind (arith, changes_left, changes_right)

    -- the place is read again: what was found stays
    module _ (next : ℕ) (next_live : next ≢ EMPTY_REF → IsHandle tree' next) where
      side_stays : (old_side new_side : Shape T) (above : ℕ) (front back : List (ℕ × T)) → ChangesSide tree tree' above old_side new_side → subtree_at next tree' ≡ new_side
          → old_side ≡ subtree_at here tree → IsCutAt tree here front back → IsCutAt tree' next front back
      side_stays old_side new_side above front back changed is side at = grind arith

      pub path_stays : (place : Place) → subtree_at next tree' ≡ subtree_of place tree' → IsPath Finds HoldsBehind nothing tree here place found → IsPath Finds HoldsBehind nothing tree' next place found
      path_stays Root is way =
          let cut = IsCutAt-top tree' next is next_live in
          record {
            front = way.front;
            back = way.back;
            at = record {
              live = next_live;
              cut = cut.cut ∙ ap (λ pairs. pairs ++ (entries (subtree_at next tree') ++ [])) (sym way.of.1) ∙ ap (λ pairs. way.front ++ (entries (subtree_at next tree') ++ pairs)) (sym way.of.2);
            };
            of = (sym is, way.of.1, way.of.2);
            before = way.before;
            after = way.after;
          }
      path_stays (Below above Left) is way =
          let changed = changes_left above way.of.0 way.of.1 in
          record {
            front = way.front;
            back = way.back;
            at = side_stays (left_at above tree) (left_at above tree') above way.front way.back changed is way.of.1 way.at;
            of = (changed.live, sym is, way.of.2);
            before = way.before;
            after = way.after;
          }
      path_stays (Below above Right) is way =
          let changed = changes_right above way.of.0 way.of.1 in
          record {
            front = way.front;
            back = way.back;
            at = side_stays (right_at above tree) (right_at above tree') above way.front way.back changed is way.of.1 way.at;
            of = (changed.live, sym is, way.of.2);
            before = way.before;
            after = way.after;
          }

      pub rank_stays : (place : Place) → subtree_at next tree' ≡ subtree_of place tree' → IsPath Finds HoldsBehind nothing tree here place found → rank (subtree_at next tree') ≤ rank (subtree_at here tree)
      rank_stays Root is way = omega (arith, gone.rank, ap rank is, ap rank way.of.0)
      rank_stays (Below above Left) is way = let changed = changes_left above way.of.0 way.of.1 in omega (arith, changed.rank, ap rank is, ap rank way.of.1)
      rank_stays (Below above Right) is way = let changed = changes_right above way.of.0 way.of.1 in omega (arith, changed.rank, ap rank is, ap rank way.of.1)

  -- the entries of a tree that loses the one at a handle
  module _ (MayGo : T → Type 0) (tree tree' : Shape T) (front : List (ℕ × T)) (here : ℕ) (item : T) (back : List (ℕ × T)) (cut : entries tree ≡ front ++ (here, item) ∷ back) (loses : LosesAt here front back (entries tree')) where
    items_before : items tree ≡ values front ++ item ∷ values back
    items_before = ap values cut ∙ map-append (λ (entry : ℕ × T). entry.1) front ((here, item) ∷ back)

    items_after : items tree' ≡ values front ++ values back
    items_after = values-LosesAt here front back (entries tree') loses

    pub items_without : MayGo item → Without MayGo (items tree) (items tree')
    items_without goes = rw (items_before, items_after) (Without-middle (values front) item (values back) goes)

    pub one_less : length (entries tree') + 1 ≡ length (entries tree)
    one_less =
        omega (arith, length-items tree, length-items tree', ap length items_before, ap length items_after, length-append (values front) (item ∷ values back), length-append (values front) (values back))

-- what may be asked about the live ones of the old items may be asked about a live one that is left
pub asked_here : {T : Type 0} (p : T → Bool) (P : T → Type 0) (old : List T) (tree : Shape T) (front : List (ℕ × T)) (here : ℕ) (item : T) (back : List (ℕ × T))
    → Without (λ x. p x ≡ false) old (items tree) → entries tree ≡ front ++ (here, item) ∷ back → All P (filter p old) → p item ≡ true → P item
asked_here {T} p P old tree front here item back kept cut all live =
    let contained : Contains (items tree) item = rw (ap values cut ∙ map-append (λ (entry : ℕ × T). entry.1) front ((here, item) ∷ back)) (Contains-middle (values front) item (values back)) in
    All-contains P (filter p old) item all (rw (filter-without p (λ x fails. fails) kept) (Contains-filter p (items tree) item live contained))

-- A descent that has come to a place: the live entry in front of it passed and the live one behind it didn't; `said` is what the
-- first was called. What is gone was not live, and as long as nothing is gone all on the search path are live.
pub record IsDescent {S K V : Type 0} (Made : S → S → Counts → Type 0) (is_live : K → Bool) (MayAnswer : K → Ordering → Type 0) (before now : Contents (K × V)) (old new : S) (here : ℕ) (place : Place) (last : ℕ) (said : Ordering) (next : ℕ) : Type 0 where
  pub way : IsPath (FindsNotAbove (MayCall is_live MayAnswer)) (λ back. FirstFinds (FindsAbove is_live MayAnswer) EMPTY_REF back next) (EMPTY_REF, Greater) now.shape here place (last, said)
  pub kept : Without (λ (pair : K × V). is_live pair.0 ≡ false) (items before.shape) (items now.shape)
  pub slots : slots now ≡ slots before
  pub same : length (entries now.shape) ≡ length (entries before.shape) → now ≡ before
  pub follows : IsFollowed is_live MayAnswer before now here
  pub asked : IsAsked Made (MayCall is_live MayAnswer) (length (entries now.shape) ≡ length (entries before.shape)) before.shape old new (subtree_at here now.shape)
  pub counted : IsCounted Made old new (rank before.shape) (rank (subtree_at here now.shape)) (length (entries before.shape)) (length (entries now.shape))
  pub core : IsCore now.shape
  pub first : IsCore before.shape
