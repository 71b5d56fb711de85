-- A descent of a tree: what stands in front of the subtree that it has come to, what stands behind it, and what was found so far.
use Rattle.std.proofs.Common.{arith, ◌≡◌, ◌≢◌, ℕ, ◌<◌, Bool, true, false, List, [], ◌∷◌, ◌++◌, if◌then◌else◌, refl, sym, ap, ◌∙◌, subst, inl, inr, append_assoc}
use Rattle.std.proofs.lemmas.List.{append-nil}
use Rattle.std.proofs.lemmas.Bool.{ne_eqb}
use Rattle.i_tree.proofs.RbLemmas.Shape.SubtreeHandles.{RanksFall-subtree, ranks_below}
use Rattle.i_tree.specs.Root.Ends.{LastFinds}
use Rattle.i_tree.specs.Rb.Place.{IsPlaceOf, place_below}
use Rattle.i_tree.specs.Rb.Shape.{Shape, leaf, entries, subtree_at, left_at, right_at, rank, RanksFall, IsHandle}
use Rattle.i_tree.specs.Rb.SearchPath.{EndsBetween}
use Rattle.i_tree.specs.declared.TheConstants.{EMPTY_REF}
use Rattle.i_tree.specs.declared.rb.links.Side.TheVariants.{Left, Right}
use Rattle.i_tree.specs.declared.rb.place.Place.{Place}
use Rattle.i_tree.specs.declared.rb.place.Place.TheVariants.{Root, Below}

-- below a handle
place_below-some : (above : ℕ) (on_right : Bool) → above ≢ EMPTY_REF → place_below above on_right ≡ (if on_right then Below above Right else Below above Left)
place_below-some above on_right some = rw (ne_eqb above EMPTY_REF some) refl

-- the child on the side that a test chooses
abbrev pub IsChosen : Bool → ℕ → ℕ → ℕ → Type 0
IsChosen on_right right left next = (on_right ≡ true → next ≡ right) × (on_right ≡ false → next ≡ left)

module _ {T : Type 0} where
  -- these entries stand in front of the subtree and behind it
  pub record IsCutAt (tree : Shape T) (here : ℕ) (front back : List (ℕ × T)) : Type 0 where
    pub live : here ≢ EMPTY_REF → IsHandle tree here
    pub cut : entries tree ≡ front ++ (entries (subtree_at here tree) ++ back)

  pub IsCutAt-top : (tree : Shape T) (here : ℕ) → subtree_at here tree ≡ tree → (here ≢ EMPTY_REF → IsHandle tree here) → IsCutAt tree here [] []
  IsCutAt-top tree here is live = record { live = live; cut = sym (append-nil (entries (subtree_at here tree)) ∙ ap entries is) }

  -- where the subtree is empty, all entries stand in front of it or behind it
  pub cut_at_end : {tree : Shape T} {here : ℕ} {front back : List (ℕ × T)} → IsCutAt tree here front back → subtree_at here tree ≡ leaf → entries tree ≡ front ++ back
  cut_at_end {front = front} {back = back} at is = at.cut ∙ ap (λ subtree. front ++ (entries subtree ++ back)) is

  module _ (tree : Shape T) (here : ℕ) (item : T) (subtrees : entries (subtree_at here tree) ≡ entries (left_at here tree) ++ (here, item) ∷ entries (right_at here tree)) where
    pub falls_left : (next : ℕ) → RanksFall tree → subtree_at next tree ≡ left_at here tree → rank (subtree_at next tree) < rank (subtree_at here tree)
    falls_left next falls is = grind (arith, ranks_below, RanksFall-subtree)

    pub falls_right : (next : ℕ) → RanksFall tree → subtree_at next tree ≡ right_at here tree → rank (subtree_at next tree) < rank (subtree_at here tree)
    falls_right next falls is = grind (arith, ranks_below, RanksFall-subtree)

    module _ {front back : List (ℕ × T)} (at : IsCutAt tree here front back) where
      pub cut_here : entries tree ≡ (front ++ entries (left_at here tree)) ++ (here, item) ∷ (entries (right_at here tree) ++ back)
      cut_here =
          at.cut ∙ ap (λ pairs. front ++ (pairs ++ back)) subtrees
          ∙ ap (λ pairs. front ++ pairs) (append_assoc (entries (left_at here tree)) ((here, item) ∷ entries (right_at here tree)) back)
          ∙ sym (append_assoc front (entries (left_at here tree)) ((here, item) ∷ (entries (right_at here tree) ++ back)))

      pub goes_right : (next : ℕ) → (next ≢ EMPTY_REF → IsHandle tree next) → subtree_at next tree ≡ right_at here tree
          → IsCutAt tree next ((front ++ entries (left_at here tree)) ++ (here, item) ∷ []) back
      goes_right next live is =
          record {
            live = live;
            cut = cut_here ∙ sym (append_assoc (front ++ entries (left_at here tree)) ((here, item) ∷ []) (entries (right_at here tree) ++ back))
                ∙ ap (λ subtree. ((front ++ entries (left_at here tree)) ++ (here, item) ∷ []) ++ (entries subtree ++ back)) (sym is);
          }

      pub goes_left : (next : ℕ) → (next ≢ EMPTY_REF → IsHandle tree next) → subtree_at next tree ≡ left_at here tree
          → IsCutAt tree next front ((here, item) ∷ (entries (right_at here tree) ++ back))
      goes_left next live is =
          record {
            live = live;
            cut = cut_here ∙ append_assoc front (entries (left_at here tree)) ((here, item) ∷ (entries (right_at here tree) ++ back))
                ∙ ap (λ subtree. front ++ (entries subtree ++ (here, item) ∷ (entries (right_at here tree) ++ back))) (sym is);
          }

  -- what reading a child says of it
  pub record IsTop (tree subtree : Shape T) (handle : ℕ) : Type 0 where
    pub live : handle ≢ EMPTY_REF → IsHandle tree handle
    pub is : subtree_at handle tree ≡ subtree

  module _ {A : Type 0} (Finds : ℕ × T → A → Type 0) (HoldsBehind : List (ℕ × T) → Type 0) (nothing : A) where
    -- the subtree at the handle is the one at the place; what was found is at the last entry in front of it, and this holds of the
    -- entries behind it
    pub record IsPath (tree : Shape T) (here : ℕ) (place : Place) (found : A) : Type 0 where
      pub front : List (ℕ × T)
      pub back : List (ℕ × T)
      pub at : IsCutAt tree here front back
      pub of : IsPlaceOf tree (subtree_at here tree) front back place
      pub before : LastFinds Finds nothing front found
      pub after : HoldsBehind back

    pub path_top : (tree : Shape T) (here : ℕ) → HoldsBehind [] → IsTop tree tree here → IsPath tree here Root nothing
    path_top tree here holds top =
        record { front = []; back = []; at = IsCutAt-top tree here top.is top.live; of = (sym top.is, refl, refl); before = inl (refl, refl); after = holds }

    pub path_end : (tree : Shape T) (here : ℕ) (place : Place) (found : A) → subtree_at here tree ≡ leaf → IsPath tree here place found → EndsBetween Finds HoldsBehind nothing tree place found
    path_end tree here place found empty way =
        record {
          front = way.front;
          back = way.back;
          between = record { cut = cut_at_end way.at empty; free = subst (λ (subtree : Shape T). IsPlaceOf tree subtree way.front way.back place) empty way.of };
          before = way.before;
          after = way.after;
        }

  -- from an entry on to the subtree on its right, where it was found, or on its left, where it was missed
  module _ {A : Type 0} (Finds : ℕ × T → A → Type 0) (HoldsBehind HoldsThen : List (ℕ × T) → Type 0) (nothing : A) (tree : Shape T) (here : ℕ) (some : here ≢ EMPTY_REF) (item : T)
      (subtrees : entries (subtree_at here tree) ≡ entries (left_at here tree) ++ (here, item) ∷ entries (right_at here tree))
      (left right : ℕ) (on_left : IsTop tree (left_at here tree) left) (on_right : IsTop tree (right_at here tree) right) (place : Place) (found : A) (way : IsPath Finds HoldsBehind nothing tree here place found) where
    path_right : (found' : A) → Finds (here, item) found' → HoldsThen way.back → IsPath Finds HoldsThen nothing tree right (Below here Right) found'
    path_right found' finds holds =
        let front = way.front ++ entries (left_at here tree) in
        record {
          front = front ++ (here, item) ∷ [];
          back = way.back;
          at = goes_right tree here item subtrees way.at right on_right.live on_right.is;
          of = (way.at.live some, sym on_right.is, (front, item, refl));
          before = inr (front, (here, item), refl, finds);
          after = holds;
        }

    path_left : HoldsThen ((here, item) ∷ (entries (right_at here tree) ++ way.back)) → IsPath Finds HoldsThen nothing tree left (Below here Left) found
    path_left holds = grind (arith, goes_left)

    pub path_on : (passed : Bool) (next : ℕ) (found' : A) → IsChosen passed right left next
        → (passed ≡ true → Finds (here, item) found') → (passed ≡ false → found' ≡ found)
        → (passed ≡ true → (back : List (ℕ × T)) → HoldsBehind back → HoldsThen back) → (passed ≡ false → (back : List (ℕ × T)) → HoldsThen ((here, item) ∷ back))
        → IsPath Finds HoldsThen nothing tree next (place_below here passed) found'
    path_on passed next found' chosen finds stays holds misses = grind (arith, place_below-some, path_right, path_left)

  -- either way the rank falls
  module _ (tree : Shape T) (here : ℕ) (item : T) (subtrees : entries (subtree_at here tree) ≡ entries (left_at here tree) ++ (here, item) ∷ entries (right_at here tree)) (falls : RanksFall tree)
      (left right : ℕ) (on_left : IsTop tree (left_at here tree) left) (on_right : IsTop tree (right_at here tree) right) where
    pub falls_on : (passed : Bool) (next : ℕ) → IsChosen passed right left next → rank (subtree_at next tree) < rank (subtree_at here tree)
    falls_on true next chosen = rw (chosen.0 refl) (falls_right tree here item subtrees right falls on_right.is)
    falls_on false next chosen = rw (chosen.1 refl) (falls_left tree here item subtrees left falls on_left.is)
