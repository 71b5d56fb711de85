-- A descent of the status: what it has passed, and that it parts the edges where it ends.
use Rattle.std.proofs.Common.{◌≡◌, ◌≢◌, ℤ, ◌<ℤ◌, ◌≤ℤ◌, Ordering, Less, Equal, Greater, ℕ, Bool, true, false, List, [], ◌∷◌, ◌++◌, refl, sym, ap, ◌∙◌, subst, inl, inr, arith, length, length-append}
use Rattle.std.specs.List.{All}
use Rattle.std.specs.Ordering.{int_cmp, is_le}
use Rattle.std.proofs.lemmas.Cmp.{int_ranked}
use Rattle.std.proofs.lemmas.Int.{ints}
use Rattle.std.specs.Bool.{MatchBool}
use Rattle.std.proofs.lemmas.List.{map-append}
use Rattle.std.proofs.lemmas.List.Elements.{All-head, All-tail}
use Rattle.i_tree.proofs.RootLemmas.Joined.{All-behind}
use Rattle.std.proofs.lemmas.Bool.{ne_eqb}
use Rattle.i_tree.proofs.RbLemmas.SearchPath.Descent.{IsPath, IsTop, goes_left, goes_right}
use Rattle.i_tree.specs.declared.rb.links.Side.TheVariants.{Left, Right}
use Rattle.i_tree.specs.declared.rb.place.Place.{Place}
use Rattle.i_tree.specs.declared.rb.place.Place.TheVariants.{Below}
use Rattle.i_tree.proofs.RbLemmas.Shape.Subtrees.{last_handle-append}
use Rattle.i_tree.specs.Rb.Items.{items_of}
use Rattle.i_tree.specs.Rb.Place.{place_below}
use Rattle.i_tree.specs.Rb.SearchPath.{EndsBetween}
use Rattle.i_tree.specs.Rb.Shape.{Shape, entries, last_handle, left_at, right_at, subtree_at}
use Rattle.i_tree.specs.Root.Ends.{LastFinds, StartsIn}
use Rattle.i_tree.specs.declared.TheConstants.{EMPTY_REF}
use Rattle.plane.specs.declared.columns.descent.DescentEnd.{DescentEnd}
use Rattle.plane.specs.declared.columns.descent.Sought.{Sought}
use Rattle.plane.specs.declared.sweep_line.active.ActiveEdge.{ActiveEdge}
use Rattle.plane.specs.Columns.Descent.{DescendsTo, IsPartedBy, StandsInFront}

-- the entry's handle was found, and its edge stands in front
abbrev pub FindsInFront : Sought → ℕ × ActiveEdge → ℕ → Type 0
FindsInFront sought entry found = (found ≡ entry.0) × StandsInFront sought entry.1

-- the first of these entries doesn't stand in front
abbrev pub BeginsBehind : Sought → List (ℕ × ActiveEdge) → Type 0
BeginsBehind sought entries = StartsIn (λ (entry : ℕ × ActiveEdge). ¬ (StandsInFront sought entry.1)) entries

-- what holds of each edge holds of that of an entry
pub All-at_entry : (P : ActiveEdge → Type 0) (pairs front : List (ℕ × ActiveEdge)) (handle : ℕ) (item : ActiveEdge) (back : List (ℕ × ActiveEdge)) → pairs ≡ front ++ (handle, item) ∷ back
    → All P (items_of pairs) → P item
All-at_entry P pairs front handle item back is all =
    let cut = ap items_of is ∙ map-append (λ (pair : ℕ × ActiveEdge). pair.1) front ((handle, item) ∷ back) in
    All-head P item (items_of back) (All-behind P (items_of front) (item ∷ items_of back) (subst (All P) cut all))

-- to the subtree on the right of an entry whose edge stands in front
pub goes_on_right : (sought : Sought) (tree : Shape ActiveEdge) (here : ℕ) → here ≢ EMPTY_REF → (item : ActiveEdge)
    → (subtrees : entries (subtree_at here tree) ≡ entries (left_at here tree) ++ (here, item) ∷ entries (right_at here tree))
    → (right : ℕ) → IsTop tree (right_at here tree) right → (place : Place) (last : ℕ) → IsPath (FindsInFront sought) (BeginsBehind sought) EMPTY_REF tree here place last
    → StandsInFront sought item → (passed : Bool) → passed ≡ true → (found : ℕ) → found ≡ here → IsPath (FindsInFront sought) (BeginsBehind sought) EMPTY_REF tree right (place_below here passed) found
goes_on_right sought tree here some item subtrees right on_right place last way stands passed is_so found found_is =
    let front = way.front ++ entries (left_at here tree) in
    let is : place_below here passed ≡ Below here Right = ap (place_below here) is_so ∙ rw (ne_eqb here EMPTY_REF some) refl in
    let P : Place → Type 0 = λ place. IsPath (FindsInFront sought) (BeginsBehind sought) EMPTY_REF tree right place found in
    subst P (sym is)
    (record {
      front = front ++ (here, item) ∷ [];
      back = way.back;
      at = goes_right tree here item subtrees way.at right on_right.live on_right.is;
      of = (way.at.live some, sym on_right.is, (front, item, refl));
      before = inr (front, (here, item), refl, (found_is, stands));
      after = way.after;
    })

-- to the subtree on the left of an entry whose edge doesn't stand in front
pub goes_on_left : (sought : Sought) (tree : Shape ActiveEdge) (here : ℕ) → here ≢ EMPTY_REF → (item : ActiveEdge)
    → (subtrees : entries (subtree_at here tree) ≡ entries (left_at here tree) ++ (here, item) ∷ entries (right_at here tree))
    → (left : ℕ) → IsTop tree (left_at here tree) left → (place : Place) (last : ℕ) → IsPath (FindsInFront sought) (BeginsBehind sought) EMPTY_REF tree here place last
    → ¬ (StandsInFront sought item) → (passed : Bool) → passed ≡ false → (found : ℕ) → found ≡ last → IsPath (FindsInFront sought) (BeginsBehind sought) EMPTY_REF tree left (place_below here passed) found
goes_on_left sought tree here some item subtrees left on_left place last way fails passed is_so found found_is =
    let is : place_below here passed ≡ Below here Left = ap (place_below here) is_so ∙ rw (ne_eqb here EMPTY_REF some) refl in
    let P : Place → Type 0 = λ place. IsPath (FindsInFront sought) (BeginsBehind sought) EMPTY_REF tree left place found in
    subst P (sym is)
    (record {
      front = way.front;
      back = (here, item) ∷ (entries (right_at here tree) ++ way.back);
      at = goes_left tree here item subtrees way.at left on_left.live on_left.is;
      of = (way.at.live some, sym on_left.is, (item, entries (right_at here tree) ++ way.back, refl));
      before = subst (LastFinds (FindsInFront sought) EMPTY_REF way.front) (sym found_is) way.before;
      after = fails;
    })

-- A list is parted by a test into those that pass and those that don't. Where the last of some pass, and the first of the rest
-- doesn't, these are the same parts.
module _ {X : Type 0} (P : X → Type 0) where
  -- the edge that ends a list is among what is in front, where it passes
  pub same_parts : (front back passed others : List X) → front ++ back ≡ passed ++ others → All P passed → All (λ x. ¬ (P x)) others
      → ((rest : List X) (last : X) → front ≡ rest ++ last ∷ [] → P last) → ((first : X) (rest : List X) → back ≡ first ∷ rest → ¬ (P first))
      → (front ≡ passed) × (back ≡ others)
  same_parts [] back [] others same all none ends begins = (refl, same)
  same_parts [] [] (first ∷ passed) others same all none ends begins = absurd (cc)
  same_parts [] (x ∷ back) (first ∷ passed) others same all none ends begins =
      let head : x ≡ first = cc in
      absurd (begins x back refl (subst P (sym head) (All-head P first passed all)))
  same_parts (x ∷ front) back [] others same all none ends begins = absurd (last_fails front x back others same none ends)
    where
      last_fails : (front : List X) (x : X) (back others : List X) → (x ∷ front) ++ back ≡ others → All (λ x. ¬ (P x)) others
          → ((rest : List X) (last : X) → x ∷ front ≡ rest ++ last ∷ [] → P last) → ⊥
      last_fails [] x back others same none ends =
          All-head (λ (x : X). ¬ (P x)) x back (subst (All (λ (x : X). ¬ (P x))) (sym same) none) (ends [] x refl)
      last_fails (y ∷ front) x back others same none ends =
          last_fails front y back ((y ∷ front) ++ back) refl
          (All-tail (λ (x : X). ¬ (P x)) x ((y ∷ front) ++ back) (subst (All (λ (x : X). ¬ (P x))) (sym same) none))
          (λ rest last is. ends (x ∷ rest) last (ap (λ (xs : List X). x ∷ xs) is))
  same_parts (x ∷ front) back (first ∷ passed) others same all none ends begins =
      let head : x ≡ first = cc in
      let tail : front ++ back ≡ passed ++ others = cc in
      let inner = same_parts front back passed others tail (All-tail P first passed all) none (λ rest last is. ends (x ∷ rest) last (ap (λ (xs : List X). x ∷ xs) is)) begins in
      (ap (λ (xs : List X). x ∷ xs) inner.0 ∙ ap (λ (y : X). y ∷ passed) head, inner.1)

-- there is one way to part a list so
pub parted_once : {X : Type 0} (P : X → Type 0) (front back passed others : List X) → front ++ back ≡ passed ++ others → All P front → All (λ x. ¬ (P x)) back → All P passed → All (λ x. ¬ (P x)) others
    → (front ≡ passed) × (back ≡ others)
parted_once {X} P front back passed others same all_front none_back all none =
    let Fails : X → Type 0 = λ x. ¬ (P x) in
    same_parts P front back passed others same all none
    (λ rest last is. All-head P last [] (All-behind P rest (last ∷ []) (subst (All P) is all_front)))
    (λ first rest is. All-head Fails first rest (subst (All Fails) is none_back))

module _ (sought : Sought) (tree : Shape ActiveEdge) (end : DescentEnd) (ended : EndsBetween (FindsInFront sought) (BeginsBehind sought) EMPTY_REF tree (place_below end.above end.on_right) end.last) where
  -- the last in front stands in front
  last_passes : (front : List (ℕ × ActiveEdge)) → LastFinds (FindsInFront sought) EMPTY_REF front end.last → (rest : List ActiveEdge) (last : ActiveEdge) → items_of front ≡ rest ++ last ∷ [] → StandsInFront sought last
  last_passes front (inl (none, found)) rest last is = absurd (omega (arith, ap length (sym (ap items_of none) ∙ is), length-append rest (last ∷ [])))
  last_passes front (inr (before, entry, cut, finds)) rest last is =
      let whole : items_of before ++ entry.1 ∷ [] ≡ rest ++ last ∷ [] = sym (ap items_of cut ∙ map-append (λ (pair : ℕ × ActiveEdge). pair.1) before (entry ∷ [])) ∙ is in
      subst (StandsInFront sought) (same_last (items_of before) rest entry.1 last whole) finds.1
    where
      same_last : (xs ys : List ActiveEdge) (x y : ActiveEdge) → xs ++ x ∷ [] ≡ ys ++ y ∷ [] → x ≡ y
      same_last [] [] x y same = cc
      same_last [] (y' ∷ ys) x y same = absurd (omega (arith, ap length same, length-append ys (y ∷ [])))
      same_last (x' ∷ xs) [] x y same = absurd (omega (arith, ap length same, length-append xs (x ∷ [])))
      same_last (x' ∷ xs) (y' ∷ ys) x y same = let tail : xs ++ x ∷ [] ≡ ys ++ y ∷ [] = cc in same_last xs ys x y tail

  -- the first behind doesn't
  first_fails : (back : List (ℕ × ActiveEdge)) → BeginsBehind sought back → (first : ActiveEdge) (rest : List ActiveEdge) → items_of back ≡ first ∷ rest → ¬ (StandsInFront sought first)
  first_fails [] begins first rest is = absurd (cc)
  first_fails (entry ∷ back) begins first rest is = let head : entry.1 ≡ first = cc in subst (λ (edge : ActiveEdge). ¬ (StandsInFront sought edge)) head begins

  found_is : (front : List (ℕ × ActiveEdge)) → LastFinds (FindsInFront sought) EMPTY_REF front end.last → end.last ≡ last_handle front
  found_is front (inl (none, found)) = found ∙ sym (ap last_handle none)
  found_is front (inr (before, entry, cut, finds)) = finds.0 ∙ sym (ap last_handle cut ∙ last_handle-append before entry [])

  pub descended : (front back : List ActiveEdge) → IsPartedBy sought (items_of (entries tree)) front back → DescendsTo sought tree end
  descended front back parted =
      let cut : items_of ended.front ++ items_of ended.back ≡ front ++ back
      = sym (ap items_of ended.between.cut ∙ map-append (λ (pair : ℕ × ActiveEdge). pair.1) ended.front ended.back) ∙ parted.is in
      let same = same_parts (StandsInFront sought) (items_of ended.front) (items_of ended.back) front back cut parted.passed parted.others (last_passes ended.front ended.before) (first_fails ended.back ended.after) in
      record {
        front = ended.front;
        back = ended.back;
        between = ended.between;
        last_is = found_is ended.front ended.before;
        passed = subst (All (StandsInFront sought)) (sym same.0) parted.passed;
        others = subst (All (λ (edge : ActiveEdge). ¬ (StandsInFront sought edge))) (sym same.1) parted.others;
      }

-- the test whether a number is at most another
pub is_upto : (a b : ℤ) (o : Ordering) → o ≡ int_cmp a b → MatchBool (is_le o) (a ≤ℤ b) (¬ (a ≤ℤ b))
is_upto a b Less is = let less : a <ℤ b = int_ranked a b Less is in omega (arith, ints, less)
is_upto a b Equal is = let same : a ≡ b = int_ranked a b Equal is in omega (arith, ints, same)
is_upto a b Greater is = λ upto. let greater : b <ℤ a = int_ranked a b Greater is in omega (arith, ints, greater, upto)
