-- Pairs along a line: an order that is monotone along them cuts them, and what is answered stands at the cut.
use Rattle.std.proofs.Common.{◌≡◌, ◌≢◌, ℕ, zero, suc, ◌-◌, ◌<◌, ◌≤◌, Bool, true, false, not, Option, None, Some, List, [], ◌∷◌, ◌++◌, length, take, drop, get_or, slice_get, refl, sym, ap, ◌∙◌, subst, inl, inr, ⊎_elim, arith, append_assoc, length-drop}
use Rattle.std.specs.Cmp.{Equal-is}
use Rattle.std.specs.List.{All, AllPairs, Any}
use Rattle.std.specs.List.Sorted.{IsPartitionPoint, IsPartitionedBy}
use Rattle.std.specs.Option.{MatchOption}
use Rattle.std.specs.Ordering.{is_eq, is_gt, ordering_index}
use Rattle.std.specs.declared.cmp.Ordering.{Ordering}
use Rattle.std.specs.declared.cmp.Ordering.TheVariants.{Less, Equal, Greater}
use Rattle.std.proofs.lemmas.Bool.{cases_eq, cases_lt, both_ways}
use Rattle.std.proofs.Math.Seq.{drop-cons, take-suc}
use Rattle.std.proofs.lemmas.List.{length-take-le, get_or-take, get_or-drop, take-append-drop}
use Rattle.std.proofs.lemmas.List.Elements.{All-append, All-cons, All-head, All-nil, All-weaker}
use Rattle.std.proofs.lemmas.Option.{get_or_from_slice_get}
use Rattle.i_tree.proofs.RootLemmas.Joined.{All-behind, All-from_end, All-from_start, AllPairs-across, AllPairs-front, Any-behind, Any-here}
use Rattle.i_tree.specs.Root.Answer.{AnswersBy}
use Rattle.i_tree.specs.Root.Along.{AreNeighbours, AtMostAlong, HasEqual, IsFirst, IsLast, IsMonotoneAlong, NoneEqual, value_or}
use Rattle.i_tree.specs.Root.Ends.{FirstFinds, LastFinds, StartsIn}

-- the test that isn't Greater
pub at_most_from_test : (r : Ordering) → not (is_gt r) ≡ true → r ≢ Greater
at_most_from_test r passes above = both_ways (not (is_gt r)) (ap (λ s. not (is_gt s)) above) passes

pub above_from_test : (r : Ordering) → not (is_gt r) ≡ false → r ≡ Greater
above_from_test r fails = grind (arith, both_ways)

index_from_test : (r : Ordering) → not (is_gt r) ≡ true → ordering_index r ≤ 1
index_from_test r passes = grind (arith, both_ways)

test_from_index : (r : Ordering) → ordering_index r ≤ 1 → not (is_gt r) ≡ true
test_from_index r few = grind arith

less_from_index : (r : Ordering) → ordering_index r ≤ 0 → r ≡ Less
less_from_index r few = grind arith

above_from_index : (r : Ordering) → 2 ≤ ordering_index r → r ≡ Greater
above_from_index r many = grind arith

pub less_from_apart : (r : Ordering) → r ≢ Equal → r ≢ Greater → r ≡ Less
less_from_apart r level above = grind arith

module _ {X : Type 0} where
  -- a point of a list cuts it
  pub All-before_point : (P Q : X → Type 0) (xs : List X) (count : ℕ) → count ≤ length xs → IsPartitionPoint P Q xs count → All P (take count xs)
  All-before_point P Q xs count within (before, from) k d inside = grind (arith, length-take-le, get_or-take)

  pub All-behind_point : (P Q : X → Type 0) (xs : List X) (count : ℕ) → IsPartitionPoint P Q xs count → All Q (drop count xs)
  All-behind_point P Q xs count (before, from) k d inside = grind (arith, length-drop, get_or-drop)

  module _ {R : Type 0} (of : X → R) (nothing : R) (xs : List X) (found : R) where
    -- what is read in front of a point is found at the end of the items there
    pub LastFinds-at_count : (count : ℕ) → count ≤ length xs → (count ≡ 0 → found ≡ nothing) → (0 < count → (x : X) × (slice_get xs (count - 1) ≡ Some x) × (found ≡ of x))
        → LastFinds (λ x held. held ≡ of x) nothing (take count xs) found
    LastFinds-at_count zero within none last = inl (refl, none refl)
    LastFinds-at_count (suc n) within none last =
        let (x, read, held) = last (omega arith) in
        let at : get_or xs n x ≡ x = get_or_from_slice_get xs n x x (ap (slice_get xs) (omega arith) ∙ read) in
        inr (take n xs, get_or xs n x, take-suc xs n x (omega (arith, within)), held ∙ ap of (sym at))

    -- and what is read behind it at the start of those
    pub FirstFinds-at_count : (count : ℕ) → (length xs ≤ count → found ≡ nothing) → (count < length xs → (x : X) × (slice_get xs count ≡ Some x) × (found ≡ of x))
        → FirstFinds (λ x held. held ≡ of x) nothing (drop count xs) found
    FirstFinds-at_count count none next = ⊎_elim some (λ past. by_back (drop count xs) refl past) (cases_lt count (length xs))
      where
        some : count < length xs → FirstFinds (λ x held. held ≡ of x) nothing (drop count xs) found
        some inside =
            let (x, read, held) = next inside in
            subst (λ (ys : List X). FirstFinds (λ x held. held ≡ of x) nothing ys found) (sym (drop-cons xs count x inside)) (held ∙ ap of (sym (get_or_from_slice_get xs count x x read)))

        by_back : (back : List X) → drop count xs ≡ back → length xs ≤ count → FirstFinds (λ x held. held ≡ of x) nothing (drop count xs) found
        by_back [] is past = subst (λ (ys : List X). FirstFinds (λ x held. held ≡ of x) nothing ys found) (sym is) (none past)
        by_back (x ∷ rest) is past = absurd (omega (arith, past, ap length is, length-drop count xs))

module _ {K V : Type 0} where
  module _ (P : K × V → Type 0) where
    -- where all in front of a cut meet P and none behind it does, the last in front is the last that does
    pub IsLast-at_cut : (front back : List (K × V)) (found : Option (K × V)) → All P front → All (λ pair. ¬ (P pair)) back → LastFinds (λ pair held. held ≡ Some pair) None front found
        → IsLast P (front ++ back) found
    IsLast-at_cut front back found meets misses (inl (none, is)) =
        subst (IsLast P (front ++ back)) (sym is) (subst (λ pairs. All (λ pair. ¬ (P pair)) (pairs ++ back)) (sym none) misses)
    IsLast-at_cut front back found meets misses (inr (rest, last, cut, is)) =
        subst (IsLast P (front ++ back)) (sym is)
        (rest, back, ap (λ pairs. pairs ++ back) cut ∙ append_assoc rest (last ∷ []) back, All-head P last [] (All-behind P rest (last ∷ []) (subst (All P) cut meets)), misses)

    -- where none in front of a cut meets P and all behind it do, the first behind it is the first that does
    pub IsFirst-at_cut : (front back : List (K × V)) (found : Option (K × V)) → All (λ pair. ¬ (P pair)) front → All P back → FirstFinds (λ pair held. held ≡ Some pair) None back found
        → IsFirst P (front ++ back) found
    IsFirst-at_cut front [] found misses meets is =
        subst (IsFirst P (front ++ [])) (sym is) (All-append (λ pair. ¬ (P pair)) front [] misses (All-nil (λ pair. ¬ (P pair))))
    IsFirst-at_cut front (pair ∷ rest) found misses meets is =
        subst (IsFirst P (front ++ pair ∷ rest)) (sym is) (front, rest, refl, All-head P pair rest meets, misses)

  -- the pair whose value is found at an end
  pub last_value : (default value : V) (pairs : List (K × V)) → LastFinds (λ pair held. held ≡ pair.1) default pairs value
      → (found : Option (K × V)) × LastFinds (λ pair held. held ≡ Some pair) None pairs found × (value ≡ value_or default found)
  last_value default value pairs (inl (none, is)) = (None, inl (none, refl), is)
  last_value default value pairs (inr (rest, last, cut, is)) = (Some last, inr (rest, last, cut, refl), is)

  pub first_value : (default value : V) (pairs : List (K × V)) → FirstFinds (λ pair held. held ≡ pair.1) default pairs value
      → (found : Option (K × V)) × FirstFinds (λ pair held. held ≡ Some pair) None pairs found × (value ≡ value_or default found)
  first_value default value [] is = (None, refl, is)
  first_value default value (pair ∷ rest) is = (Some pair, refl, is)

  module _ (pairs : List (K × V)) (count : ℕ) (within : count ≤ length pairs) where
    -- where those in front of a point meet P and the others don't, the last in front is the last that does
    pub IsLast-at_count : (P : K × V → Type 0) (found : Option (K × V)) → IsPartitionPoint P (λ pair. ¬ (P pair)) pairs count
        → (count ≡ 0 → found ≡ None) → (0 < count → (pair : K × V) × (slice_get pairs (count - 1) ≡ Some pair) × (found ≡ Some pair)) → IsLast P pairs found
    IsLast-at_count P found point none last =
        subst (λ xs. IsLast P xs found) (take-append-drop count pairs)
        (IsLast-at_cut P (take count pairs) (drop count pairs) found (All-before_point P (λ pair. ¬ (P pair)) pairs count within point) (All-behind_point P (λ pair. ¬ (P pair)) pairs count point)
        (LastFinds-at_count (λ pair. Some pair) None pairs found count within none last))

    pub IsFirst-at_count : (P : K × V → Type 0) (found : Option (K × V)) → IsPartitionPoint (λ pair. ¬ (P pair)) P pairs count
        → (length pairs ≤ count → found ≡ None) → (count < length pairs → (pair : K × V) × (slice_get pairs count ≡ Some pair) × (found ≡ Some pair)) → IsFirst P pairs found
    IsFirst-at_count P found point none next =
        subst (λ xs. IsFirst P xs found) (take-append-drop count pairs)
        (IsFirst-at_cut P (take count pairs) (drop count pairs) found (All-before_point (λ pair. ¬ (P pair)) P pairs count within point) (All-behind_point (λ pair. ¬ (P pair)) P pairs count point)
        (FirstFinds-at_count (λ pair. Some pair) None pairs found count none next))

module _ {K V : Type 0} (P Q : K × V → Type 0) (to : (pair : K × V) → P pair → Q pair) (from : (pair : K × V) → Q pair → P pair) where
  -- two ways to say what is met
  pub IsLast-same : (pairs : List (K × V)) (found : Option (K × V)) → IsLast P pairs found → IsLast Q pairs found
  IsLast-same pairs found all = grind (arith, All-weaker)

module _ {K V : Type 0} (order : K → Ordering) where
  abbrev pub Rises : K × V → K × V → Type 0
  Rises earlier later = ordering_index (order earlier.0) ≤ ordering_index (order later.0)

  -- the pairs that a monotone order doesn't call Greater stand in front
  pub IsPartitionedBy-along : (pairs : List (K × V)) → IsMonotoneAlong order pairs → IsPartitionedBy (λ pair. not (is_gt (order pair.0))) pairs
  IsPartitionedBy-along pairs monotone i j d le within passes =
      ⊎_elim
      (λ same. subst (λ n. not (is_gt (order (get_or pairs n d).0)) ≡ true) (sym same) passes)
      (λ apart.
      let rises = monotone i j d (omega arith) within in
      test_from_index (order (get_or pairs i d).0) (omega (arith, rises, index_from_test (order (get_or pairs j d).0) passes)))
      (cases_eq i j)

  -- where the last isn't called Greater, none is, and where the first is called so, all are
  pub All-at_most : {A : Type 0} (nothing found : A) (Finds : K × V → A → Type 0) (Also : K × V → Type 0) → ((pair : K × V) → Also pair → Finds pair found → order pair.0 ≢ Greater) → (pairs : List (K × V)) → AllPairs Rises pairs → All Also pairs
      → LastFinds Finds nothing pairs found → All (λ pair. order pair.0 ≢ Greater) pairs
  All-at_most nothing found Finds Also says pairs rises also last =
      All-from_end Rises Finds nothing found (λ pair. order pair.0 ≢ Greater) Also
      (λ earlier later below apart above. apart (above_from_index (order later.0) (omega (arith, below, ap ordering_index above))))
      says pairs rises also last

  pub All-above : (pairs : List (K × V)) → AllPairs Rises pairs → StartsIn (λ pair. order pair.0 ≡ Greater) pairs → All (λ pair. order pair.0 ≡ Greater) pairs
  All-above pairs rises starts =
      All-from_start Rises (λ pair. order pair.0 ≡ Greater) (λ earlier later below above. above_from_index (order later.0) (omega (arith, below, ap ordering_index above))) pairs rises starts

  -- where the last is called Less, so are all
  pub All-less : {A : Type 0} (nothing found : A) (Finds : K × V → A → Type 0) → ((pair : K × V) → Finds pair found → order pair.0 ≡ Less) → (pairs : List (K × V)) → AllPairs Rises pairs → LastFinds Finds nothing pairs found
      → All (λ pair. order pair.0 ≡ Less) pairs
  All-less nothing found Finds says pairs rises last =
      All-from_end Rises Finds nothing found (λ pair. order pair.0 ≡ Less) (λ _. Unit {0})
      (λ earlier later below less. less_from_index (order earlier.0) (omega (arith, below, ap ordering_index less)))
      (λ pair _ finds. says pair finds)
      pairs rises (λ k d inside. tt) last

  -- the last that isn't called Greater is called Equal, or it is the last that is called Less and none is called Equal
  pub AtMostAlong-from_last : (pairs : List (K × V)) (default value : V) (found : Option (K × V)) → IsMonotoneAlong order pairs → IsLast (λ pair. order pair.0 ≢ Greater) pairs found
      → value ≡ value_or default found → AtMostAlong order pairs default value
  AtMostAlong-from_last pairs default value None monotone all is =
      inr (
        All-weaker (λ (pair : K × V). ¬ (order pair.0 ≢ Greater)) (λ pair. order pair.0 ≢ Equal) (λ pair above equal. above (λ greater. absurd (cc (equal, greater)))) pairs all,
        (None, All-weaker (λ (pair : K × V). ¬ (order pair.0 ≢ Greater)) (λ pair. ¬ (order pair.0 ≡ Less)) (λ pair above less. above (λ greater. absurd (cc (less, greater)))) pairs all, is),
      )
  AtMostAlong-from_last pairs default value (Some pair) monotone (front, back, cut, apart, behind) is = by_answer (order pair.0) refl
    where
      rises : AllPairs Rises (front ++ pair ∷ back)
      rises = subst (AllPairs Rises) cut monotone

      by_answer : (r : Ordering) → order pair.0 ≡ r → AtMostAlong order pairs default value
      by_answer Greater e = absurd (apart e)
      by_answer Equal e =
          let At : K × V → Type 0 = λ other. (order other.0 ≡ Equal) × (value ≡ other.1) in
          inl (subst (Any At) (sym cut) (Any-behind At front (pair ∷ back) (Any-here At pair back (e, is))))
      by_answer Less e =
          let Differs : K × V → Type 0 = λ other. order other.0 ≢ Equal in
          let before : All Differs front = All-weaker (λ (other : K × V). All (Rises other) (pair ∷ back)) Differs (λ other below equal. absurd (omega (arith, All-head (Rises other) pair back below, ap ordering_index equal, ap ordering_index e))) front (AllPairs-across Rises front (pair ∷ back) rises) in
          let after : All Differs back = All-weaker (λ (other : K × V). ¬ (order other.0 ≢ Greater)) Differs (λ other above equal. above (λ greater. absurd (cc (equal, greater)))) back behind in
          inr (
            subst (All Differs) (sym cut) (All-append Differs front (pair ∷ back) before (All-cons Differs pair back (λ equal. absurd (cc (equal, e))) after)),
            (
              Some pair,
              (
                front,
                back,
                cut,
                e,
                All-weaker (λ (other : K × V). ¬ (order other.0 ≢ Greater)) (λ other. ¬ (order other.0 ≡ Less)) (λ other above less. above (λ greater. absurd (cc (less, greater)))) back behind,
              ),
              is,
            ),
          )

  -- between those that are called Less and those that are called Greater none is called Equal
  pub NoneEqual-between : (front back : List (K × V)) → All (λ pair. order pair.0 ≡ Less) front → All (λ pair. order pair.0 ≡ Greater) back → NoneEqual order (front ++ back)
  NoneEqual-between front back less greater =
      All-append (λ pair. order pair.0 ≢ Equal) front back
      (All-weaker (λ (pair : K × V). order pair.0 ≡ Less) (λ pair. order pair.0 ≢ Equal) (λ pair is equal. absurd (cc (is, equal))) front less)
      (All-weaker (λ (pair : K × V). order pair.0 ≡ Greater) (λ pair. order pair.0 ≢ Equal) (λ pair is equal. absurd (cc (is, equal))) back greater)

  -- beside a cut between those that aren't called Greater and those that are stand the neighbours
  pub neighbours_at_cut : (pairs : List (K × V)) (count : ℕ) → All (λ pair. order pair.0 ≢ Greater) (take count pairs) → All (λ pair. order pair.0 ≡ Greater) (drop count pairs)
      → (found : Option (K × V) × Option (K × V)) → LastFinds (λ pair held. held ≡ Some pair) None (take count pairs) found.0 → FirstFinds (λ pair held. held ≡ Some pair) None (drop count pairs) found.1
      → AreNeighbours order pairs found
  neighbours_at_cut pairs count at_most above found before behind = (
    subst (λ xs. IsLast (λ pair. order pair.0 ≢ Greater) xs found.0) (take-append-drop count pairs)
        (IsLast-at_cut (λ pair. order pair.0 ≢ Greater) (take count pairs) (drop count pairs) found.0 at_most
        (All-weaker (λ (pair : K × V). order pair.0 ≡ Greater) (λ pair. ¬ (order pair.0 ≢ Greater)) (λ pair is apart. apart is) (drop count pairs) above) before),
    subst (λ xs. IsFirst (λ pair. order pair.0 ≡ Greater) xs found.1) (take-append-drop count pairs)
        (IsFirst-at_cut (λ pair. order pair.0 ≡ Greater) (take count pairs) (drop count pairs) found.1 at_most above behind),
  )

  -- a point behind all that aren't called Greater
  module _ (pairs : List (K × V)) (count : ℕ) (within : count ≤ length pairs) (point : IsPartitionPoint (λ pair. not (is_gt (order pair.0)) ≡ true) (λ pair. not (is_gt (order pair.0)) ≡ false) pairs count) where
    point_apart : IsPartitionPoint (λ pair. order pair.0 ≢ Greater) (λ pair. ¬ (order pair.0 ≢ Greater)) pairs count
    point_apart =
        (λ k d low high. at_most_from_test (order (get_or pairs k d).0) (point.0 k d low high), λ k d low high apart. apart (above_from_test (order (get_or pairs k d).0) (point.1 k d low high)))

    above_behind : All (λ pair. order pair.0 ≡ Greater) (drop count pairs)
    above_behind =
        All-weaker (λ (pair : K × V). not (is_gt (order pair.0)) ≡ false) (λ pair. order pair.0 ≡ Greater) (λ pair fails. above_from_test (order pair.0) fails) (drop count pairs)
        (All-behind_point (λ (pair : K × V). not (is_gt (order pair.0)) ≡ true) (λ pair. not (is_gt (order pair.0)) ≡ false) pairs count point)

    pub neighbours_at_point : (found : Option (K × V) × Option (K × V)) → LastFinds (λ pair held. held ≡ Some pair) None (take count pairs) found.0 → FirstFinds (λ pair held. held ≡ Some pair) None (drop count pairs) found.1
        → AreNeighbours order pairs found
    neighbours_at_point found before behind =
        neighbours_at_cut pairs count (All-before_point (λ pair. order pair.0 ≢ Greater) (λ pair. ¬ (order pair.0 ≢ Greater)) pairs count within point_apart) above_behind found before behind

    pub last_at_point : (found : Option (K × V)) → (count ≡ 0 → found ≡ None) → (0 < count → (pair : K × V) × (slice_get pairs (count - 1) ≡ Some pair) × (found ≡ Some pair))
        → IsLast (λ pair. order pair.0 ≢ Greater) pairs found
    last_at_point found none last =
        IsLast-at_count pairs count within (λ pair. order pair.0 ≢ Greater) found point_apart none last

    pub next_at_point : (found : Option (K × V)) → (length pairs ≤ count → found ≡ None) → (count < length pairs → (pair : K × V) × (slice_get pairs count ≡ Some pair) × (found ≡ Some pair))
        → IsFirst (λ pair. order pair.0 ≡ Greater) pairs found
    next_at_point found none next =
        IsFirst-at_count pairs count within (λ pair. order pair.0 ≡ Greater) found
        (λ k d low high. at_most_from_test (order (get_or pairs k d).0) (point.0 k d low high), λ k d low high. above_from_test (order (get_or pairs k d).0) (point.1 k d low high))
        none next

    pub AtMostAlong-at_point : (default value : V) → IsMonotoneAlong order pairs → (count ≡ 0 → value ≡ default) → (0 < count → (pair : K × V) × (slice_get pairs (count - 1) ≡ Some pair) × (value ≡ pair.1)) → AtMostAlong order pairs default value
    AtMostAlong-at_point default value monotone none last =
        let (found, ends, is) = last_value default value (take count pairs) (LastFinds-at_count (λ pair. pair.1) default pairs value count within none last) in
        AtMostAlong-from_last pairs default value found monotone
        (subst (λ xs. IsLast (λ pair. order pair.0 ≢ Greater) xs found) (take-append-drop count pairs)
        (IsLast-at_cut (λ pair. order pair.0 ≢ Greater) (take count pairs) (drop count pairs) found
        (All-before_point (λ pair. order pair.0 ≢ Greater) (λ pair. ¬ (order pair.0 ≢ Greater)) pairs count within point_apart)
        (All-behind_point (λ pair. order pair.0 ≢ Greater) (λ pair. ¬ (order pair.0 ≢ Greater)) pairs count point_apart) ends))
        is

    last_is_at_most : (pair : K × V) → 0 < count → slice_get pairs (count - 1) ≡ Some pair → order pair.0 ≢ Greater
    last_is_at_most pair some read =
        subst (λ (other : K × V). order other.0 ≢ Greater) (get_or_from_slice_get pairs (count - 1) pair pair read) (at_most_from_test (order (get_or pairs (count - 1) pair).0) (point.0 (count - 1) pair (omega arith) (omega (arith, some))))

    -- where the last in front of the point isn't called Equal, those in front are called Less, and those behind Greater
    pub place_at_point : IsMonotoneAlong order pairs → (0 < count → (pair : K × V) × (slice_get pairs (count - 1) ≡ Some pair) × (order pair.0 ≢ Equal))
        → All (λ pair. order pair.0 ≡ Less) (take count pairs) × All (λ pair. order pair.0 ≡ Greater) (drop count pairs)
    place_at_point monotone last = (
      All-less Less Less (λ pair held. held ≡ order pair.0) (λ pair is. sym is) (take count pairs)
          (AllPairs-front Rises (take count pairs) (drop count pairs) (subst (AllPairs Rises) (sym (take-append-drop count pairs)) monotone))
          (LastFinds-at_count (λ pair. order pair.0) Less pairs Less count within (λ _. refl) (λ some.
          let (pair, read, apart) = last some in
          (pair, read, sym (less_from_apart (order pair.0) apart (last_is_at_most pair some read))))),
      above_behind,
    )

  -- what a closure says of the last in front of a point, if there is one
  module _ (may_answer : K → Ordering → Type 0) (pairs : List (K × V)) (answers : AnswersBy may_answer order pairs) (count : ℕ) (within : count ≤ length pairs) (found : Option (K × V)) (is_equal : Bool)
      (says : MatchOption found (is_equal ≡ false) (λ pair. (answer : Ordering) × may_answer pair.0 answer × (is_equal ≡ is_eq answer)))
      (none : count ≡ 0 → found ≡ None) (last : 0 < count → (pair : K × V) × (slice_get pairs (count - 1) ≡ Some pair) × (found ≡ Some pair)) where
    Says : Option (K × V) → Type 0
    Says found = MatchOption found (is_equal ≡ false) (λ pair. (answer : Ordering) × may_answer pair.0 answer × (is_equal ≡ is_eq answer))

    pub said_of_last : 0 < count → (pair : K × V) × (slice_get pairs (count - 1) ≡ Some pair) × (is_equal ≡ is_eq (order pair.0))
    unfolding Says
    said_of_last some =
        let (pair, read, is) = last some in
        let (answer, may, equal) = subst Says is says in
        let at : get_or pairs (count - 1) pair ≡ pair = get_or_from_slice_get pairs (count - 1) pair pair read in
        let so : answer ≡ order (get_or pairs (count - 1) pair).0 = answers (count - 1) pair (omega (arith, some, within)) answer (subst (λ (other : K × V). may_answer other.0 answer) (sym at) may) in
        (pair, read, equal ∙ ap is_eq (so ∙ ap (λ (other : K × V). order other.0) at))

    pub HasEqual-last : is_equal ≡ true → HasEqual order pairs
    unfolding Says
    HasEqual-last equal =
        ⊎_elim
        (λ some.
        let (pair, read, says) = said_of_last some in
        (count - 1, pair, omega (arith, some, within), get_or_from_slice_get pairs (count - 1) pair pair read, (Equal-is (order pair.0)).0 (sym says ∙ equal)))
        (λ empty. absurd (both_ways is_equal (subst Says (none (omega (arith, empty))) says) equal))
        (cases_lt 0 count)

    pub last_apart : is_equal ≡ false → 0 < count → (pair : K × V) × (slice_get pairs (count - 1) ≡ Some pair) × (order pair.0 ≢ Equal)
    last_apart differs some =
        let (pair, read, says) = said_of_last some in
        (pair, read, λ level. both_ways is_equal differs (says ∙ ap is_eq level))
