-- Facts on a list whose handles are positions.
use Rattle.std.proofs.Common.{◌≡◌, ◌≢◌, ℕ, zero, suc, ◌+◌, ◌-◌, ◌<◌, ◌≤◌, Bool, true, false, not, List, [], ◌∷◌, ◌++◌, length, min, get_or, Some, refl, sym, ap, ◌∙◌, subst, ⊎_elim, arith, append_assoc, length-append}
use Rattle.std.specs.Borrow.{Bor}
use Rattle.std.specs.Cmp.{IsTotalOrder}
use Rattle.std.specs.List.{All, AllPairs, insert, remove, enumerate_from}
use Rattle.std.specs.List.Sorted.{IsPartitionPoint, IsPartitionedBy}
use Rattle.std.specs.Ordering.{is_ge, is_gt, is_lt}
use Rattle.std.specs.declared.cmp.Ordering.{Ordering}
use Rattle.std.specs.declared.cmp.Ordering.TheVariants.{Less, Equal}
use Rattle.std.proofs.Math.Nat.{min-le_left, min-le_right}
use Rattle.std.proofs.Math.Seq.{get_or-append_seam}
use Rattle.std.proofs.lemmas.Bool.{both_ways, cases_eq}
use Rattle.std.proofs.lemmas.List.{get_or_default, get_or-map, length-map, map-append}
use Rattle.std.proofs.lemmas.List.Edits.{remove-append_right}
use Rattle.std.proofs.lemmas.List.FromFn.{length-enumerate_from, get_or-enumerate_from}
use Rattle.std.proofs.lemmas.Option.{slice_get-get_or}
use Rattle.i_tree.proofs.RootLemmas.RisingKeys.{AtMost-at_count, IsPartitionedBy-monotone, IsPartitionedBy-rising, rises-insert}
use Rattle.i_tree.proofs.RootLemmas.Joined.{last_cut}
use Rattle.i_tree.proofs.SetLemmas.Search.{last_handle-end}
use Rattle.i_tree.specs.Root.Answer.{AnswersBy, IsMonotone}
use Rattle.i_tree.specs.Root.Change.{Joins}
use Rattle.i_tree.specs.Set.Pairs.{AreApart, values, by_key, HasHandle, LacksHandle, IsOrdered, LacksKey, IsFoundBy, TakesKeys}
use Rattle.i_tree.specs.Set.SetList.{Contents, numbered, IsPlaceFor}
use Rattle.i_tree.specs.Rb.Shape.{first_handle, last_handle}
use Rattle.i_tree.specs.declared.TheConstants.{EMPTY_REF}

module _ {V : Type 0} where
  pub length-numbered : (xs : List V) → length (numbered xs) ≡ length xs
  length-numbered xs = length-enumerate_from 0 xs

  -- fewer are stored than there is room, so one more has a handle and a place
  pub has_room : (xs : List V) (most spare : ℕ) → length (numbered xs) < min most (length xs + spare) → (length xs < most) × (0 < spare)
  has_room xs most spare few = grind (arith, length-numbered, min-le_left, min-le_right)

  -- the pair at a position
  pub numbered_at : (xs : List V) (k : ℕ) (d : ℕ × V) → k < length xs → get_or (numbered xs) k d ≡ (0 + k, get_or xs k d.1)
  numbered_at xs k d inside = get_or-enumerate_from 0 xs k d inside

  handle_at : (xs : List V) (k : ℕ) (d : ℕ × V) → k < length xs → (get_or (numbered xs) k d).0 ≡ k
  handle_at xs k d inside = omega (arith, ap (λ (pair : ℕ × V). pair.0) (numbered_at xs k d inside))

  -- handles that are positions are apart
  pub AreApart-numbered : (xs : List V) → length xs ≤ EMPTY_REF → AreApart (numbered xs)
  AreApart-numbered xs short = grind (arith, length-numbered, handle_at)

  values_from : (n : ℕ) (xs : List V) → values (enumerate_from n xs) ≡ xs
  values_from n [] = refl
  values_from n (x ∷ xs) = ap (λ ys. x ∷ ys) (values_from (n + 1) xs)

  pub values-numbered : (xs : List V) → values (numbered xs) ≡ xs
  values-numbered xs = values_from 0 xs

  pub some_of : (xs : List V) (k : ℕ) → k < length xs → V
  some_of [] k inside = absurd (omega (arith, inside))
  some_of (x ∷ xs) k inside = x

  -- the positions at which a value stands are the handles
  pub HasHandle-inside : (xs : List V) (handle : ℕ) → handle < length xs → HasHandle (numbered xs) handle
  HasHandle-inside xs handle inside =
      let d : ℕ × V = (0, some_of xs handle inside) in
      let pair = get_or (numbered xs) handle d in
      let within : handle < length (numbered xs) = omega (arith, inside, length-numbered xs) in
      (handle, pair, within, get_or_default (numbered xs) handle pair d within, handle_at xs handle d inside)

  -- the position before a count of values is a handle
  pub HasHandle-counted : (xs : List V) (count before : ℕ) → count ≤ length xs → (count ≡ 0 → before ≡ EMPTY_REF) → (0 < count → before ≡ count - 1) → before ≢ EMPTY_REF → HasHandle (numbered xs) before
  HasHandle-counted xs count before within first later some = grind (arith, HasHandle-inside)

  pub inside_from_HasHandle : (xs : List V) (handle : ℕ) → HasHandle (numbered xs) handle → handle < length xs
  inside_from_HasHandle xs handle (k, pair, within, at, is) = grind (arith, length-numbered, handle_at)

  pub LacksHandle-outside : (xs : List V) (handle : ℕ) → length xs ≤ handle → LacksHandle (numbered xs) handle
  LacksHandle-outside xs handle outside k d inside is =
      absurd (omega (arith, length-numbered xs, is, handle_at xs k d (omega (arith, length-numbered xs))))

  -- a pair of the list stands at its handle
  module _ (xs : List V) (front : List (ℕ × V)) (handle : ℕ) (value : V) (back : List (ℕ × V)) (cut : numbered xs ≡ front ++ (handle, value) ∷ back) where
    front_inside : length front < length xs
    front_inside = omega (arith, length-numbered xs, ap length cut, length-append front ((handle, value) ∷ back))

    pair_is : (d : V) → ◌≡◌ {A = ℕ × V} (0 + length front, get_or xs (length front) d) (handle, value)
    pair_is d = sym (numbered_at xs (length front) (0, d) front_inside) ∙ ap (λ pairs. get_or pairs (length front) (0, d)) cut ∙ get_or-append_seam front (handle, value) back (0, d)

    pub handle_is : handle ≡ length front
    handle_is = omega (arith, ap (λ (pair : ℕ × V). pair.0) (pair_is value))

    pub value_is : (d : V) → get_or xs handle d ≡ value
    value_is d = ap (λ n. get_or xs n d) handle_is ∙ ap (λ (pair : ℕ × V). pair.1) (pair_is d)

  -- the values without the one at a position are those in front and those behind
  pub values-remove : (xs : List V) (front : List (ℕ × V)) (handle : ℕ) (value : V) (back : List (ℕ × V)) → numbered xs ≡ front ++ (handle, value) ∷ back
      → values (numbered (remove xs handle)) ≡ values front ++ values back
  values-remove xs front handle value back cut =
      let here : List V = value ∷ values back in
      let long : length (values front) ≡ length front = length-map front (λ (pair : ℕ × V). pair.1) in
      let xs_are : xs ≡ values front ++ here = sym (values-numbered xs) ∙ ap values cut ∙ map-append (λ (pair : ℕ × V). pair.1) front ((handle, value) ∷ back) in
      let none : length front - length front ≡ 0 = omega arith in
      values-numbered (remove xs handle)
      ∙ ap (λ k. remove xs k) (handle_is xs front handle value back cut)
      ∙ ap (λ ys. remove ys (length front)) xs_are
      ∙ remove-append_right (values front) here (length front) (length front) long (omega arith)
      ∙ ap (λ k. values front ++ remove here k) none

  -- the last handle in front of a position is the position before
  pub last_handle_is : (xs : List V) (front : List (ℕ × V)) (handle : ℕ) (value : V) (back : List (ℕ × V)) (result : ℕ) → numbered xs ≡ front ++ (handle, value) ∷ back
      → (handle ≡ 0 → result ≡ EMPTY_REF) → (0 < handle → result ≡ handle - 1) → result ≡ last_handle front
  last_handle_is xs [] handle value back result cut first later = first (handle_is xs [] handle value back cut)
  last_handle_is xs (pair ∷ pairs) handle value back result cut first later =
      let (front, last, is) = last_cut pair pairs in
      let here = handle_is xs (pair ∷ pairs) handle value back cut in
      let before = handle_is xs front last.0 last.1 ((handle, value) ∷ back) (cut ∙ ap (λ ys. ys ++ (handle, value) ∷ back) is ∙ append_assoc front (last ∷ []) ((handle, value) ∷ back)) in
      omega (arith, here, before, later (omega (arith, here)), ap length is, length-append front (last ∷ []), ap last_handle is, last_handle-end front last)

  -- the first handle behind a position is the position after
  pub first_handle_is : (xs : List V) (front : List (ℕ × V)) (handle : ℕ) (value : V) (back : List (ℕ × V)) (result : ℕ) → numbered xs ≡ front ++ (handle, value) ∷ back
      → (length xs ≤ handle + 1 → result ≡ EMPTY_REF) → (handle + 1 < length xs → result ≡ handle + 1) → result ≡ first_handle back
  first_handle_is xs front handle value [] result cut last later =
      last (omega (arith, handle_is xs front handle value [] cut, length-numbered xs, ap length cut, length-append front ((handle, value) ∷ [])))
  first_handle_is xs front handle value (next ∷ rest) result cut last later =
      let here = handle_is xs front handle value (next ∷ rest) cut in
      let after = handle_is xs (front ++ (handle, value) ∷ []) next.0 next.1 rest (cut ∙ sym (append_assoc front ((handle, value) ∷ []) (next ∷ rest))) in
      omega (arith, here, after, length-append front ((handle, value) ∷ []), later (omega (arith, here, length-numbered xs, ap length cut, length-append front ((handle, value) ∷ (next ∷ rest)))))

  -- the first handle of all is 0
  pub first_of_all : (xs : List V) → 0 < length xs → 0 ≡ first_handle (numbered xs)
  first_of_all [] some = absurd (omega (arith, some))
  first_of_all (x ∷ xs) some = refl

module _ {K V : Type 0} (key_of : V → K) where
  pub length-keyed : (xs : List V) → length (by_key key_of (numbered xs)) ≡ length xs
  length-keyed xs = length-map (numbered xs) (λ (pair : ℕ × V). (key_of pair.1, pair.0)) ∙ length-numbered xs

  -- the key and the handle at a position
  pub keyed_at : (xs : List V) (k : ℕ) (d : K × ℕ) (v : V) → k < length xs → get_or (by_key key_of (numbered xs)) k d ≡ (key_of (get_or xs k v), 0 + k)
  keyed_at xs k d v inside =
      get_or-map (λ (pair : ℕ × V). (key_of pair.1, pair.0)) (numbered xs) k (0, v) d (omega (arith, length-numbered xs))
      ∙ ap (λ (pair : ℕ × V). (key_of pair.1, pair.0)) (numbered_at xs k (0, v) inside)

  -- between what holds of the keys of the pairs, and of the values
  pub All-keys : (P : K → Type 0) (xs : List V) → All (λ (pair : K × ℕ). P pair.0) (by_key key_of (numbered xs)) → All (λ x. P (key_of x)) xs
  All-keys P xs all k d inside =
      subst (λ (pair : K × ℕ). P pair.0) (keyed_at xs k (key_of d, 0) d inside) (all k (key_of d, 0) (omega (arith, length-keyed xs)))

  pub IsPartitionedBy-keys : (test : K → Bool) (xs : List V) → IsPartitionedBy (λ (pair : K × ℕ). test pair.0) (by_key key_of (numbered xs)) → IsPartitionedBy (λ x. test (key_of x)) xs
  IsPartitionedBy-keys test xs partitioned i j d le within passes =
      let test_at : (k : ℕ) → k < length xs → test (get_or (by_key key_of (numbered xs)) k (key_of d, 0)).0 ≡ test (key_of (get_or xs k d)) = λ k inside. ap (λ (pair : K × ℕ). test pair.0) (keyed_at xs k (key_of d, 0) d inside) in
      sym (test_at i (omega arith)) ∙ partitioned i j (key_of d, 0) le (omega (arith, length-keyed xs)) (test_at j within ∙ passes)

  pub IsPartitionPoint-keys : (P Q : K → Type 0) (xs : List V) (place : ℕ) → place ≤ length xs → IsPartitionPoint (λ x. P (key_of x)) (λ x. Q (key_of x)) xs place
      → IsPartitionPoint (λ (pair : K × ℕ). P pair.0) (λ (pair : K × ℕ). Q pair.0) (by_key key_of (numbered xs)) place
  IsPartitionPoint-keys P Q xs place within (before, from) = (
    λ k d low high.
        let v = some_of xs k (omega arith) in
        subst (λ (pair : K × ℕ). P pair.0) (sym (keyed_at xs k d v (omega arith))) (before k v low high),
    λ k d low high.
        let inside : k < length xs = omega (arith, length-keyed xs) in
        let v = some_of xs k inside in
        subst (λ (pair : K × ℕ). Q pair.0) (sym (keyed_at xs k d v inside)) (from k v low inside),
  )

  module _ (cmp : K → K → Ordering) where
    compared : {a b c d : K × ℕ} → a ≡ c → b ≡ d → cmp a.0 b.0 ≡ cmp c.0 d.0
    compared p q t = cmp (p t).0 (q t).0

    pub rising_from_ordered : (xs : List V) → IsOrdered key_of cmp (numbered xs) → AllPairs (λ earlier later. cmp (key_of earlier) (key_of later) ≡ Less) xs
    rising_from_ordered xs ordered i j d below within =
        sym (compared (keyed_at xs i (key_of d, 0) d (omega arith)) (keyed_at xs j (key_of d, 0) d within))
        ∙ ordered i j (key_of d, 0) below (omega (arith, length-keyed xs))

    pub ordered_from_rising : (xs : List V) → AllPairs (λ earlier later. cmp (key_of earlier) (key_of later) ≡ Less) xs → IsOrdered key_of cmp (numbered xs)
    ordered_from_rising xs rising i j d below within =
        let inside : j < length xs = omega (arith, length-keyed xs) in
        let v = some_of xs j inside in
        compared (keyed_at xs i d v (omega arith)) (keyed_at xs j d v inside) ∙ rising i j v below inside

  module _ {cmp : K → K → Ordering} (o : IsTotalOrder cmp) where
    -- where each key is below the next, it is below all later ones
    pub ordered_from_neighbours : (xs : List V) → ((k next : ℕ) (d : V) → next ≡ k + 1 → next < length xs → cmp (key_of (get_or xs k d)) (key_of (get_or xs next d)) ≡ Less) → IsOrdered key_of cmp (numbered xs)
    ordered_from_neighbours xs neighbours = ordered_from_rising cmp xs rises
      where
        rises : (i j : ℕ) (d : V) → i < j → j < length xs → cmp (key_of (get_or xs i d)) (key_of (get_or xs j d)) ≡ Less
        rises i zero d below within = absurd (omega (arith, below))
        rises i (suc j) d below within =
            ⊎_elim
            (λ same. neighbours i (suc j) d (omega (arith, same)) within)
            (λ apart. o.trans (key_of (get_or xs i d)) (key_of (get_or xs j d)) (key_of (get_or xs (suc j) d)) (rises i j d (omega (arith, apart, below)) (omega (arith, within))) (neighbours j (suc j) d (omega arith) within))
            (cases_eq i j)

    -- the keys below a key stand in front
    pub IsPartitionedBy-below : (xs : List V) (key : K) → IsOrdered key_of cmp (numbered xs) → IsPartitionedBy (λ x. is_lt (cmp (key_of x) key)) xs
    IsPartitionedBy-below xs key ordered =
        IsPartitionedBy-keys (λ other. is_lt (cmp other key)) xs (IsPartitionedBy-rising o (by_key key_of (numbered xs)) key ordered)

    -- a value whose key no other compares Equal to joins at its place
    pub ordered-insert : (xs : List V) (x : V) (place : ℕ) → IsOrdered key_of cmp (numbered xs) → LacksKey key_of cmp (numbered xs) (key_of x)
        → IsPlaceFor key_of cmp (key_of x) xs place → place ≤ length xs → IsOrdered key_of cmp (numbered (insert xs place x))
    ordered-insert xs x place ordered absent splits within =
        ordered_from_rising cmp (insert xs place x)
        (rises-insert o key_of xs x place (rising_from_ordered cmp xs ordered) splits within (All-keys (λ key. cmp key (key_of x) ≢ Equal) xs absent))

    module _ (order : K → Ordering) where
      -- the keys that a monotone order doesn't call Greater stand in front
      pub IsPartitionedBy-at_most : (xs : List V) → IsOrdered key_of cmp (numbered xs) → IsMonotone cmp order (by_key key_of (numbered xs)) → IsPartitionedBy (λ x. not (is_gt (order (key_of x)))) xs
      IsPartitionedBy-at_most xs ordered monotone =
          IsPartitionedBy-keys (λ key. not (is_gt (order key))) xs (IsPartitionedBy-monotone cmp (by_key key_of (numbered xs)) order ordered monotone)

      -- the last of them is found
      pub IsFoundBy-at_count : (xs : List V) (count handle : ℕ) → IsOrdered key_of cmp (numbered xs) → IsMonotone cmp order (by_key key_of (numbered xs))
          → IsPartitionPoint (λ x. not (is_gt (order (key_of x))) ≡ true) (λ x. not (is_gt (order (key_of x))) ≡ false) xs count → count ≤ length xs
          → (count ≡ 0 → handle ≡ EMPTY_REF) → (0 < count → handle ≡ count - 1) → IsFoundBy key_of cmp order (numbered xs) handle
      IsFoundBy-at_count xs count handle ordered monotone point within none last =
          AtMost-at_count o (by_key key_of (numbered xs)) order count EMPTY_REF handle ordered monotone
          (IsPartitionPoint-keys (λ key. not (is_gt (order key)) ≡ true) (λ key. not (is_gt (order key)) ≡ false) xs count within point)
          (omega (arith, within, length-keyed xs)) none
          (λ some.
          let inside : count - 1 < length xs = omega (arith, some, within) in
          let v = some_of xs (count - 1) inside in
          let pair : K × ℕ = (key_of (get_or xs (count - 1) v), 0 + (count - 1)) in
          (pair, slice_get-get_or (by_key key_of (numbered xs)) (count - 1) pair (omega (arith, inside, length-keyed xs)) ∙ ap Some (keyed_at xs (count - 1) pair v inside), omega (arith, last some)))

pub same_contents : {V : Type 0} {a b : Contents V} → a.values ≡ b.values → a.spare ≡ b.spare → a ≡ b
same_contents values spare i = record { values = values i; spare = spare i }

-- a value that joins the list joins the values of its pairs
pub joins_numbered : {V : Type 0} (xs ys : List V) (place : ℕ) (x : V) → place ≤ length xs → ys ≡ insert xs place x → Joins x (values (numbered xs)) (values (numbered ys))
joins_numbered {V} xs ys place x within is =
    subst (λ (zs : List V). Joins x zs (values (numbered ys))) (sym (values-numbered xs))
    (subst (λ (zs : List V). Joins x xs zs) (sym (values-numbered ys)) (place, within, is))

-- what a list ends as is apart where it has few values
pub AreApart-viewed : {V : Type 0} {inside contents : Contents V} → inside ≡ contents → length inside.values ≤ EMPTY_REF → AreApart (numbered contents.values)
AreApart-viewed {V} {inside} {contents} is short = subst (λ (list : Contents V). AreApart (numbered list.values)) is (AreApart-numbered inside.values short)

less_from_is_ge : (r : Ordering) → is_ge r ≡ false → r ≡ Less
less_from_is_ge r h = grind (arith, both_ways)

module _ {K V : Type 0} (key_of : V → K) (cmp : K → K → Ordering) where
  -- two neighbours, as they were read
  read_neighbours : (xs : List V) (k next : ℕ) (d x y : V) (a b : K) → k < length xs → next < length xs → x ≡ get_or xs k x → y ≡ get_or xs next y → a ≡ key_of x → b ≡ key_of y
      → cmp a b ≡ cmp (key_of (get_or xs k d)) (key_of (get_or xs next d))
  read_neighbours xs k next d x y a b inside within x_is y_is a_is b_is = grind (arith, get_or_default)

  pub neighbours_rise : (xs : List V) (k next : ℕ) (d x y : V) (a b : K) → k < length xs → next < length xs → x ≡ get_or xs k x → y ≡ get_or xs next y → a ≡ key_of x → b ≡ key_of y
      → is_ge (cmp a b) ≡ false → cmp (key_of (get_or xs k d)) (key_of (get_or xs next d)) ≡ Less
  neighbours_rise xs k next d x y a b inside within x_is y_is a_is b_is less =
      sym (read_neighbours xs k next d x y a b inside within x_is y_is a_is b_is) ∙ less_from_is_ge (cmp a b) less

  pub neighbours_fall : (xs : List V) (k next : ℕ) (x y : V) (a b : K) → k < next → next < length xs → x ≡ get_or xs k x → y ≡ get_or xs next y → a ≡ key_of x → b ≡ key_of y
      → is_ge (cmp a b) ≡ true → IsOrdered key_of cmp (numbered xs) → ⊥
  neighbours_fall xs k next x y a b below within x_is y_is a_is b_is falls ordered =
      both_ways (is_ge (cmp a b))
      (ap is_ge (read_neighbours xs k next x x y a b (omega (arith, below, within)) within x_is y_is a_is b_is ∙ rising_from_ordered key_of cmp xs ordered k next x below within))
      falls

  -- what may be asked about the keys of the pairs may be asked about the keys of the values
  pub takes_values : (MayAsk : Bor K → Type 0) (xs ys : List V) → xs ≡ ys → TakesKeys key_of MayAsk (numbered ys)
      → (k : ℕ) (d : V) → k < length xs → (reference : Bor V) → reference.now ≡ get_or xs k d → (key : Bor K) → key.now ≡ key_of reference.now → MayAsk key
  takes_values MayAsk xs ys same takes k d inside reference at key is =
      let Takes : K → Type 0 = λ k. (key : Bor K) → key.now ≡ k → MayAsk key in
      subst (λ (zs : List V). All (λ x. Takes (key_of x)) zs) (sym same) (All-keys key_of Takes ys takes) k d inside key (is ∙ ap key_of at)

  -- what is answered of the keys of the pairs is answered of the keys of the values
  pub values_answer : (may_answer : K → Ordering → Type 0) (order : K → Ordering) (xs ys : List V) → xs ≡ ys → AnswersBy may_answer order (by_key key_of (numbered ys))
      → (k : ℕ) (d : V) → k < length xs → (shown : Bor V) → shown.now ≡ get_or xs k d → (answer : Ordering) → may_answer (key_of shown.now) answer → answer ≡ order (key_of (get_or xs k d))
  values_answer may_answer order xs ys same answers k d inside shown at answer may =
      let Answers : K → Type 0 = λ key. (answer : Ordering) → may_answer key answer → answer ≡ order key in
      subst (λ (zs : List V). All (λ x. Answers (key_of x)) zs) (sym same) (All-keys key_of Answers ys answers) k d inside answer (subst (λ x. may_answer (key_of x) answer) at may)
