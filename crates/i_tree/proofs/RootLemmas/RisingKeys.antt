-- Facts on keys that rise, and on the place of a key among them.
use Rattle.std.proofs.Common.{◌≡◌, ◌≢◌, ℕ, ◌+◌, ◌-◌, ◌<◌, ◌≤◌, true, false, not, None, Some, List, ◌∷◌, length, get_or, slice_get, sym, ap, ◌∙◌, subst, inl, inr, ⊎_elim, arith, length-drop}
use Rattle.std.specs.Cmp.{IsTotalOrder, alike_right, tied_itself}
use Rattle.std.specs.Ordering.{is_gt, is_lt, ordering_reverse}
use Rattle.std.specs.declared.cmp.Ordering.{Ordering}
use Rattle.std.specs.declared.cmp.Ordering.TheVariants.{Less, Equal, Greater}
use Rattle.std.specs.List.{All, AllPairs, Contains, insert}
use Rattle.std.specs.List.Sorted.{IsPartitionPoint, IsPartitionedBy}
use Rattle.std.proofs.lemmas.Bool.{cases_eq, cases_lt, both_ways}
use Rattle.std.proofs.lemmas.List.Elements.{All-append, All-cons, All-head, All-weaker}
use Rattle.std.proofs.lemmas.List.{length-take-le, get_or-take, get_or-drop}
use Rattle.i_tree.proofs.RootLemmas.Along.{AtMostAlong-at_point, IsPartitionedBy-along}
use Rattle.i_tree.proofs.RootLemmas.Joined.{AllPairs-across, AllPairs-behind, Contains-middle}
use Rattle.i_tree.proofs.RootLemmas.Lists.{All-filter_passing, AllPairs-head, AllPairs-insert, Contains-filter}
use Rattle.i_tree.proofs.RootLemmas.Orders.{above}
use Rattle.i_tree.specs.Expiring.List.{Contents}
use Rattle.i_tree.specs.Expiring.Live.{live_pairs}
use Rattle.i_tree.specs.Root.Live.{is_live}
use Rattle.i_tree.specs.Root.Pairs.{HasKey, NoKey, IsRising}
use Rattle.i_tree.specs.Root.Along.{AboveAlong, AtMostAlong, FirstOr, IsMonotoneAlong, LastOr}
use Rattle.i_tree.specs.Root.Answer.{Above, AtMost, GreatestOr, IsMonotone, LeastOr}

-- the test `is_lt` and the answer `Less`
pub less_from_is_lt : (r : Ordering) → is_lt r ≡ true → r ≡ Less
less_from_is_lt r h = grind (arith, both_ways)

pub not_less_from_is_lt : (r : Ordering) → is_lt r ≡ false → r ≢ Less
not_less_from_is_lt r h e = both_ways (is_lt r) h (ap is_lt e)

module _ {K V : Type 0} (cmp : K → K → Ordering) (pairs : List (K × V)) (order : K → Ordering) (rising : IsRising cmp pairs) (monotone : IsMonotone cmp order pairs) where
  -- an order that is monotone is so along keys that rise
  pub IsMonotoneAlong-rising : IsMonotoneAlong order pairs
  IsMonotoneAlong-rising i j d below within = monotone i d (omega (arith, below, within)) j d within (rising i j d below within)

  -- the keys that a monotone order doesn't call Greater stand in front
  pub IsPartitionedBy-monotone : IsPartitionedBy (λ pair. not (is_gt (order pair.0))) pairs
  IsPartitionedBy-monotone = IsPartitionedBy-along order pairs IsMonotoneAlong-rising

module _ {K V : Type 0} {cmp : K → K → Ordering} (o : IsTotalOrder cmp) where
  -- keys that rise stand in two subtrees, those below a key and the others
  pub IsPartitionedBy-rising : (pairs : List (K × V)) (key : K) → IsRising cmp pairs → IsPartitionedBy (λ pair. is_lt (cmp pair.0 key)) pairs
  IsPartitionedBy-rising pairs key rising i j d le within below = grind (arith, less_from_is_lt, cases_eq)

  -- along keys that rise, the last that meets P is the greatest
  pub GreatestOr-from_last : (P : K → Type 0) (pairs : List (K × V)) (default value : V) → IsRising cmp pairs → LastOr (λ pair. P pair.0) pairs default value → GreatestOr cmp P pairs default value
  GreatestOr-from_last P pairs default value rising (None, all, is) = inr (all, is)
  GreatestOr-from_last P pairs default value rising (Some pair, (front, back, cut, meets, behind), is) =
      let Below : K × V → K × V → Type 0 = λ earlier later. cmp earlier.0 later.0 ≡ Less in
      let NoneAbove : K × V → Type 0 = λ other. P other.0 → cmp other.0 pair.0 ≢ Greater in
      let across = AllPairs-across Below front (pair ∷ back) (subst (AllPairs Below) cut rising) in
      inl (
        pair,
        record {
          contained = subst (λ pairs. Contains pairs pair) (sym cut) (Contains-middle front pair back);
          meets = meets;
          none_above = subst (All NoneAbove) (sym cut)
              (All-append NoneAbove front (pair ∷ back)
              (All-weaker (λ (other : K × V). All (Below other) (pair ∷ back)) NoneAbove (λ other below _ above. let low = All-head (Below other) pair back below in absurd (cc (low, above))) front across)
              (All-cons NoneAbove pair back (λ _ above. let level = tied_itself o pair.0 in absurd (cc (level, above)))
              (All-weaker (λ (other : K × V). ¬ (P other.0)) NoneAbove (λ other misses too. absurd (misses too)) back behind)));
        },
        is,
      )

  -- and the first is the least
  pub LeastOr-from_first : (P : K → Type 0) (pairs : List (K × V)) (default value : V) → IsRising cmp pairs → FirstOr (λ pair. P pair.0) pairs default value → LeastOr cmp P pairs default value
  LeastOr-from_first P pairs default value rising (None, all, is) = inr (all, is)
  LeastOr-from_first P pairs default value rising (Some pair, (front, back, cut, meets, before), is) =
      let Below : K × V → K × V → Type 0 = λ earlier later. cmp earlier.0 later.0 ≡ Less in
      let NoneBelow : K × V → Type 0 = λ other. P other.0 → cmp other.0 pair.0 ≢ Less in
      let after = AllPairs-head Below pair back (AllPairs-behind Below front (pair ∷ back) (subst (AllPairs Below) cut rising)) in
      inl (
        pair,
        record {
          contained = subst (λ pairs. Contains pairs pair) (sym cut) (Contains-middle front pair back);
          meets = meets;
          none_below = subst (All NoneBelow) (sym cut)
              (All-append NoneBelow front (pair ∷ back)
              (All-weaker (λ (other : K × V). ¬ (P other.0)) NoneBelow (λ other misses too. absurd (misses too)) front before)
              (All-cons NoneBelow pair back (λ _ below. let level = tied_itself o pair.0 in absurd (cc (level, below)))
              (All-weaker (Below pair) NoneBelow (λ other high _ low. let turned = o.antisymm pair.0 other.0 ∙ ap ordering_reverse low in absurd (cc (high, turned))) back after)));
        },
        is,
      )

  -- what is answered along keys that rise is answered by their order
  pub AtMost-from_along : (pairs : List (K × V)) (order : K → Ordering) (default value : V) → IsRising cmp pairs → AtMostAlong order pairs default value → AtMost cmp pairs order default value
  AtMost-from_along pairs order default value rising (inl equal) = inl equal
  AtMost-from_along pairs order default value rising (inr (none, last)) = inr (none, GreatestOr-from_last (λ key. order key ≡ Less) pairs default value rising last)

  pub Above-from_along : (pairs : List (K × V)) (order : K → Ordering) (default value : V) → IsRising cmp pairs → AboveAlong order pairs default value → Above cmp pairs order default value
  Above-from_along pairs order default value = LeastOr-from_first (λ key. order key ≡ Greater) pairs default value

  -- where the keys that an order doesn't call Greater stand in front, the last of them is answered
  pub AtMost-at_count : (pairs : List (K × V)) (order : K → Ordering) (count : ℕ) (default value : V) → IsRising cmp pairs → IsMonotone cmp order pairs
      → IsPartitionPoint (λ other. not (is_gt (order other.0)) ≡ true) (λ other. not (is_gt (order other.0)) ≡ false) pairs count → count ≤ length pairs
      → (count ≡ 0 → value ≡ default) → (0 < count → (pair : K × V) × (slice_get pairs (count - 1) ≡ Some pair) × (value ≡ pair.1))
      → AtMost cmp pairs order default value
  AtMost-at_count pairs order count default value rising monotone point within none last =
      AtMost-from_along pairs order default value rising
      (AtMostAlong-at_point order pairs count within point default value (IsMonotoneAlong-rising cmp pairs order rising monotone) none last)

  -- only the key at the place can compare Equal
  pub equal_at_place : (pairs : List (K × V)) (key : K) (place : ℕ) → IsRising cmp pairs
      → IsPartitionPoint (λ other. cmp other.0 key ≡ Less) (λ other. cmp other.0 key ≢ Less) pairs place
      → (k : ℕ) (d : K × V) → k < length pairs → cmp (get_or pairs k d).0 key ≡ Equal → k ≡ place
  equal_at_place pairs key place rising (before, from) k d within level =
      ⊎_elim
      (λ lower. let below = before k d (omega arith) lower in absurd (cc (below, level)))
      (λ upper.
      ⊎_elim
      (λ same. same)
      (λ apart.
      let next : cmp (get_or pairs place d).0 (get_or pairs k d).0 ≡ Less = rising place k d (omega arith) within in
      absurd (from place d (omega arith) (omega arith) (sym (alike_right o (get_or pairs k d).0 key (get_or pairs place d).0 level) ∙ next)))
      (cases_eq k place))
      (cases_lt k place)

  -- so where the one there doesn't, none does
  pub NoKey-place : (pairs : List (K × V)) (key : K) (place : ℕ) → IsRising cmp pairs
      → IsPartitionPoint (λ other. cmp other.0 key ≡ Less) (λ other. cmp other.0 key ≢ Less) pairs place
      → ((d : K × V) → place < length pairs → cmp (get_or pairs place d).0 key ≢ Equal) → NoKey cmp pairs key
  NoKey-place pairs key place rising splits at_place k d within level = grind (arith, equal_at_place)

  module _ {E : Type 0} (expiration : K → E) (cmp_time : E → E → Ordering) (time : E) where
    pub HasKey-live : (pairs : List (K × V)) (key : K) (pair : K × V) → Contains pairs pair → is_live expiration cmp_time time pair.0 ≡ true → cmp pair.0 key ≡ Equal → HasKey cmp (live_pairs expiration cmp_time time pairs) key
    HasKey-live pairs key pair contained live level =
        let kept = Contains-filter (λ other. is_live expiration cmp_time time other.0) pairs pair live contained in
        (kept.0, pair, kept.1, kept.2, level)

    pub NoKey-live : (pairs : List (K × V)) (key : K) (place : ℕ) → IsRising cmp pairs
        → IsPartitionPoint (λ other. cmp other.0 key ≡ Less) (λ other. cmp other.0 key ≢ Less) pairs place
        → ((d : K × V) → place < length pairs → cmp (get_or pairs place d).0 key ≡ Equal → is_live expiration cmp_time time (get_or pairs place d).0 ≡ false)
        → NoKey cmp (live_pairs expiration cmp_time time pairs) key
    NoKey-live pairs key place rising point at_place =
        All-filter_passing (λ other. is_live expiration cmp_time time other.0) (λ other. cmp other.0 key ≢ Equal) pairs
        (λ k d within live level.
        let same = equal_at_place pairs key place rising point k d within level in
        let at : cmp (get_or pairs place d).0 key ≡ Equal = subst (λ n. cmp (get_or pairs n d).0 key ≡ Equal) same level in
        both_ways (is_live expiration cmp_time time (get_or pairs place d).0) (at_place d (omega (arith, within, same)) at) (subst (λ n. is_live expiration cmp_time time (get_or pairs n d).0 ≡ true) same live))

-- where keys rise, one that no other compares Equal to joins at its place; `key` gives an item's key
pub rises-insert : {X K : Type 0} {cmp : K → K → Ordering} (o : IsTotalOrder cmp) (key : X → K) (xs : List X) (x : X) (place : ℕ) → AllPairs (λ earlier later. cmp (key earlier) (key later) ≡ Less) xs
    → IsPartitionPoint (λ other. cmp (key other) (key x) ≡ Less) (λ other. cmp (key other) (key x) ≢ Less) xs place
    → place ≤ length xs → All (λ other. cmp (key other) (key x) ≢ Equal) xs → AllPairs (λ earlier later. cmp (key earlier) (key later) ≡ Less) (insert xs place x)
rises-insert {cmp = cmp} o key xs x place rising (before, from) within free =
    AllPairs-insert (λ earlier later. cmp (key earlier) (key later) ≡ Less) xs place x rising
    (λ k d inside.
    let short = length-take-le place xs within in
    rw (get_or-take place xs k d (omega arith)) (before k d (omega arith) (omega arith)))
    (λ k d inside.
    let short = length-drop place xs in
    rw (get_or-drop place xs k d) (above o (key (get_or xs (place + k) d)) (key x) (from (place + k) d (omega arith) (omega arith)) (free (place + k) d (omega arith))))

pub same_contents : {K V : Type 0} {a b : Contents K V} → a.pairs ≡ b.pairs → a.spare ≡ b.spare → a ≡ b
same_contents pairs spare i = record { pairs = pairs i; spare = spare i }
