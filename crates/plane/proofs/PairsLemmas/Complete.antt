-- Which pairs are told once some parts are served, and that all pairs are told once all are.
use Rattle.std.proofs.Common.{◌≡◌, ◌≢◌, inl, inr, ℕ, ◌<◌, ℤ, ◌≤ℤ◌, min, max, Option, Some, List, [], ◌∷◌, ◌++◌, length, get_or, refl, sym, ap, ap₂, ◌∙◌, subst, arith}
use Rattle.std.specs.Int.{int_max}
use Rattle.std.specs.List.{All, AllPairs, Contains, slice_get}
use Rattle.std.proofs.lemmas.Bool.{cases_lt}
use Rattle.std.proofs.lemmas.Int.{ints, clamps}
use Rattle.std.proofs.lemmas.List.Elements.{Contains-append_left, Contains-append_right, Contains-append_cases, Contains-push, Contains-push_cases, Contains-get_or}
use Rattle.std.proofs.lemmas.Option.{same_Some, get_or_from_slice_get, slice_get_within}
use Rattle.i_tree.specs.Seg.Buckets.{Buckets}
use Rattle.i_tree.specs.Seg.Members.{Member}
use Rattle.i_tree.proofs.RootLemmas.Joined.{AllPairs-append}
use Rattle.plane.specs.Pairs.Pairs.{ArePairs, AreMoreThan}
use Rattle.plane.specs.Pairs.Parts.{AreParts, part_of}
use Rattle.plane.specs.Pairs.Strips.{strip_at, Reaches, IsOverStrip}
use Rattle.plane.specs.Pairs.Sweep.{Serves, ArePairsWith, IsTold, pair_of}
use Rattle.plane.specs.declared.pairs.parts.Part.{Part}
use Rattle.plane.specs.declared.pairs.strips.Strips.{Strips}
use Rattle.plane.specs.declared.pairs.sweep.Placed.{Placed}
use Rattle.plane.proofs.PairsLemmas.Parts.{same_part}
use Rattle.plane.proofs.PairsLemmas.Status.{Holds, IsServed, placed_at, is_other, of_others, others_apart, elsewhere}
use Rattle.plane.proofs.PairsLemmas.Told.{Reaches-meeting, overlaps}
use Rattle.plane.specs.declared.pairs.items.Bounds.{Bounds}
use Rattle.plane.specs.Pairs.Bounds.{MeetInBoxes}

-- the strip in which the greater of two items' lower ends lies
abbrev pub strip_of_both : {X : Type 0} → (X → Bounds) → Strips → X → X → ℕ
strip_of_both bounds strips one other = strip_at strips (int_max (bounds one).low (bounds other).low)

strip_of_both-comm : {X : Type 0} (bounds : X → Bounds) (strips : Strips) (one other : X) → strip_of_both bounds strips one other ≡ strip_of_both bounds strips other one
strip_of_both-comm bounds strips one other = ap (strip_at strips) (greater (bounds one).low (bounds other).low)
  where
    greater : (a b : ℤ) → int_max a b ≡ int_max b a
    greater a b = omega (arith, ints, clamps)

-- the items at these two places meet, the first place below the second, and both are served in the strip that tells it
pub record ToldAt {X : Type 0} (bounds : X → Bounds) (Meeting : X → X → Type 0) (strips : Strips) (items : List X) (served : List Part) (i j : ℕ) : Type 0 where
  pub one : X
  pub other : X
  pub rising : i < j
  pub first : slice_get items i ≡ Some one
  pub second : slice_get items j ≡ Some other
  pub meet : Meeting one other
  pub own : Contains served (part_of i (bounds one) (strip_of_both bounds strips one other))
  pub others : Contains served (part_of j (bounds other) (strip_of_both bounds strips one other))

-- the pairs are those, each once
pub record AreTold {X : Type 0} (bounds : X → Bounds) (Meeting : X → X → Type 0) (strips : Strips) (items : List X) (served : List Part) (pairs : List (ℕ × ℕ)) : Type 0 where
  pub each : (i j : ℕ) → ToldAt bounds Meeting strips items served i j → Contains pairs (i, j)
  pub of : (i j : ℕ) → Contains pairs (i, j) → ToldAt bounds Meeting strips items served i j
  pub once : AllPairs (λ pair later. pair ≢ later) pairs

pub AreTold-none : {X : Type 0} (bounds : X → Bounds) (Meeting : X → X → Type 0) (strips : Strips) (items : List X) → AreTold bounds Meeting strips items [] []
AreTold-none bounds Meeting strips items = record {
  each = λ i j told. absurd (omega (arith, told.own.1));
  of = λ i j within. absurd (omega (arith, within.1));
  once = λ i j d below within. absurd (omega (arith, within));
}

-- the pair of two places that rise, and of two that fall
pair_rising : (i j : ℕ) → i < j → pair_of i j ≡ (i, j)
pair_rising i j below = ap₂ (λ (a b : ℕ). (a, b)) (least i j below) (greatest i j below)
  where
    least : (a b : ℕ) → a < b → min a b ≡ a
    least a b below = omega (arith, below)

    greatest : (a b : ℕ) → a < b → max a b ≡ b
    greatest a b below = omega (arith, below)

pair_falling : (i j : ℕ) → j < i → pair_of i j ≡ (j, i)
pair_falling i j below = ap₂ (λ (a b : ℕ). (a, b)) (least i j below) (greatest i j below)
  where
    least : (a b : ℕ) → b < a → min a b ≡ b
    least a b below = omega (arith, below)

    greatest : (a b : ℕ) → b < a → max a b ≡ a
    greatest a b below = omega (arith, below)

-- An item is served, as in `Status`. It and what is served in its strip reach the strip, and the base isn't above their
-- lower ends.
module _ {X : Type 0} {bounds : X → Bounds} {Meeting : X → X → Type 0} (boxed : MeetInBoxes bounds Meeting) (strips : Strips) (items : List X) (buckets : Buckets) (served : List Part) (strip : ℕ) (latest : Option ℤ) (old new : List (Member (Placed X))) (holds : Holds bounds strips items buckets served strip latest old)
    (placed : Placed X) (stands : slice_get items placed.place ≡ Some placed.item) (unserved : Contains served (part_of placed.place (bounds placed.item) strip) → ⊥)
    (behind : (other : Placed X) → IsServed bounds items served strip other → (bounds other.item).left ≤ℤ (bounds placed.item).left)
    (before after : List (ℕ × ℕ)) (serves : Serves bounds Meeting strips strip placed buckets old new before after)
    (over : IsOverStrip strips buckets) (above : strips.base ≤ℤ (bounds placed.item).low) (reaches : Reaches strips (bounds placed.item) strip)
    (all_above : (other : Placed X) → IsServed bounds items served strip other → strips.base ≤ℤ (bounds other.item).low) (all_reach : (other : Placed X) → IsServed bounds items served strip other → Reaches strips (bounds other.item) strip)
    (found : List (ℕ × ℕ)) (told : AreTold bounds Meeting strips items served found) where
  abbrev part : Part
  part = part_of placed.place (bounds placed.item) strip

  abbrev pairs : List (ℕ × ℕ)
  pairs = serves.asks.gains.0

  abbrev are : ArePairsWith bounds Meeting strips strip placed serves.asks.others pairs
  are = serves.asks.gains.2

  -- what it meets in the strip that tells it is told
  is_told : (other : Placed X) → IsServed bounds items served strip other → Meeting placed.item other.item → strip_of_both bounds strips placed.item other.item ≡ strip → Contains pairs (pair_of placed.place other.place)
  is_told other is_served meet here =
      are.each other
      (is_other boxed strips items buckets served strip latest old new holds placed stands unserved behind before after serves other is_served (boxed.near placed.item other.item meet).left
      (λ filters. overlaps strips strip buckets over (bounds other.item) (bounds placed.item) (boxed.proper other.item) (boxed.proper placed.item) (all_above other is_served) above (all_reach other is_served) reaches
      (boxed.near other.item placed.item (boxed.exchanged placed.item other.item meet)) filters))
      (record { meet = meet; here = here })

  -- two served items, of which one is that which is served now
  told_own : (i j : ℕ) (told : ToldAt bounds Meeting strips items (served ++ part ∷ []) i j) → part ≡ part_of i (bounds told.one) (strip_of_both bounds strips told.one told.other) → Contains served (part_of j (bounds told.other) (strip_of_both bounds strips told.one told.other)) → Contains pairs (i, j)
  told_own i j told is earlier =
      let place : placed.place ≡ i = ap (λ (one : Part). one.place) is in
      let here : strip ≡ strip_of_both bounds strips told.one told.other = ap (λ (one : Part). one.strip) is in
      let same : placed.item ≡ told.one = same_Some placed.item told.one (sym stands ∙ ap (slice_get items) place ∙ told.first) in
      let is_served : IsServed bounds items served strip (placed_at j told.other) = record { stands = told.second; part = subst (λ (s : ℕ). Contains served (part_of j (bounds told.other) s)) (sym here) earlier } in
      let pair = is_told (placed_at j told.other) is_served (subst (λ (one : X). Meeting one told.other) (sym same) told.meet) (ap (λ (one : X). strip_of_both bounds strips one told.other) same ∙ sym here) in
      subst (Contains pairs) (ap (λ (p : ℕ). pair_of p j) place ∙ pair_rising i j told.rising) pair

  told_others : (i j : ℕ) (told : ToldAt bounds Meeting strips items (served ++ part ∷ []) i j) → part ≡ part_of j (bounds told.other) (strip_of_both bounds strips told.one told.other) → Contains served (part_of i (bounds told.one) (strip_of_both bounds strips told.one told.other)) → Contains pairs (i, j)
  told_others i j told is earlier =
      let place : placed.place ≡ j = ap (λ (one : Part). one.place) is in
      let here : strip ≡ strip_of_both bounds strips told.one told.other = ap (λ (one : Part). one.strip) is in
      let same : placed.item ≡ told.other = same_Some placed.item told.other (sym stands ∙ ap (slice_get items) place ∙ told.second) in
      let is_served : IsServed bounds items served strip (placed_at i told.one) = record { stands = told.first; part = subst (λ (s : ℕ). Contains served (part_of i (bounds told.one) s)) (sym here) earlier } in
      let pair = is_told (placed_at i told.one) is_served (subst (λ (one : X). Meeting one told.one) (sym same) (boxed.exchanged told.one told.other told.meet))
      (ap (λ (one : X). strip_of_both bounds strips one told.one) same ∙ strip_of_both-comm bounds strips told.other told.one ∙ sym here) in
      subst (Contains pairs) (ap (λ (p : ℕ). pair_of p i) place ∙ pair_falling j i told.rising) pair

  each_told : (i j : ℕ) → ToldAt bounds Meeting strips items (served ++ part ∷ []) i j → Contains (found ++ pairs) (i, j)
  each_told i j both =
      let s = strip_of_both bounds strips both.one both.other in
      elim (Contains-push_cases served part (part_of i (bounds both.one) s) both.own) [
        | inl own ↦ elim (Contains-push_cases served part (part_of j (bounds both.other) s) both.others) [
          | inl other ↦ Contains-append_left found pairs (i, j) (told.each i j (record { one = both.one; other = both.other; rising = both.rising; first = both.first; second = both.second; meet = both.meet; own = own; others = other }))
          | inr is ↦ Contains-append_right found pairs (i, j) (told_others i j both is own)
        ]
        | inr is ↦ elim (Contains-push_cases served part (part_of j (bounds both.other) s) both.others) [
          | inl other ↦ Contains-append_right found pairs (i, j) (told_own i j both is other)
          | inr also ↦ absurd (let first : placed.place ≡ i = ap (λ (one : Part). one.place) is in let second : placed.place ≡ j = ap (λ (one : Part). one.place) also in omega (arith, first, second, both.rising))
        ]
      ]

  -- where a pair of it comes from: it and one that is served in the strip, in either order
  data Comes (i j : ℕ) : Type 0 where
    rising : (other : Placed X) → IsServed bounds items served strip other → IsTold bounds Meeting strips strip placed.item other.item → i ≡ placed.place → j ≡ other.place → i < j → Comes i j
    falling : (other : Placed X) → IsServed bounds items served strip other → IsTold bounds Meeting strips strip placed.item other.item → i ≡ other.place → j ≡ placed.place → i < j → Comes i j

  comes : (i j : ℕ) → Contains pairs (i, j) → Comes i j
  comes i j within =
      let (other, among, is_told, is) = are.of (i, j) within in
      let is_served = of_others boxed strips items buckets served strip latest old new holds placed stands unserved behind before after serves other among in
      let differ = elsewhere boxed strips items buckets served strip latest old new holds placed stands unserved behind before after serves other is_served in
      elim (cases_lt placed.place other.place) [
        | inl below ↦
            let same = is ∙ pair_rising placed.place other.place below in
            let first : i ≡ placed.place = ap (λ (pair : ℕ × ℕ). pair.0) same in
            let second : j ≡ other.place = ap (λ (pair : ℕ × ℕ). pair.1) same in
            rising other is_served is_told first second (omega (arith, first, second, below))
        | inr upto ↦
            let below : other.place < placed.place = elim (cases_lt other.place placed.place) [ inl less ↦ less | inr more ↦ absurd (differ (omega (arith, upto, more))) ] in
            let same = is ∙ pair_falling placed.place other.place below in
            let first : i ≡ other.place = ap (λ (pair : ℕ × ℕ). pair.0) same in
            let second : j ≡ placed.place = ap (λ (pair : ℕ × ℕ). pair.1) same in
            falling other is_served is_told first second (omega (arith, first, second, below))
      ]

  told_comes : (i j : ℕ) → Comes i j → ToldAt bounds Meeting strips items (served ++ part ∷ []) i j
  told_comes i j (rising other is_served is_told first second below) = record {
    one = placed.item;
    other = other.item;
    rising = below;
    first = ap (slice_get items) first ∙ stands;
    second = ap (slice_get items) second ∙ is_served.stands;
    meet = is_told.meet;
    own = subst (Contains (served ++ part ∷ [])) (same_part bounds placed.place i strip (strip_of_both bounds strips placed.item other.item) placed.item placed.item (sym first) (sym is_told.here) refl) (Contains-push served part);
    others = subst (Contains (served ++ part ∷ [])) (same_part bounds other.place j strip (strip_of_both bounds strips placed.item other.item) other.item other.item (sym second) (sym is_told.here) refl) (Contains-append_left served (part ∷ []) (part_of other.place (bounds other.item) strip) is_served.part);
  }
  told_comes i j (falling other is_served is_told first second below) =
      let here : strip_of_both bounds strips other.item placed.item ≡ strip = strip_of_both-comm bounds strips other.item placed.item ∙ is_told.here in
      record {
        one = other.item;
        other = placed.item;
        rising = below;
        first = ap (slice_get items) first ∙ is_served.stands;
        second = ap (slice_get items) second ∙ stands;
        meet = boxed.exchanged placed.item other.item is_told.meet;
        own = subst (Contains (served ++ part ∷ [])) (same_part bounds other.place i strip (strip_of_both bounds strips other.item placed.item) other.item other.item (sym first) (sym here) refl) (Contains-append_left served (part ∷ []) (part_of other.place (bounds other.item) strip) is_served.part);
        others = subst (Contains (served ++ part ∷ [])) (same_part bounds placed.place j strip (strip_of_both bounds strips other.item placed.item) placed.item placed.item (sym second) (sym here) refl) (Contains-push served part);
      }

  of_told : (i j : ℕ) → Contains (found ++ pairs) (i, j) → ToldAt bounds Meeting strips items (served ++ part ∷ []) i j
  of_told i j within = elim (Contains-append_cases found pairs (i, j) within) [
    | inl earlier ↦
        let both = told.of i j earlier in
        let s = strip_of_both bounds strips both.one both.other in
        record {
          one = both.one;
          other = both.other;
          rising = both.rising;
          first = both.first;
          second = both.second;
          meet = both.meet;
          own = Contains-append_left served (part ∷ []) (part_of i (bounds both.one) s) both.own;
          others = Contains-append_left served (part ∷ []) (part_of j (bounds both.other) s) both.others;
        }
    | inr new ↦ told_comes i j (comes i j new)
  ]

  -- such a pair wasn't told before
  not_told : (i j : ℕ) → ToldAt bounds Meeting strips items served i j → Comes i j → ⊥
  not_told i j both (rising other is_served is_told first second below) =
      let one : both.one ≡ placed.item = same_Some both.one placed.item (sym both.first ∙ ap (slice_get items) first ∙ stands) in
      let another : both.other ≡ other.item = same_Some both.other other.item (sym both.second ∙ ap (slice_get items) second ∙ is_served.stands) in
      let here : strip_of_both bounds strips both.one both.other ≡ strip = ap₂ (strip_of_both bounds strips) one another ∙ is_told.here in
      unserved (subst (Contains served) (same_part bounds i placed.place (strip_of_both bounds strips both.one both.other) strip both.one placed.item first here one) both.own)
  not_told i j both (falling other is_served is_told first second below) =
      let one : both.one ≡ other.item = same_Some both.one other.item (sym both.first ∙ ap (slice_get items) first ∙ is_served.stands) in
      let another : both.other ≡ placed.item = same_Some both.other placed.item (sym both.second ∙ ap (slice_get items) second ∙ stands) in
      let here : strip_of_both bounds strips both.one both.other ≡ strip = ap₂ (strip_of_both bounds strips) one another ∙ strip_of_both-comm bounds strips other.item placed.item ∙ is_told.here in
      unserved (subst (Contains served) (same_part bounds j placed.place (strip_of_both bounds strips both.one both.other) strip both.other placed.item second here another) both.others)

  pub AreTold-served : AreTold bounds Meeting strips items (served ++ part_of placed.place (bounds placed.item) strip ∷ []) (found ++ serves.asks.gains.0)
  AreTold-served = record {
    each = each_told;
    of = of_told;
    once = AllPairs-append (λ one later. one ≢ later) found pairs told.once
        (are.once (others_apart boxed strips items buckets served strip latest old new holds placed stands unserved behind before after serves))
        (λ k d inside l e within same.
        let pair = get_or found k d in
        let both = told.of pair.0 pair.1 (Contains-get_or found k d inside) in
        not_told pair.0 pair.1 both (comes pair.0 pair.1 (subst (Contains pairs) (sym same) (Contains-get_or pairs l e within))));
  }

-- once all parts are served, the pairs are those that meet
pub ArePairs-told : {X : Type 0} {bounds : X → Bounds} {Meeting : X → X → Type 0} (boxed : MeetInBoxes bounds Meeting) (strips : Strips) (items : List X) (parts : List Part) (all : List (ℕ × ℕ)) → All (λ item. strips.base ≤ℤ (bounds item).low) items → AreParts bounds strips items parts → AreTold bounds Meeting strips items parts all → ArePairs Meeting items all
ArePairs-told {X} {bounds} {Meeting} boxed strips items parts all base are told = record {
  once = told.once;
  exact = λ i j. (
    λ within. let both = told.of i j within in record { one = both.one; other = both.other; rising = both.rising; first = both.first; second = both.second; meet = both.meet },
    λ meets.
        let one = meets.one in
        let other = meets.other in
        let s = strip_of_both bounds strips one other in
        let first = above i one meets.first in
        let second = above j other meets.second in
        told.each i j (record {
          one = one;
          other = other;
          rising = meets.rising;
          first = meets.first;
          second = meets.second;
          meet = meets.meet;
          own = are.each i s one meets.first (Reaches-meeting strips (bounds one) (bounds other) (boxed.proper one) (boxed.proper other) first second (boxed.near one other meets.meet));
          others = are.each j s other meets.second
              (subst (Reaches strips (bounds other)) (strip_of_both-comm bounds strips other one)
              (Reaches-meeting strips (bounds other) (bounds one) (boxed.proper other) (boxed.proper one) second first (boxed.near other one (boxed.exchanged one other meets.meet))));
        }),
  );
}
  where
    above : (place : ℕ) (item : X) → slice_get items place ≡ Some item → strips.base ≤ℤ (bounds item).low
    above place item stands = subst (λ (one : X). strips.base ≤ℤ (bounds one).low) (get_or_from_slice_get items place item item stands) (base place item (slice_get_within items place item stands))

-- what is told is of them
pub AreMoreThan-told : {X : Type 0} {bounds : X → Bounds} {Meeting : X → X → Type 0} (boxed : MeetInBoxes bounds Meeting) (strips : Strips) (items : List X) (parts : List Part) (most : ℕ) (some : List (ℕ × ℕ)) → most < length some → AreTold bounds Meeting strips items parts some → AreMoreThan Meeting items most some
AreMoreThan-told boxed strips items parts most some more told = record {
  more = more;
  once = told.once;
  of = λ k d within.
      let pair = get_or some k d in
      let both = told.of pair.0 pair.1 (Contains-get_or some k d within) in
      record { one = both.one; other = both.other; rising = both.rising; first = both.first; second = both.second; meet = both.meet };
}
