-- Parts that are cut anew: where each is busy or clear of all others, and those that are busy are cut into single edges, their points are stretches.
use Rattle.std.proofs.Common.{◌≡◌, ◌⊎◌, inl, inr, ℕ, zero, suc, ◌<◌, ◌≤◌, Bool, true, false, List, [], ◌∷◌, ◌++◌, Some, length, get_or, map, ap, ap₂, subst, arith}
use Rattle.std.specs.List.{All, AllPairs, AllZip, Contains, slice_get}
use Rattle.std.proofs.lemmas.Bool.{cases_Bool, cases_eq}
use Rattle.std.proofs.lemmas.List.{length-append, map-append}
use Rattle.std.proofs.lemmas.List.Elements.{All-contains, Contains-get_or}
use Rattle.std.proofs.lemmas.Option.{slice_get-get_or, slice_get_within}
use Rattle.i_tree.proofs.RootLemmas.Joined.{All-to_map, AllPairs-to_map}
use Rattle.plane.specs.declared.edge.Edge.{Edge}
use Rattle.plane.specs.declared.point.Point.{Point}
use Rattle.plane.specs.Pairs.Pairs.{ArePairs}
use Rattle.noding.specs.Windings.{pieces}
use Rattle.monotone_chains.specs.Stretches.{AreApart, AreClear, AreStretches, IsLong, IsStretch}
use Rattle.monotone_chains.specs.Stretches.Cut.{AreClearParts, IsRound, AreSettled, IsCutInto, IsPart, IsSettled, IsShort, edges_along, way}
use Rattle.monotone_chains.specs.Stretches.Spans.{IsSpan, SpansMeet}
use Rattle.monotone_chains.specs.declared.stretches.parts.Part.{Part}
use Rattle.monotone_chains.specs.declared.stretches.spans.Span.{Span}
use Rattle.overlay.proofs.BoundaryLemmas.Broken.{chain-length}
use Rattle.noding.proofs.ChainLemmas.Offsets.{joined}
use Rattle.noding.proofs.ChainLemmas.Zips.{AllZip-at, AllZip-length}
use Rattle.monotone_chains.proofs.StretchLemmas.CutClear.{clear-of_spans}
use Rattle.monotone_chains.proofs.StretchLemmas.CutLists.{AllPairs-joined_lists}
use Rattle.monotone_chains.proofs.StretchLemmas.CutWays.{length-way}

-- ---- parts that aren't both busy are clear

-- parts whose spans don't meet
apart-spans : (parts : List Part) (spans : List Span) → AllZip IsSpan parts spans → (i j : ℕ) (d : Part) → i < j → j < length parts
    → ((one other : Span) → slice_get spans i ≡ Some one → slice_get spans j ≡ Some other → SpansMeet one other → ⊥) → AreClearParts (get_or parts i d) (get_or parts j d)
apart-spans parts [] lie i j d below inside none = absurd (let n = AllZip-length IsSpan parts [] lie in omega (arith, inside, n))
apart-spans parts (span ∷ more) lie i j d below inside none =
    let n = AllZip-length IsSpan parts (span ∷ more) lie in
    clear-of_spans (get_or parts i d) (get_or parts j d) (get_or (span ∷ more) i span) (get_or (span ∷ more) j span)
    (AllZip-at IsSpan parts (span ∷ more) d span i lie (omega (arith, below, inside)))
    (AllZip-at IsSpan parts (span ∷ more) d span j lie inside)
    (none (get_or (span ∷ more) i span) (get_or (span ∷ more) j span)
    (slice_get-get_or (span ∷ more) i span (omega (arith, below, inside, n))) (slice_get-get_or (span ∷ more) j span (omega (arith, inside, n))))

-- a pair of places stands in a list, or doesn't
same_pair : (i j k l : ℕ) → (let one : ℕ × ℕ = (i, j) in let other : ℕ × ℕ = (k, l) in (one ≡ other) ⊎ (one ≡ other → ⊥))
same_pair i j k l = elim (cases_eq i k) [
  | inl first ↦ elim (cases_eq j l) [
    | inl second ↦ inl (ap₂ (λ (a b : ℕ). let pair : ℕ × ℕ = (a, b) in pair) first second)
    | inr differs ↦ inr (λ same. differs (ap (λ (pair : ℕ × ℕ). pair.1) same))
  ]
  | inr differs ↦ inr (λ same. differs (ap (λ (pair : ℕ × ℕ). pair.0) same))
]

Contains-or : (pairs : List (ℕ × ℕ)) (pair : ℕ × ℕ) → Contains pairs pair ⊎ (Contains pairs pair → ⊥)
Contains-or [] pair = inr (λ held. (let (k, within, at) = held in omega (arith, within)))
Contains-or (first ∷ pairs) pair = on (same_pair first.0 first.1 pair.0 pair.1) (Contains-or pairs pair)
  where
    on : (first ≡ pair) ⊎ (first ≡ pair → ⊥) → Contains pairs pair ⊎ (Contains pairs pair → ⊥) → Contains (first ∷ pairs) pair ⊎ (Contains (first ∷ pairs) pair → ⊥)
    on (inl same) rest = inl (0, omega arith, same)
    on (inr differs) (inl (k, within, at)) = inl (suc k, omega (arith, within), at)
    on (inr differs) (inr none) = inr neither
      where
        neither : Contains (first ∷ pairs) pair → ⊥
        neither (zero, within, at) = differs at
        neither (suc k, within, at) = none (k, omega (arith, within), at)

-- places of pairs that meet are places of spans
pub pairs-within : (spans : List Span) (pairs : List (ℕ × ℕ)) → ArePairs SpansMeet spans pairs → All (λ pair. (pair.0 < length spans) × (pair.1 < length spans)) pairs
pairs-within spans pairs are k d within =
    let pair = get_or pairs k d in
    let is = (are.exact pair.0 pair.1).0 (Contains-get_or pairs k d within) in
    (slice_get_within spans pair.0 is.one is.first, slice_get_within spans pair.1 is.other is.second)

-- where pairs that meet are settled
pub AreSettled-pairs : (parts : List Part) (spans : List Span) (pairs : List (ℕ × ℕ)) (busy : List Bool)
    → AllZip IsSpan parts spans → ArePairs SpansMeet spans pairs → All (IsSettled parts busy) pairs → AreSettled parts busy
AreSettled-pairs parts spans pairs busy lie are settled i j d below inside = on (Contains-or pairs (i, j))
  where
    size : length spans ≡ length parts
    size = AllZip-length IsSpan parts spans lie

    first : i < length spans
    first = let n = size in omega (arith, below, inside, n)

    second : j < length spans
    second = let n = size in omega (arith, inside, n)

    there : (points others : List Point) → AreApart points others → (some more : List Point) → All (Contains points) some → All (Contains others) more → AreApart some more
    there points others apart some more of of_others = record {
      u = apart.u;
      v = apart.v;
      beyond = λ p q held held_too. apart.beyond p q (All-contains (Contains points) some p of held) (All-contains (Contains others) more q of_others held_too);
    }

    met : ((get_or busy i false ≡ true) × (get_or busy j false ≡ true)) ⊎ AreApart (way (get_or parts i d)) (way (get_or parts j d)) → ((get_or busy i false ≡ true) × (get_or busy j false ≡ true)) ⊎ AreClearParts (get_or parts i d) (get_or parts j d)
    met (inl marked) = inl marked
    met (inr apart) = inr (λ several some others of of_others. inl (there (way (get_or parts i d)) (way (get_or parts j d)) apart some others of of_others))

    on : Contains pairs (i, j) ⊎ (Contains pairs (i, j) → ⊥) → ((get_or busy i false ≡ true) × (get_or busy j false ≡ true)) ⊎ AreClearParts (get_or parts i d) (get_or parts j d)
    on (inl held) = met (All-contains (IsSettled parts busy) pairs (i, j) settled held d)
    on (inr none) = inr (apart-spans parts spans lie i j d below inside (λ one other at at_too meet.
        none ((are.exact i j).1 (record { one = one; other = other; rising = below; first = at; second = at_too; meet = meet }))))

-- ---- single edges

-- a part with several edges is of edges with as many
longer : (points : List Point) (group : List Part) (one : Part) → 0 < length points → IsCutInto points group → Contains group one → IsLong (way one) → IsLong points
longer points group one some cut held more =
    let all = chain-length points some in
    let here = chain-length (way one) (omega arith) in
    let same = ap (λ (list : List Edge). length list) cut.is in
    let sum = upto group held in
    omega (arith, all, here, same, sum, more)
  where
    upto : (parts : List Part) → Contains parts one → length (pieces (way one)) ≤ length (edges_along parts)
    upto [] (k, within, at) = absurd (omega (arith, within))
    upto (part ∷ parts) (zero, within, at) =
        let first = ap (λ (p : Part). length (pieces (way p))) at in
        let sum = length-append (pieces (way part)) (edges_along parts) in
        omega (arith, first, sum)
    upto (part ∷ parts) (suc k, within, at) =
        let rest = upto parts (k, omega (arith, within), at) in
        let sum = length-append (pieces (way part)) (edges_along parts) in
        omega (arith, rest, sum)

module _ (parts : List Part) (groups : List (List Part)) (are_parts : All IsPart parts) (are : IsRound 1 parts groups) where
  -- a part of the result with another one
  abbrev Keeps : Part → Part → Type 0
  Keeps one other = IsLong (way one) ⊎ IsLong (way other) → AreClear (way one) (way other)

  size : length groups ≡ length parts
  size = AllZip-length (λ part group. IsCutInto (way part) group) parts groups are.refined.cut

  cut-at : (k : ℕ) (d : Part) (e : List Part) → k < length parts → IsCutInto (way (get_or parts k d)) (get_or groups k e)
  cut-at k d e within = AllZip-at (λ part group. IsCutInto (way part) group) parts groups d e k are.refined.cut within

  -- one that is busy has no long parts
  single : (k : ℕ) (e : List Part) → k < length parts → get_or are.busy k false ≡ true → (one : Part) → Contains (get_or groups k e) one → IsLong (way one) → ⊥
  single k e within busy one held more =
      let few = All-contains (IsShort 1) (get_or groups k e) one (are.refined.few k e within busy) held in
      omega (arith, few, more, length-way one)

  inner : (k : ℕ) (e : List Part) → k < length groups → AllPairs Keeps (get_or groups k e)
  inner k e inside = on (cases_Bool (get_or are.busy k false))
    where
      within : k < length parts
      within = let n = size in omega (arith, inside, n)

      on : (get_or are.busy k false ≡ true) ⊎ (get_or are.busy k false ≡ false) → AllPairs Keeps (get_or groups k e)
      on (inl busy) = λ i j d below last several.
          absurd (none (Contains-get_or (get_or groups k e) i d (omega (arith, below, last))) (Contains-get_or (get_or groups k e) j d last) several)
        where
          none : {one other : Part} → Contains (get_or groups k e) one → Contains (get_or groups k e) other → IsLong (way one) ⊎ IsLong (way other) → ⊥
          none {one} {other} first second (inl more) = single k e within busy one first more
          none {one} {other} first second (inr more) = single k e within busy other second more
      on (inr quiet) = λ i j d below last.
          absurd (let n = ap (λ (group : List Part). length group) (are.refined.kept k d e within quiet) in omega (arith, below, last, n))

  across : (i j : ℕ) (e : List Part) → i < j → j < length groups → All (λ one. All (Keeps one) (get_or groups j e)) (get_or groups i e)
  across i j e below inside = λ k d first l f second.
      pair d (get_or (get_or groups i e) k d) (get_or (get_or groups j e) l f) (Contains-get_or (get_or groups i e) k d first) (Contains-get_or (get_or groups j e) l f second) (are.clear i j d below within)
    where
      within : j < length parts
      within = let n = size in omega (arith, inside, n)

      within_one : i < length parts
      within_one = let n = size in omega (arith, below, inside, n)

      several : (k : ℕ) (d : Part) → k < length parts → (one : Part) → Contains (get_or groups k e) one → IsLong (way one) → IsLong (way (get_or parts k d))
      several k d within one held more = longer (way (get_or parts k d)) (get_or groups k e) one (omega arith) (cut-at k d e within) held more

      points : (k : ℕ) (d : Part) → k < length parts → (one : Part) → Contains (get_or groups k e) one → All (Contains (way (get_or parts k d))) (way one)
      points k d within one held = All-contains (λ part. All (Contains (way (get_or parts k d))) (way part)) (get_or groups k e) one (cut-at k d e within).within held

      pair : (d : Part) → (one other : Part) → Contains (get_or groups i e) one → Contains (get_or groups j e) other
          → ((get_or are.busy i false ≡ true) × (get_or are.busy j false ≡ true)) ⊎ AreClearParts (get_or parts i d) (get_or parts j d) → Keeps one other
      pair d one other first second (inl (busy, busy_too)) (inl more) = absurd (single i e within_one busy one first more)
      pair d one other first second (inl (busy, busy_too)) (inr more) = absurd (single j e within busy_too other second more)
      pair d one other first second (inr clear) (inl more) = clear (inl (several i d within_one one first more)) (way one) (way other) (points i d within_one one first) (points j d within other second)
      pair d one other first second (inr clear) (inr more) = clear (inr (several j d within other second more)) (way one) (way other) (points i d within_one one first) (points j d within other second)

  pub clear-parts : AllPairs (λ one other. IsLong (way one) ⊎ IsLong (way other) → AreClear (way one) (way other)) (joined groups)
  clear-parts = AllPairs-joined_lists Keeps groups (λ k e inside. inner k e inside) (λ i j e below inside. across i j e below inside)

-- ---- stretches

pub AreStretches-ways : (subject clip : List Edge) (front back : List Part) → subject ≡ edges_along front → clip ≡ edges_along back → All IsPart (front ++ back)
    → AllPairs (λ one other. IsLong (way one) ⊎ IsLong (way other) → AreClear (way one) (way other)) (front ++ back)
    → AreStretches subject clip (map way front) (map way back)
AreStretches-ways subject clip front back first second are clear = record {
  is = first;
  clip_is = second;
  each = subst (All IsStretch) (map-append way front back) (All-to_map IsStretch way (front ++ back) are);
  clear =
      let Clear : List Point → List Point → Type 0 = λ one other. IsLong one ⊎ IsLong other → AreClear one other in
      subst (AllPairs Clear) (map-append way front back) (AllPairs-to_map Clear way (front ++ back) clear);
}
