-- Pairs of places of edges that have a common end, by their ends in order.
use Rattle.std.proofs.Common.{arith, ap, inl, inr, refl, sym, subst, subst₂, ◌∙◌, ◌⊎◌, ℕ, true, false, ◌+◌, ◌<◌, ◌≤◌, ◌≡◌, ◌↔◌, ◌++◌, List, [], ◌∷◌, Some, Ordering, Less, Equal, Greater, get_or, length}
use Rattle.std.specs.List.{All, Contains, slice_get}
use Rattle.std.specs.List.Sorted.{IsPermutation, IsSorted}
use Rattle.std.specs.Ordering.{is_eq, is_lt, ordering_reverse, ordering_then}
use Rattle.std.proofs.lemmas.Bool.{cases_lt}
use Rattle.std.proofs.lemmas.List.Elements.{Contains-get_or}
use Rattle.std.proofs.lemmas.List.Sorted.{Contains-permutation, IsPermutation-sym, ranks_by, sorted_far}
use Rattle.std.proofs.lemmas.Option.{get_or_from_slice_get, same_Some, slice_get-get_or, slice_get_within}
use Rattle.plane.specs.contracts.meet.common_ends.EndAtOrd.TheImpl.{ghosts as end_order}
use Rattle.plane.specs.contracts.meet.common_ends.EndAtOrd.TheImpl.Laws.{total-law as end_total}
use Rattle.plane.specs.contracts.point.PointOrd.TheImpl.{ghosts as point_order}
use Rattle.plane.specs.contracts.point.PointOrd.TheImpl.Laws.{total-law as point_total}
use Rattle.plane.specs.declared.edge.Edge.{Edge}
use Rattle.plane.specs.declared.meet.common_ends.EndAt.{EndAt}
use Rattle.plane.specs.declared.point.Point.{Point}
use Rattle.plane.specs.Gains.{GainsThese}
use Rattle.plane.specs.Meet.Columns.{AreEnds, AreTogether, HaveAllAlike, IsAlike, IsAlikeUpto, IsEndOf, IsEndPoint, IsEndUpto, IsWithinCount}
use Rattle.plane.proofs.GainsLemmas.{gained-all, gains-join, gains-none, gains-one, gains-same, held-at, place-of}
use Rattle.plane.proofs.PointLemmas.{point-same}

-- ---- the ends of edges

pub ends-none : (edges : List Edge) (ends : List EndAt) → ends ≡ [] → GainsThese (IsEndUpto edges 0) [] ends
ends-none edges ends is = subst (GainsThese (IsEndUpto edges 0) []) (sym is) (gains-none (IsEndUpto edges 0) [] (λ end upto. let before = upto.before in omega (arith, before)))

pub ends-next : (edges : List Edge) (k : ℕ) (d : Edge) (now after : List EndAt) → k < length edges → GainsThese (IsEndUpto edges k) [] now → GainsThese (IsEndOf k (get_or edges k d)) now after → GainsThese (IsEndUpto edges (k + 1)) [] after
ends-next edges k d now after within gained more =
    gains-same (λ end. IsEndUpto edges k end ⊎ IsEndOf k (get_or edges k d) end) (IsEndUpto edges (k + 1)) [] after to from
    (gains-join (IsEndUpto edges k) (IsEndOf k (get_or edges k d)) [] now after gained more)
  where
    to : (end : EndAt) → IsEndUpto edges k end ⊎ IsEndOf k (get_or edges k d) end → IsEndUpto edges (k + 1) end
    to end (inl is) = record { edge = is.edge; before = (let before = is.before in omega (arith, before)); stands = is.stands; is = is.is }
    to end (inr (place, is)) = record { edge = get_or edges k d; before = omega (arith, place); stands = ap (slice_get edges) place ∙ slice_get-get_or edges k d within; is = is }

    from : (end : EndAt) → IsEndUpto edges (k + 1) end → IsEndUpto edges k end ⊎ IsEndOf k (get_or edges k d) end
    from end is = elim (cases_lt end.place k) [
      | inl below ↦ inl (record { edge = is.edge; before = below; stands = is.stands; is = is.is })
      | inr upto ↦
          let before = is.before in
          let place : end.place ≡ k = omega (arith, before, upto) in
          let same : is.edge ≡ get_or edges k d = same_Some _ _ (sym is.stands ∙ ap (slice_get edges) place ∙ slice_get-get_or edges k d within) in
          inr (place, subst (λ (edge : Edge). IsEndPoint edge end.point) same is.is)
    ]

pub ends-all : (edges : List Edge) (k : ℕ) (now sorted : List EndAt) → length edges ≤ k → GainsThese (IsEndUpto edges k) [] now → IsPermutation now sorted → AreEnds edges sorted
ends-all edges k now sorted past gained moved end = (
  λ held. let is = (all end).0 (Contains-permutation sorted now end (IsPermutation-sym now sorted moved) held) in record { edge = is.edge; before = slice_get_within edges end.place is.edge is.stands; stands = is.stands; is = is.is },
  λ is. Contains-permutation now sorted end moved ((all end).1 (record { edge = is.edge; before = (let before = is.before in omega (arith, before, past)); stands = is.stands; is = is.is })),
)
  where
    all : (end : EndAt) → Contains now end ↔ IsEndUpto edges k end
    all = gained-all (IsEndUpto edges k) now gained

-- ---- in order

point_first : (first second : Ordering) → is_lt (ordering_then first second) ≡ false → is_lt first ≡ false
point_first Less second not_less = not_less
point_first Equal second not_less = refl
point_first Greater second not_less = refl

same_between : (first back : Ordering) → back ≡ ordering_reverse first → is_lt first ≡ false → is_lt back ≡ false → is_eq first ≡ true
same_between Less back is not_less not_more = cc
same_between Equal back is not_less not_more = refl
same_between Greater back is not_less not_more = absurd cc

pub AreTogether-sorted : (ends : List EndAt) → IsSorted end_order.cmp ends → AreTogether ends
AreTogether-sorted ends sorted i j k one between other below below_too first second third same =
    sym (point-same between.point one.point (same_between (point_order.cmp between.point one.point) (point_order.cmp one.point between.point) (point_total.antisymm one.point between.point) not_less not_more))
  where
    later : (i j : ℕ) (one other : EndAt) → i < j → slice_get ends i ≡ Some one → slice_get ends j ≡ Some other → is_lt (point_order.cmp other.point one.point) ≡ false
    later i j one other below first second =
        point_first (point_order.cmp other.point one.point) _
        (subst₂ (λ (x y : EndAt). is_lt (end_order.cmp y x) ≡ false) (get_or_from_slice_get ends i one one first) (get_or_from_slice_get ends j other one second) (sorted_far _ (ranks_by end_total (λ it. it)) ends sorted i j one (omega (arith, below)) (slice_get_within ends j other second)))

    not_less : is_lt (point_order.cmp between.point one.point) ≡ false
    not_less = later i j one between below first second

    not_more : is_lt (point_order.cmp one.point between.point) ≡ false
    not_more = subst (λ (point : Point). is_lt (point_order.cmp point between.point) ≡ false) (sym same) (later j k between other below_too second third)

-- ---- those behind one that are the same point

module _ (ends : List EndAt) (first : ℕ) (before : List (ℕ × ℕ)) where
  pub alike-none : GainsThese (IsAlike ends first (first + 1)) before before
  alike-none = gains-none (IsAlike ends first (first + 1)) before (λ pair alike. let behind = alike.behind in let upto = alike.before in omega (arith, behind, upto))

  module _ (one : EndAt) (stands : slice_get ends first ≡ Some one) (next : ℕ) (other : EndAt) (behind : first < next) (other_stands : slice_get ends next ≡ Some other) where
    pub alike-next : (now after : List (ℕ × ℕ)) → one.point ≡ other.point → GainsThese (IsAlike ends first next) before now → after ≡ now ++ (one.place, other.place) ∷ [] → GainsThese (IsAlike ends first (next + 1)) before after
    alike-next now after same gained appended =
        gains-same (λ pair. IsAlike ends first next pair ⊎ (pair ≡ (one.place, other.place))) (IsAlike ends first (next + 1)) before after to from
        (gains-join (IsAlike ends first next) (λ pair. pair ≡ (one.place, other.place)) before now after gained
        (subst (GainsThese (λ pair. pair ≡ (one.place, other.place)) now) (sym appended) (gains-one now (one.place, other.place))))
      where
        to : (pair : ℕ × ℕ) → IsAlike ends first next pair ⊎ (pair ≡ (one.place, other.place)) → IsAlike ends first (next + 1) pair
        to pair (inl is) = record {
          at = is.at;
          behind = is.behind;
          before = (let upto = is.before in omega (arith, upto));
          one = is.one;
          other = is.other;
          stands = is.stands;
          other_stands = is.other_stands;
          same = is.same;
          is = is.is;
        }
        to pair (inr is) = record { at = next; behind = behind; before = omega arith; one = one; other = other; stands = stands; other_stands = other_stands; same = same; is = is }

        from : (pair : ℕ × ℕ) → IsAlike ends first (next + 1) pair → IsAlike ends first next pair ⊎ (pair ≡ (one.place, other.place))
        from pair is = elim (cases_lt is.at next) [
          | inl below ↦ inl (record {
            at = is.at;
            behind = is.behind;
            before = below;
            one = is.one;
            other = is.other;
            stands = is.stands;
            other_stands = is.other_stands;
            same = is.same;
            is = is.is;
          })
          | inr upto ↦
              let early = is.before in
              let at : is.at ≡ next = omega (arith, early, upto) in
              let ones : is.one ≡ one = same_Some _ _ (sym is.stands ∙ stands) in
              let others : is.other ≡ other = same_Some _ _ (sym is.other_stands ∙ ap (slice_get ends) at ∙ other_stands) in
              inr (is.is ∙ ap (λ (x : EndAt). (x.place, is.other.place)) ones ∙ ap (λ (x : EndAt). (one.place, x.place)) others)
        ]

    -- behind one that isn't there is none any more
    pub alike-apart : AreTogether ends → ¬ (one.point ≡ other.point) → (now : List (ℕ × ℕ)) → next < length ends → GainsThese (IsAlike ends first next) before now → GainsThese (IsAlike ends first (length ends)) before now
    alike-apart together apart now inside gained =
        gains-same (IsAlike ends first next) (IsAlike ends first (length ends)) before now
        (λ pair is. record {
          at = is.at;
          behind = is.behind;
          before = (let upto = is.before in omega (arith, upto, inside));
          one = is.one;
          other = is.other;
          stands = is.stands;
          other_stands = is.other_stands;
          same = is.same;
          is = is.is;
        }) from gained
      where
        never : (at : ℕ) (later : EndAt) → next ≤ at → slice_get ends at ≡ Some later → one.point ≡ later.point → ⊥
        never at later upto there same = elim (cases_lt next at) [
          | inl below ↦ apart (together first next at one other later behind below stands other_stands there same)
          | inr from ↦
              let at_next : at ≡ next = omega (arith, upto, from) in
              let others : later ≡ other = same_Some _ _ (sym there ∙ ap (slice_get ends) at_next ∙ other_stands) in
              apart (same ∙ ap (λ (x : EndAt). x.point) others)
        ]

        from : (pair : ℕ × ℕ) → IsAlike ends first (length ends) pair → IsAlike ends first next pair
        from pair is = elim (cases_lt is.at next) [
          | inl below ↦ record {
            at = is.at;
            behind = is.behind;
            before = below;
            one = is.one;
            other = is.other;
            stands = is.stands;
            other_stands = is.other_stands;
            same = is.same;
            is = is.is;
          }
          | inr upto ↦
              let ones : is.one ≡ one = same_Some _ _ (sym is.stands ∙ stands) in
              absurd (never is.at is.other upto is.other_stands (sym (ap (λ (x : EndAt). x.point) ones) ∙ is.same))
        ]

  pub alike-all : (next : ℕ) (now : List (ℕ × ℕ)) → length ends ≤ next → next ≤ length ends → GainsThese (IsAlike ends first next) before now → GainsThese (IsAlike ends first (length ends)) before now
  alike-all next now past upto = subst (λ (n : ℕ). GainsThese (IsAlike ends first n) before now) (omega (arith, past, upto))

-- ---- those of each

pub each-none : (ends : List EndAt) (pairs : List (ℕ × ℕ)) → pairs ≡ [] → GainsThese (IsAlikeUpto ends 0) [] pairs
each-none ends pairs is = subst (GainsThese (IsAlikeUpto ends 0) []) (sym is) (gains-none (IsAlikeUpto ends 0) [] (λ pair upto. let before = upto.1 in omega (arith, before)))

pub each-next : (ends : List EndAt) (k : ℕ) (now after : List (ℕ × ℕ)) → GainsThese (IsAlikeUpto ends k) [] now → GainsThese (IsAlike ends k (length ends)) now after → GainsThese (IsAlikeUpto ends (k + 1)) [] after
each-next ends k now after gained more =
    gains-same (λ pair. IsAlikeUpto ends k pair ⊎ IsAlike ends k (length ends) pair) (IsAlikeUpto ends (k + 1)) [] after to from
    (gains-join (IsAlikeUpto ends k) (IsAlike ends k (length ends)) [] now after gained more)
  where
    to : (pair : ℕ × ℕ) → IsAlikeUpto ends k pair ⊎ IsAlike ends k (length ends) pair → IsAlikeUpto ends (k + 1) pair
    to pair (inl (first, below, is)) = (first, omega (arith, below), is)
    to pair (inr is) = (k, omega arith, is)

    from : (pair : ℕ × ℕ) → IsAlikeUpto ends (k + 1) pair → IsAlikeUpto ends k pair ⊎ IsAlike ends k (length ends) pair
    from pair (first, below, is) = elim (cases_lt first k) [
      | inl earlier ↦ inl (first, earlier, is)
      | inr upto ↦ inr (subst (λ (n : ℕ). IsAlike ends n (length ends) pair) (omega (arith, below, upto)) is)
    ]

-- two edges at two places have two ends that are one point, and one stands before the other
pub HaveAllAlike-ends : (edges : List Edge) (ends : List EndAt) (k : ℕ) (pairs : List (ℕ × ℕ)) → AreEnds edges ends → length ends ≤ k → GainsThese (IsAlikeUpto ends k) [] pairs → HaveAllAlike edges pairs
HaveAllAlike-ends edges ends k pairs are past gained i j pair =
    let (point, first, second) = pair.meet in
    let one : EndAt = record { point = point; place = i } in
    let other : EndAt = record { point = point; place = j } in
    let (a, at) = place-of ends one ((are one).1 (record { edge = pair.one; before = slice_get_within edges i pair.one pair.first; stands = pair.first; is = first })) in
    let (b, at_too) = place-of ends other ((are other).1 (record { edge = pair.other; before = slice_get_within edges j pair.other pair.second; stands = pair.second; is = second })) in
    elim (cases_lt a b) [
      | inl below ↦ inl (told a b one other below at at_too refl)
      | inr upto ↦ elim (cases_lt b a) [
        | inl below ↦ inr (told b a other one below at_too at refl)
        | inr from ↦
            let same : a ≡ b = omega (arith, upto, from) in
            let places : i ≡ j = ap (λ (x : EndAt). x.place) (same_Some _ _ (sym at ∙ ap (slice_get ends) same ∙ at_too)) in
            absurd (let rising = pair.rising in omega (arith, rising, places))
      ]
    ]
  where
    told : (a b : ℕ) (one other : EndAt) → a < b → slice_get ends a ≡ Some one → slice_get ends b ≡ Some other → one.point ≡ other.point → Contains pairs (one.place, other.place)
    told a b one other below at at_too same =
        let inside = slice_get_within ends b other at_too in
        (gained (one.place, other.place)).1 (inr (a, omega (arith, below, inside, past), record { at = b; behind = below; before = inside; one = one; other = other; stands = at; other_stands = at_too; same = same; is = refl }))

pub alike-within : (edges : List Edge) (ends : List EndAt) (k : ℕ) (pairs : List (ℕ × ℕ)) → AreEnds edges ends → GainsThese (IsAlikeUpto ends k) [] pairs → All (IsWithinCount (length edges)) pairs
alike-within edges ends k pairs are gained n d below =
    let (first, early, is) = (gained-all (IsAlikeUpto ends k) pairs gained (get_or pairs n d)).0 (Contains-get_or pairs n d below) in
    let one = (are is.one).0 (held-at ends first is.one is.stands) in
    let other = (are is.other).0 (held-at ends is.at is.other is.other_stands) in
    subst (IsWithinCount (length edges)) (sym is.is) (one.before, other.before)
