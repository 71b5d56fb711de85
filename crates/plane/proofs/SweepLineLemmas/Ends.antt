-- An edge of the line ends: how the order along the status finds its neighbours, and what is left of the line.
use Rattle.std.proofs.Common.{◌≡◌, ℤ, ◌*ℤ◌, ◌≤ℤ◌, ◌<ℤ◌, List, [], ◌∷◌, ◌++◌, Option, Some, get_or, append_assoc, arith, refl, sym, ap, ◌∙◌, subst}
use Rattle.std.specs.Int.{int_min}
use Rattle.std.specs.List.{All}
use Rattle.std.specs.declared.cmp.Ordering.{Ordering}
use Rattle.std.specs.declared.cmp.Ordering.TheVariants.{Less, Equal, Greater}
use Rattle.std.specs.Ordering.{MatchOrdering, int_cmp}
use Rattle.std.proofs.lemmas.Cmp.{int_ranked}
use Rattle.std.proofs.lemmas.Int.{ints, clamps}
use Rattle.std.proofs.lemmas.List.Elements.{All-append, All-filter, All-head, filter-append}
use Rattle.i_tree.specs.Root.Along.{AreNeighbours, IsMonotoneAlong}
use Rattle.plane.specs.declared.sweep_line.active.ActiveEdge.{ActiveEdge}
use Rattle.plane.specs.SweepLine.Crossings.{Cross}
use Rattle.plane.specs.declared.edge.Edge.{Edge}
use Rattle.plane.specs.SweepLine.Heights.{run, height_by_run}
use Rattle.plane.proofs.MeetLemmas.Identities.{number, plus, minus, times, identity}
use Rattle.plane.proofs.SweepLineLemmas.Under.{upto_below, upto_above}
use Rattle.plane.specs.SweepLine.Active.{Entry, then_cmp, cmp_active, cmp_to_ending, is_live_at, live_entries, NotCross}
use Rattle.plane.proofs.SweepLineLemmas.Adjacent.{Adjacent-left_out, All-at, All-left_out, AllPairs-after, AllPairs-before, AllPairs-left_out}
use Rattle.plane.proofs.SweepLineLemmas.Exchanged.{greater_from_less}
use Rattle.plane.specs.SweepLine.Line.{IsLineAt}
use Rattle.plane.proofs.SweepLineLemmas.Live.{filter_keeps, filter_skips, is_live_at-before, is_live_at-ended}
use Rattle.plane.proofs.SweepLineLemmas.Neighbours.{IsMonotoneAlong-between, first_neighbour, last_neighbour}
use Rattle.plane.specs.SweepLine.Heights.{IsUpto}
use Rattle.plane.proofs.SweepLineLemmas.Order.{stands_upto}
use Rattle.plane.proofs.SweepLineLemmas.Uncrossed.{Cross-exchanged, upto_uncrossed}
use Rattle.i_tree.proofs.RootLemmas.Joined.{All-behind, All-front}

end_before : (a b x : ℤ) → b ≡ x → int_min a b ≤ℤ x
end_before a b x is = omega (arith, ints, clamps)

end_before_first : (a b x : ℤ) → a ≡ x → int_min a b ≤ℤ x
end_before_first a b x is = omega (arith, ints, clamps)

-- at its end an edge is as high as its end
height_at_end : (edge : Edge) (x : ℤ) → edge.x1 ≡ x → height_by_run edge x ≡ (edge.y1 *ℤ run edge)
height_at_end edge x is =
    subst (λ (z : ℤ). height_by_run edge z ≡ (edge.y1 *ℤ run edge)) is
    (identity (plus (times (number edge.y0) (minus (number edge.x1) (number edge.x1))) (times (number edge.y1) (minus (number edge.x1) (number edge.x0)))) (times (number edge.y1) (minus (number edge.x1) (number edge.x0))) (omega arith))

-- two comparisons of which the first says no more than the second, or no less
both_less : (a b : ℤ) (rest : Ordering) → a ≤ℤ b → rest ≡ Less → then_cmp (int_cmp a b) rest ≡ Less
both_less a b rest upto less = told (int_cmp a b) (int_ranked a b (int_cmp a b) refl)
  where
    told : (r : Ordering) → MatchOrdering r (a <ℤ b) (a ≡ b) (b <ℤ a) → then_cmp r rest ≡ Less
    told Less said = refl
    told Equal said = less
    told Greater said = absurd (omega (arith, ints, upto, said))

both_greater : (a b : ℤ) (rest : Ordering) → b ≤ℤ a → rest ≡ Greater → then_cmp (int_cmp a b) rest ≡ Greater
both_greater a b rest from greater = told (int_cmp a b) (int_ranked a b (int_cmp a b) refl)
  where
    told : (r : Ordering) → MatchOrdering r (a <ℤ b) (a ≡ b) (b <ℤ a) → then_cmp r rest ≡ Greater
    told Less said = absurd (omega (arith, ints, from, said))
    told Equal said = greater
    told Greater said = refl

-- what stands before an edge that ends, and isn't above it there, is Less by its end; what stands behind it is Greater
module _ (ending other : ActiveEdge) (x : ℤ) (ends : ending.edge.x1 ≡ x) (some : ending.edge.x0 <ℤ ending.edge.x1) (some_too : other.edge.x0 <ℤ other.edge.x1) where
  at_end : height_by_run ending.edge x ≡ (ending.edge.y1 *ℤ run ending.edge)
  at_end = height_at_end ending.edge x ends

  less_ending : IsUpto other.edge ending.edge x → cmp_active other ending ≡ Less → cmp_to_ending ending other ≡ Less
  less_ending upto before =
      let low = upto_below other.edge ending.edge x ending.edge.y1 some_too some upto (omega (arith, ints, at_end)) in
      both_less (height_by_run other.edge ending.edge.x1) (ending.edge.y1 *ℤ run other.edge) (cmp_active other ending)
      (subst (λ (z : ℤ). height_by_run other.edge z ≤ℤ (ending.edge.y1 *ℤ run other.edge)) (sym ends) low) before

  greater_ending : IsUpto ending.edge other.edge x → cmp_active other ending ≡ Greater → cmp_to_ending ending other ≡ Greater
  greater_ending upto behind =
      let high = upto_above ending.edge other.edge x ending.edge.y1 some some_too upto (omega (arith, ints, at_end)) in
      both_greater (height_by_run other.edge ending.edge.x1) (ending.edge.y1 *ℤ run other.edge) (cmp_active other ending)
      (subst (λ (z : ℤ). (ending.edge.y1 *ℤ run other.edge) ≤ℤ height_by_run other.edge z) (sym ends) high) behind

module _ (x : ℤ) (front : List Entry) (ending : Entry) (back : List Entry) (is : IsLineAt x (front ++ ending ∷ back)) (ends : ending.0.edge.x1 ≡ x) where
  abbrev by_ending : ActiveEdge → Ordering
  by_ending other = cmp_to_ending ending.0 other

  abbrev live : List Entry → List Entry
  live entries = live_entries x entries

  abbrev Stands : Entry → Entry → Type 0
  Stands one other = cmp_active one.0 other.0 ≡ Less

  abbrev UptoHere : Entry → Entry → Type 0
  UptoHere one other = IsUpto one.0.edge other.0.edge x

  abbrev Onwards : Entry → Type 0
  Onwards entry = entry.0.edge.x0 <ℤ entry.0.edge.x1

  abbrev IsLess : Entry → Type 0
  IsLess entry = by_ending entry.0 ≡ Less

  abbrev IsGreater : Entry → Type 0
  IsGreater entry = by_ending entry.0 ≡ Greater

  ending_onwards : Onwards ending
  ending_onwards = All-at Onwards front ending back is.onwards

  before : All (λ entry. Stands entry ending) front
  before = AllPairs-before Stands front ending back is.order

  less : All IsLess front
  less k d inside =
      let onwards = All-front Onwards front (ending ∷ back) is.onwards k d inside in
      less_ending ending.0 (get_or front k d).0 x ends ending_onwards onwards (AllPairs-before UptoHere front ending back is.sorted k d inside) (before k d inside)

  greater : All IsGreater back
  greater k d inside =
      let onwards = All-behind Onwards front back (All-left_out Onwards front ending back is.onwards) k d inside in
      greater_ending ending.0 (get_or back k d).0 x ends ending_onwards onwards (AllPairs-after UptoHere front ending back is.sorted k d inside)
      (greater_from_less ending.0 (get_or back k d).0 (AllPairs-after Stands front ending back is.order k d inside))

  -- the edge that ends is live no more
  cut : live (front ++ ending ∷ back) ≡ live front ++ live back
  cut =
      filter-append (is_live_at x) front (ending ∷ back)
      ∙ ap (λ (entries : List Entry). live front ++ entries) (filter_skips (is_live_at x) ending back (is_live_at-ended x ending (omega (arith, ints, ends))))

  pub end_monotone : IsMonotoneAlong (cmp_to_ending ending.0) (live_entries x (front ++ ending ∷ back))
  end_monotone =
      subst (λ (entries : List Entry). IsMonotoneAlong by_ending entries) (sym cut)
      (IsMonotoneAlong-between by_ending (live front) (live back) (All-filter (is_live_at x) IsLess front less) (All-filter (is_live_at x) IsGreater back greater))

  -- it crosses none of the line
  uncrossed_in_front : (entry : Entry) → Onwards entry → Stands entry ending → UptoHere entry ending → ¬ (Cross entry.0.edge ending.0.edge)
  uncrossed_in_front entry onwards stands upto =
      upto_uncrossed entry.0 ending.0 x onwards ending_onwards (end_before entry.0.edge.x1 ending.0.edge.x1 x ends) (stands_upto entry.0 ending.0 stands) upto

  uncrossed_behind : (entry : Entry) → Onwards entry → Stands ending entry → UptoHere ending entry → ¬ (Cross entry.0.edge ending.0.edge)
  uncrossed_behind entry onwards stands upto cross =
      upto_uncrossed ending.0 entry.0 x ending_onwards onwards (end_before_first ending.0.edge.x1 entry.0.edge.x1 x ends) (stands_upto ending.0 entry.0 stands) upto
      (Cross-exchanged entry.0.edge ending.0.edge cross)

  pub end_uncrossed : All (λ entry. ¬ (Cross entry.0.edge ending.0.edge)) (front ++ back)
  end_uncrossed =
      let onwards = is.onwards in
      let upto = AllPairs-before UptoHere front ending back is.sorted in
      let stands = AllPairs-after Stands front ending back is.order in
      let upto_behind = AllPairs-after UptoHere front ending back is.sorted in
      All-append (λ entry. ¬ (Cross entry.0.edge ending.0.edge)) front back
      (λ k d inside. uncrossed_in_front (get_or front k d) (All-front Onwards front (ending ∷ back) is.onwards k d inside) (before k d inside) (upto k d inside))
      (λ k d inside. uncrossed_behind (get_or back k d) (All-behind Onwards front back (All-left_out Onwards front ending back is.onwards) k d inside) (stands k d inside) (upto_behind k d inside))

  -- two that come to stand next to each other, and are live, are its neighbours
  module _ (found : Option Entry × Option Entry) (are : AreNeighbours (cmp_to_ending ending.0) (live_entries x (front ++ ending ∷ back)) found) (apart : NotCross found.0 found.1)
      (rest : List Entry) (last first : Entry) (more : List Entry) (in_front : front ≡ rest ++ last ∷ []) (behind : back ≡ first ∷ more)
      (lives : x <ℤ last.0.edge.x1) (lives_too : x <ℤ first.0.edge.x1) where
    live_front : live front ≡ live rest ++ last ∷ []
    live_front =
        ap live in_front ∙ filter-append (is_live_at x) rest (last ∷ [])
        ∙ ap (λ (entries : List Entry). live rest ++ entries) (filter_keeps (is_live_at x) last [] (is_live_at-before x last lives))

    live_back : live back ≡ first ∷ live more
    live_back = ap live behind ∙ filter_keeps (is_live_at x) first more (is_live_at-before x first lives_too)

    live_all : live (front ++ ending ∷ back) ≡ (live rest ++ last ∷ []) ++ first ∷ live more
    live_all = cut ∙ ap (λ (entries : List Entry). entries ++ live back) live_front ∙ ap (λ (entries : List Entry). (live rest ++ last ∷ []) ++ entries) live_back

    are_here : AreNeighbours by_ending ((live rest ++ last ∷ []) ++ first ∷ live more) found
    are_here = subst (λ (entries : List Entry). AreNeighbours by_ending entries found) live_all are

    front_less : All IsLess (live rest ++ last ∷ [])
    front_less = subst (All IsLess) live_front (All-filter (is_live_at x) IsLess front less)

    back_greater : All IsGreater (first ∷ live more)
    back_greater = subst (All IsGreater) live_back (All-filter (is_live_at x) IsGreater back greater)

    one_found : found.0 ≡ Some last
    one_found =
        last_neighbour by_ending (live rest) last (first ∷ live more) found (All-at IsLess (live rest) last [] front_less) back_greater
        (subst (λ (entries : List Entry). AreNeighbours by_ending entries found) (append_assoc (live rest) (last ∷ []) (first ∷ live more)) are_here)

    other_found : found.1 ≡ Some first
    other_found = first_neighbour by_ending (live rest ++ last ∷ []) first (live more) found front_less (All-head IsGreater first (live more) back_greater) are_here

    new_neighbours : ¬ (Cross last.0.edge first.0.edge)
    new_neighbours =
        subst (λ (other : Option Entry). NotCross (Some last) other) other_found (subst (λ (one : Option Entry). NotCross one found.1) one_found apart)

  pub end_kept : (found : Option Entry × Option Entry) → AreNeighbours (cmp_to_ending ending.0) (live_entries x (front ++ ending ∷ back)) found → NotCross found.0 found.1 → IsLineAt x (front ++ back)
  end_kept found are apart = record {
    onwards = All-left_out Onwards front ending back is.onwards;
    spans = All-left_out (λ (entry : Entry). (entry.0.edge.x0 ≤ℤ x) × (x ≤ℤ entry.0.edge.x1)) front ending back is.spans;
    order = AllPairs-left_out Stands front ending back is.order;
    sorted = AllPairs-left_out UptoHere front ending back is.sorted;
    adjacent = Adjacent-left_out (λ (one other : Entry). x <ℤ one.0.edge.x1 → x <ℤ other.0.edge.x1 → ¬ (Cross one.0.edge other.0.edge)) front ending back is.adjacent
        (λ rest last first more in_front behind lives lives_too. new_neighbours found are apart rest last first more in_front behind lives lives_too);
  }
