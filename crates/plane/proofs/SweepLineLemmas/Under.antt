-- A point: how the order to it finds, along the line, the highest edge under it.
use Rattle.std.proofs.Common.{◌≡◌, ◌≢◌, ◌≤◌, ℤ, pos, ◌+ℤ◌, ◌*ℤ◌, ◌≤ℤ◌, ◌<ℤ◌, List, [], ◌∷◌, ◌++◌, Some, None, get_or, append_assoc, arith, refl, sym, subst}
use Rattle.std.specs.List.{All, AllPairs}
use Rattle.std.specs.Ordering.{MatchOrdering, int_cmp, ordering_index}
use Rattle.std.specs.declared.cmp.Ordering.{Ordering}
use Rattle.std.specs.declared.cmp.Ordering.TheVariants.{Less, Equal, Greater}
use Rattle.std.proofs.lemmas.Cmp.{int_ranked}
use Rattle.std.proofs.lemmas.Int.{ints}
use Rattle.std.proofs.lemmas.List.Elements.{All-append, All-cons}
use Rattle.i_tree.proofs.RootLemmas.Joined.{All-behind, All-front}
use Rattle.i_tree.specs.Root.Along.{IsLast, IsMonotoneAlong}
use Rattle.plane.proofs.SweepLineLemmas.Comparisons.{not_greater}
use Rattle.plane.specs.declared.edge.Edge.{Edge}
use Rattle.plane.specs.declared.point.Point.{Point}
use Rattle.plane.specs.SweepLine.Heights.{run, height_by_run, Covers, IsUnder, IsLowerAt}
use Rattle.plane.specs.SweepLine.Active.{Entry, cmp_to_point}
use Rattle.plane.proofs.SweepLineLemmas.Adjacent.{All-at, AllPairs-before}
use Rattle.plane.proofs.SweepLineLemmas.Advance.{some_run}
use Rattle.plane.specs.SweepLine.Line.{IsSortedAt}
use Rattle.plane.specs.SweepLine.Heights.{IsUpto}
use Rattle.plane.proofs.SweepLineLemmas.Order.{in_order}
use Rattle.plane.proofs.SweepLineLemmas.Rightwards.{rightwards-same}
use Rattle.plane.proofs.SweepLineLemmas.Uncrossed.{lower_of}

-- ---- heights beside a number

-- an edge that isn't above another is at most as high as what that one isn't above
pub upto_below : (one other : Edge) (x y : ℤ) → one.x0 <ℤ one.x1 → other.x0 <ℤ other.x1 → IsUpto one other x → height_by_run other x ≤ℤ (y *ℤ run other) → height_by_run one x ≤ℤ (y *ℤ run one)
upto_below one other x y some some_too upto low =
    let whole = in_order (height_by_run one x) (height_by_run other x) y (run one) (run other) (pos 1) (some_run one some) (some_run other some_too) (omega (arith, ints)) upto (omega (arith, ints, low)) in
    omega (arith, ints, whole)

-- and one that another isn't above is at least as high as what isn't above that one
pub upto_above : (one other : Edge) (x y : ℤ) → one.x0 <ℤ one.x1 → other.x0 <ℤ other.x1 → IsUpto one other x → (y *ℤ run one) ≤ℤ height_by_run one x → (y *ℤ run other) ≤ℤ height_by_run other x
upto_above one other x y some some_too upto high =
    let whole = in_order y (height_by_run one x) (height_by_run other x) (pos 1) (run one) (run other) (omega (arith, ints)) (some_run one some) (some_run other some_too) (omega (arith, ints, high)) upto in
    omega (arith, ints, whole)

-- two comparisons of which the second says no less than the first
index_upto : (a b c d : ℤ) (r s : Ordering) → MatchOrdering r (a <ℤ b) (a ≡ b) (b <ℤ a) → MatchOrdering s (c <ℤ d) (c ≡ d) (d <ℤ c)
    → (c ≤ℤ d → a ≤ℤ b) → (b ≤ℤ a → d ≤ℤ c) → ordering_index r ≤ ordering_index s
index_upto a b c d Less s first second low high = omega arith
index_upto a b c d Equal Less same below low high = let above : d ≤ℤ c = high (omega (arith, ints, same)) in absurd (omega (arith, ints, above, below))
index_upto a b c d Equal Equal first second low high = omega arith
index_upto a b c d Equal Greater first second low high = omega arith
index_upto a b c d Greater Less above below low high = let upto : a ≤ℤ b = low (omega (arith, ints, below)) in absurd (omega (arith, ints, upto, above))
index_upto a b c d Greater Equal above same low high = let upto : a ≤ℤ b = low (omega (arith, ints, same)) in absurd (omega (arith, ints, upto, above))
index_upto a b c d Greater Greater first second low high = omega arith

upto_not_greater : (a b : ℤ) → a ≤ℤ b → int_cmp a b ≢ Greater
upto_not_greater a b upto greater = let above : b <ℤ a = int_ranked a b Greater (sym greater) in omega (arith, ints, upto, above)

-- ---- along the line

module _ (point : Point) (line : List Entry) (is : IsSortedAt point.x line) where
  onwards : All (λ entry. entry.0.edge.x0 <ℤ entry.0.edge.x1) line
  onwards k d inside = let (from, before) = is.active k d inside in omega (arith, ints, from, before)

  -- the order to the point never falls along the line
  rises : (one other : Entry) → one.0.edge.x0 <ℤ one.0.edge.x1 → other.0.edge.x0 <ℤ other.0.edge.x1 → IsUpto one.0.edge other.0.edge point.x
      → ordering_index (cmp_to_point point one.0) ≤ ordering_index (cmp_to_point point other.0)
  rises one other some some_too upto =
      let height = height_by_run one.0.edge point.x in
      let height_too = height_by_run other.0.edge point.x in
      let level = point.y *ℤ run one.0.edge in
      let level_too = point.y *ℤ run other.0.edge in
      index_upto height level height_too level_too (int_cmp height level) (int_cmp height_too level_too)
      (int_ranked height level (int_cmp height level) refl) (int_ranked height_too level_too (int_cmp height_too level_too) refl)
      (upto_below one.0.edge other.0.edge point.x point.y some some_too upto) (upto_above one.0.edge other.0.edge point.x point.y some some_too upto)

  pub point_monotone : IsMonotoneAlong (cmp_to_point point) line
  point_monotone i j d below within =
      rises (get_or line i d) (get_or line j d) (onwards i d (omega (arith, below, within))) (onwards j d within) (is.here i j d below within)

  -- an edge under the point isn't called Greater
  under_low : (entry : Entry) → entry.0.edge.x0 <ℤ entry.0.edge.x1 → IsUnder point entry.0.edge → cmp_to_point point entry.0 ≢ Greater
  under_low entry some under =
      upto_not_greater (height_by_run entry.0.edge point.x) (point.y *ℤ run entry.0.edge)
      (subst (λ (edge : Edge). height_by_run edge point.x ≤ℤ (point.y *ℤ run edge)) (rightwards-same entry.0.edge some) under.upto)

  -- and one of the line that isn't called so is under it
  low_under : (entry : Entry) → entry.0.edge.x0 <ℤ entry.0.edge.x1 → entry.0.edge.x0 ≤ℤ point.x → point.x <ℤ entry.0.edge.x1 → cmp_to_point point entry.0 ≢ Greater → IsUnder point entry.0.edge
  low_under entry some from before low =
      let same = sym (rightwards-same entry.0.edge some) in
      let covers : Covers entry.0.edge point.x = record {
        from = subst (λ (edge : Edge). edge.x0 ≤ℤ point.x) same from;
        before = subst (λ (edge : Edge). point.x <ℤ edge.x1) same before;
      } in
      record {
        covers = covers;
        upto = subst (λ (edge : Edge). height_by_run edge point.x ≤ℤ (point.y *ℤ run edge)) same
            (not_greater (height_by_run entry.0.edge point.x) (point.y *ℤ run entry.0.edge) low);
      }

  -- the last that isn't above the point is the highest under it, at the point's x and at the next
  pub none_under : IsLast (λ entry. cmp_to_point point entry.0 ≢ Greater) line None → All (λ entry. ¬ (IsUnder point entry.0.edge)) line
  none_under none k d inside under = none k d inside (under_low (get_or line k d) (onwards k d inside) under)

  module _ (found : Entry) (front back : List Entry) (cut : line ≡ front ++ found ∷ back) (low : cmp_to_point point found.0 ≢ Greater) (high : All (λ entry. ¬ (cmp_to_point point entry.0 ≢ Greater)) back) where
    abbrev Onwards : Entry → Type 0
    Onwards entry = entry.0.edge.x0 <ℤ entry.0.edge.x1

    all_onwards : All Onwards (front ++ found ∷ back)
    all_onwards = subst (All Onwards) cut onwards

    found_onwards : Onwards found
    found_onwards = All-at Onwards front found back all_onwards

    found_under : IsUnder point found.0.edge
    found_under =
        let (from, before) = All-at (λ (entry : Entry). (entry.0.edge.x0 ≤ℤ point.x) × (point.x <ℤ entry.0.edge.x1)) front found back
        (subst (All (λ (entry : Entry). (entry.0.edge.x0 ≤ℤ point.x) × (point.x <ℤ entry.0.edge.x1))) cut is.active) in
        low_under found found_onwards from before low

    -- at an x at which the line is in order, none that is under the point is above the found one
    module _ (x : ℤ) (in_order_at : AllPairs (λ one other. IsUpto one.0.edge other.0.edge x) line) where
      abbrev NotHigher : Entry → Type 0
      NotHigher entry = IsUnder point entry.0.edge → ¬ (IsLowerAt x found.0.edge entry.0.edge)

      in_front : (entry : Entry) → Onwards entry → IsUpto entry.0.edge found.0.edge x → NotHigher entry
      in_front entry some upto under lower =
          let above = lower_of found.0.edge entry.0.edge x found_onwards some lower in
          omega (arith, ints, upto, above)

      none_higher : All NotHigher (front ++ found ∷ back)
      none_higher =
          let sorted = AllPairs-before (λ (one other : Entry). IsUpto one.0.edge other.0.edge x) front found back
          (subst (AllPairs (λ (one other : Entry). IsUpto one.0.edge other.0.edge x)) cut in_order_at) in
          All-append NotHigher front (found ∷ back)
          (λ k d inside. in_front (get_or front k d) (All-front Onwards front (found ∷ back) all_onwards k d inside) (sorted k d inside))
          (All-cons NotHigher found back (λ under lower. omega (arith, ints, lower))
          (λ k d inside under. absurd (high k d inside (under_low (get_or back k d) (All-behind Onwards (front ++ found ∷ []) back (subst (All Onwards) (sym (append_assoc front (found ∷ []) back)) all_onwards) k d inside) under))))

      none_higher_at : All NotHigher line
      none_higher_at = subst (All NotHigher) (sym cut) none_higher

  pub highest_under : (found : Entry) → IsLast (λ entry. cmp_to_point point entry.0 ≢ Greater) line (Some found)
      → IsUnder point found.0.edge
      × All (λ entry. IsUnder point entry.0.edge → ¬ (IsLowerAt point.x found.0.edge entry.0.edge)) line
      × All (λ entry. IsUnder point entry.0.edge → ¬ (IsLowerAt (point.x +ℤ pos 1) found.0.edge entry.0.edge)) line
  highest_under found (front, back, cut, low, high) = (
    found_under found front back cut low high,
    none_higher_at found front back cut low high point.x is.here,
    none_higher_at found front back cut low high (point.x +ℤ pos 1) is.behind,
  )
