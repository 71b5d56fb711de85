-- Edges in order at a moment, along a line.
use Rattle.std.proofs.Common.{◌≡◌, ◌⊎◌, inl, inr, ℤ, pos, ◌*ℤ◌, ◌<ℤ◌, ◌≤ℤ◌, List, [], ◌∷◌, ◌++◌, get_or, not, MatchBool, refl, sym, ap, ◌∙◌, subst, arith}
use Rattle.std.specs.List.{All, AllPairs}
use Rattle.std.specs.Bool.{◌==◌}
use Rattle.std.specs.Ordering.{int_cmp, ordering_index}
use Rattle.std.specs.declared.cmp.Ordering.{Ordering}
use Rattle.std.specs.declared.cmp.Ordering.TheVariants.{Less, Equal, Greater}
use Rattle.std.proofs.lemmas.Cmp.{int_ranked}
use Rattle.std.proofs.lemmas.Int.{ints, by_lt_z}
use Rattle.std.proofs.lemmas.List.{append_assoc}
use Rattle.std.proofs.lemmas.List.Elements.{All-nil, All-cons, All-head, All-tail}
use Rattle.i_tree.proofs.RootLemmas.Joined.{All-behind, All-front, AllPairs-behind}
use Rattle.i_tree.proofs.RootLemmas.Lists.{AllPairs-head, AllPairs-tail}
use Rattle.plane.specs.declared.edge.Edge.{Edge}
use Rattle.plane.specs.declared.point.Point.{Point}
use Rattle.plane.specs.declared.columns.Asked.{Asked}
use Rattle.plane.specs.declared.sweep_line.active.ActiveEdge.{ActiveEdge}
use Rattle.plane.specs.Columns.Asked.{IsBelowAsked}
use Rattle.plane.specs.Columns.Moments.{IsAbove, behind_column}
use Rattle.plane.specs.Columns.Status.{IsSplitAt, IsSplitByAsked, StandsBelow}
use Rattle.plane.specs.SweepLine.Heights.{IsUpto, height_by_run, height_by_runs, rise_by_run, run}
use Rattle.plane.specs.SweepLine.Line.{Adjacent}
use Rattle.plane.proofs.SweepLineLemmas.Adjacent.{AllPairs-from_adjacent}
use Rattle.plane.proofs.SweepLineLemmas.Comparisons.{at_begin, at_point}
use Rattle.plane.proofs.SweepLineLemmas.Order.{in_order}
use Rattle.plane.proofs.ColumnLemmas.Moments.{above-or-not, higher-above, not_above-behind, not_above-trans, steeper-above, upto-behind}

-- the edge goes to the right
abbrev pub GoesRight : ActiveEdge → Type 0
GoesRight active = active.edge.x0 <ℤ active.edge.x1

-- at the moment the one isn't above the other
abbrev pub InOrderAt : ℤ → ActiveEdge → ActiveEdge → Type 0
InOrderAt t one other = ¬ (IsAbove one.edge other.edge t)

trans : (t : ℤ) (p q r : ActiveEdge) → GoesRight p → GoesRight q → GoesRight r → InOrderAt t p q → InOrderAt t q r → InOrderAt t p r
trans t p q r = not_above-trans p.edge q.edge r.edge t

-- neighbours in order are all in order
pub adjacent-all : (t : ℤ) (line : List ActiveEdge) → All GoesRight line → Adjacent (InOrderAt t) line → AllPairs (InOrderAt t) line
adjacent-all t = AllPairs-from_adjacent GoesRight (InOrderAt t) (trans t)

-- ---- an edge that begins

-- how its height stands to another's where it begins, by its start
heights_of : (other beginning : Edge) (start : Point) (r : Ordering) → beginning.x0 <ℤ beginning.x1 → start.x ≡ beginning.x0 → start.y ≡ beginning.y0
    → r ≡ int_cmp (height_by_run other start.x) (start.y *ℤ run other)
    → r ≡ int_cmp (height_by_runs other beginning beginning.x0) (height_by_runs beginning other beginning.x0)
heights_of other beginning start r right x_is y_is told = at_point other beginning start beginning.x0 beginning.y0 r right (at_begin beginning) x_is y_is told

module _ (other beginning : ActiveEdge) (start : Point) (right : GoesRight beginning) (x_is : start.x ≡ beginning.edge.x0) (y_is : start.y ≡ beginning.edge.y0) where
  abbrev Told : Ordering → Type 0
  Told r = r ≡ int_cmp (height_by_run other.edge start.x) (start.y *ℤ run other.edge)

  abbrev low : ℤ
  low = height_by_runs other.edge beginning.edge beginning.edge.x0

  abbrev high : ℤ
  high = height_by_runs beginning.edge other.edge beginning.edge.x0

  pub below_by_height : Told Less → StandsBelow beginning other
  below_by_height told =
      let lower : low <ℤ high = int_ranked low high Less (heights_of other.edge beginning.edge start Less right x_is y_is told) in
      not_above-behind other.edge beginning.edge beginning.edge.x0 (omega (arith, ints, lower)) (λ level. omega (arith, ints, lower, level))

  pub not_below_by_height : Told Greater → ¬ (StandsBelow beginning other)
  not_below_by_height told below =
      let higher : high <ℤ low = int_ranked low high Greater (heights_of other.edge beginning.edge start Greater right x_is y_is told) in
      below (higher-above other.edge beginning.edge beginning.edge.x0 (behind_column beginning.edge.x0) (omega (arith, ints)) (omega (arith, ints)) higher)

  -- where it passes through the point its slope tells
  pub below_by_slope : Told Equal → (slopes : Ordering) → slopes ≡ int_cmp (rise_by_run other.edge beginning.edge) (rise_by_run beginning.edge other.edge)
      → MatchBool (not (ordering_index slopes == 2)) (StandsBelow beginning other) (¬ (StandsBelow beginning other))
  below_by_slope told slopes slopes_are = by slopes slopes_are
    where
      level : low ≡ high
      level = int_ranked low high Equal (heights_of other.edge beginning.edge start Equal right x_is y_is told)

      slope : ℤ
      slope = rise_by_run other.edge beginning.edge

      slope_too : ℤ
      slope_too = rise_by_run beginning.edge other.edge

      slower : slope ≤ℤ slope_too → StandsBelow beginning other
      slower upto = not_above-behind other.edge beginning.edge beginning.edge.x0 (let same = level in omega (arith, ints, same)) (λ same. upto)

      by : (r : Ordering) → r ≡ int_cmp slope slope_too → MatchBool (not (ordering_index r == 2)) (StandsBelow beginning other) (¬ (StandsBelow beginning other))
      by Less is = slower (let less : slope <ℤ slope_too = int_ranked slope slope_too Less is in omega (arith, ints, less))
      by Equal is = slower (let same : slope ≡ slope_too = int_ranked slope slope_too Equal is in omega (arith, ints, same))
      by Greater is = λ below. below (steeper-above other.edge beginning.edge beginning.edge.x0 level (int_ranked slope slope_too Greater is))

-- ---- a line in order, split

-- where what holds of an element holds of all before it, it holds of those in front, and of none behind them
module _ {X : Type 0} (G : X → Type 0) (R : X → X → Type 0) (P : X → Type 0) (decide : (x : X) → P x ⊎ ¬ (P x)) (earlier : (x y : X) → G x → G y → R x y → P y → P x) where
  split-where : (line : List X) → All G line → AllPairs R line → (front : List X) × (back : List X) × (line ≡ front ++ back) × All P front × All (λ x. ¬ (P x)) back
  split-where [] all pairs = ([], [], refl, All-nil P, All-nil (λ x. ¬ (P x)))
  split-where (first ∷ line) all pairs =
      let good = All-head G first line all in
      let rest = All-tail G first line all in
      elim (decide first) [
        | inl holds ↦
            let (front, back, is, below, above) = split-where line rest (AllPairs-tail R first line pairs) in
            (first ∷ front, back, ap (λ (xs : List X). first ∷ xs) is, All-cons P first front holds below, above)
        | inr fails ↦ (
          [],
          first ∷ line,
          refl,
          All-nil P,
          All-cons (λ x. ¬ (P x)) first line fails (λ k d inside holds. fails (earlier first (get_or line k d) good (rest k d inside) (AllPairs-head R first line pairs k d inside) holds)),
        )
      ]

-- first come those that stand below an edge that begins
pub split-at : (beginning : ActiveEdge) (line : List ActiveEdge) → GoesRight beginning → All GoesRight line → AllPairs (InOrderAt (behind_column beginning.edge.x0)) line
    → (front : List ActiveEdge) × (back : List ActiveEdge) × IsSplitAt beginning line front back
split-at beginning line right all pairs =
    let (front, back, is, below, above) = split-where GoesRight (InOrderAt moment) (StandsBelow beginning) decide (λ p q goes goes_too order below. trans moment p q beginning goes goes_too right order below) line all pairs in
    (front, back, record { is = is; below = below; above = above })
  where
    moment : ℤ
    moment = behind_column beginning.edge.x0

    decide : (other : ActiveEdge) → StandsBelow beginning other ⊎ ¬ (StandsBelow beginning other)
    decide other = elim (above-or-not other.edge beginning.edge moment) [
      | inl above ↦ inr (λ below. below above)
      | inr below ↦ inl below
    ]

-- of two edges whose heights don't fall, the first is at most as high as a number that the second is at most as high as
height-upto : (p q : Edge) (x y : ℤ) → pos 0 <ℤ run p → pos 0 <ℤ run q → IsUpto p q x → height_by_run q x ≤ℤ (y *ℤ run q) → height_by_run p x ≤ℤ (y *ℤ run p)
height-upto p q x y some some_too upto low =
    let order = in_order (height_by_run p x) (height_by_run q x) y (run p) (run q) (pos 1) some some_too (omega (arith, ints)) upto (omega (arith, ints, low)) in
    omega (arith, ints, order)

height-below : (p q : Edge) (x y : ℤ) → pos 0 <ℤ run p → pos 0 <ℤ run q → IsUpto p q x → height_by_run q x <ℤ (y *ℤ run q) → height_by_run p x <ℤ (y *ℤ run p)
height-below p q x y some some_too upto low =
    by_lt_z (height_by_run p x) (y *ℤ run p)
    (λ lower. lower)
    (λ from.
    let order = in_order y (height_by_run p x) (height_by_run q x) (pos 1) (run p) (run q) (omega (arith, ints)) some some_too (omega (arith, ints, from)) upto in
    absurd (omega (arith, ints, order, low)))

module _ (asked : Asked) where
  abbrev R : ActiveEdge → ActiveEdge → Type 0
  R = InOrderAt (behind_column asked.x)

  abbrev IsBelow : ActiveEdge → Type 0
  IsBelow active = IsBelowAsked asked active.edge

  abbrev IsLow : ActiveEdge → Type 0
  IsLow active = height_by_run active.edge asked.x ≤ℤ (asked.high *ℤ run active.edge)

  some : (active : ActiveEdge) → GoesRight active → pos 0 <ℤ run active.edge
  some active goes = omega (arith, ints, goes)

  is_below : (active : ActiveEdge) → IsBelow active ⊎ ¬ (IsBelow active)
  is_below active = by_lt_z (height_by_run active.edge asked.x) (asked.low *ℤ run active.edge) (λ lower. inl lower) (λ from. inr (λ lower. omega (arith, ints, from, lower)))

  is_low : (active : ActiveEdge) → IsLow active ⊎ ¬ (IsLow active)
  is_low active = by_lt_z (asked.high *ℤ run active.edge) (height_by_run active.edge asked.x) (λ above. inr (λ low. omega (arith, ints, above, low))) (λ low. inl low)

  higher : (active : ActiveEdge) → ¬ (IsLow active) → (asked.high *ℤ run active.edge) <ℤ height_by_run active.edge asked.x
  higher active above = by_lt_z (asked.high *ℤ run active.edge) (height_by_run active.edge asked.x) (λ it. it) (λ low. absurd (above low))

  below_earlier : (p q : ActiveEdge) → GoesRight p → GoesRight q → R p q → IsBelow q → IsBelow p
  below_earlier p q goes goes_too order = height-below p.edge q.edge asked.x asked.low (some p goes) (some q goes_too) (upto-behind p.edge q.edge asked.x order)

  low_earlier : (p q : ActiveEdge) → GoesRight p → GoesRight q → R p q → IsLow q → IsLow p
  low_earlier p q goes goes_too order = height-upto p.edge q.edge asked.x asked.high (some p goes) (some q goes_too) (upto-behind p.edge q.edge asked.x order)

  abbrev Others : List ActiveEdge → Type 0
  Others = All (λ active. ¬ (IsBelow active))

  put : (line front rest within back : List ActiveEdge) → line ≡ front ++ rest → rest ≡ within ++ back → All IsBelow front → Others rest → All IsLow within → All (λ active. ¬ (IsLow active)) back
      → IsSplitByAsked asked line front within back
  put line front rest within back is is_too below others inside above =
      let parted : Others (within ++ back) = subst Others is_too others in record {
        is = is ∙ ap (λ (edges : List ActiveEdge). front ++ edges) is_too ∙ sym (append_assoc front within back);
        below = below;
        inside = λ k d under. (All-front (λ active. ¬ (IsBelow active)) within back parted k d under, inside k d under);
        above = λ k d under. (All-behind (λ active. ¬ (IsBelow active)) within back parted k d under, higher (get_or back k d) (above k d under));
      }

  parted_too : (line front rest : List ActiveEdge) → line ≡ front ++ rest → All IsBelow front → Others rest → All GoesRight line → AllPairs R line
      → (front : List ActiveEdge) × (within : List ActiveEdge) × (back : List ActiveEdge) × IsSplitByAsked asked line front within back
  parted_too line front rest is below others all pairs =
      let (within, back, is_too, inside, above) =
      split-where GoesRight R IsLow is_low low_earlier rest (All-behind GoesRight front rest (subst (All GoesRight) is all)) (AllPairs-behind R front rest (subst (AllPairs R) is pairs)) in
      (front, within, back, put line front rest within back is is_too below others inside above)

  -- first come the edges below what is asked, then those within it
  pub split-by-asked : (line : List ActiveEdge) → All GoesRight line → AllPairs (InOrderAt (behind_column asked.x)) line
      → (front : List ActiveEdge) × (within : List ActiveEdge) × (back : List ActiveEdge) × IsSplitByAsked asked line front within back
  split-by-asked line all pairs =
      let (front, rest, is, below, others) = split-where GoesRight R IsBelow is_below below_earlier line all pairs in
      parted_too line front rest is below others all pairs
