-- What edges wind on the left of an edge is what they wind on its right, and once more for each time that they go along it.
use Rattle.std.proofs.Common.{◌≡◌, ◌≢◌, ◌+◌, ◌++◌, ℕ, ℤ, pos, negsuc, ◌+ℤ◌, ◌-ℤ◌, ◌<ℤ◌, Bool, true, false, cond, List, [], ◌∷◌, refl, ap, sym, subst, ◌∙◌, arith}
use Rattle.std.specs.Int.Signed.{lt_z}
use Rattle.std.specs.List.{Contains, count_by}
use Rattle.std.proofs.lemmas.Int.{by_lt_z, ints}
use Rattle.std.proofs.lemmas.List.Sums.{sum_by-cons}
use Rattle.plane.specs.declared.edge.Edge.{Edge}
use Rattle.plane.specs.SweepLine.Heights.{rightwards}
use Rattle.overlay.specs.Fill.Counts.{below_on}
use Rattle.overlay.specs.Fill.Filled.{AreDistinct}
use Rattle.overlay.specs.Fill.Pieces.{total, weight}
use Rattle.overlay.specs.Joined.{is_same}
use Rattle.overlay.specs.Sides.{along, is_edge, just_above, just_below, left_of, right_of}
use Rattle.overlay.proofs.AreaLemmas.Fans.{along-own, told-same}
use Rattle.overlay.proofs.FillLemmas.Premises.{All-among}
use Rattle.overlay.proofs.FillLemmas.Tests.{lt_false, lt_true}
use Rattle.overlay.proofs.FillLemmas.Totals.{total-append, total-none, total-same}
use Rattle.overlay.proofs.FillLemmas.Weights.{weight-left, weight-right}
use Rattle.overlay.proofs.GroupingLemmas.Outlined.{same-one}
use Rattle.overlay.proofs.KeptLemmas.First.{turned-same}
use Rattle.overlay.proofs.WindsLemmas.Polygons.{is-same, same-edge}

-- ---- sums of what passes a test

more-up : (t : Bool) (rest : ℤ) (n m : ℕ) → rest ≡ pos n → m ≡ cond t 1 0 + n → (cond t (pos 1) (pos 0) +ℤ rest) ≡ pos m
more-up true rest n m is sum = omega (arith, ints, is, sum)
more-up false rest n m is sum = omega (arith, ints, is, sum)

more-down : (t : Bool) (rest : ℤ) (n m : ℕ) → rest ≡ (pos 0 -ℤ pos n) → m ≡ cond t 1 0 + n → (cond t (negsuc 0) (pos 0) +ℤ rest) ≡ (pos 0 -ℤ pos m)
more-down true rest n m is sum = omega (arith, ints, is, sum)
more-down false rest n m is sum = omega (arith, ints, is, sum)

-- once each, upwards or downwards, is how many they are
counted-up : (test : Edge → Bool) (edges : List Edge) → total (λ edge. cond (test edge) (pos 1) (pos 0)) edges ≡ pos (count_by test edges)
counted-up test [] = refl
counted-up test (edge ∷ edges) =
    more-up (test edge) (total (λ e. cond (test e) (pos 1) (pos 0)) edges) (count_by test edges) (count_by test (edge ∷ edges)) (counted-up test edges) (sum_by-cons (λ e. cond (test e) 1 0) edge edges)

counted-down : (test : Edge → Bool) (edges : List Edge) → total (λ edge. cond (test edge) (negsuc 0) (pos 0)) edges ≡ (pos 0 -ℤ pos (count_by test edges))
counted-down test [] = omega (arith, ints)
counted-down test (edge ∷ edges) =
    more-down (test edge) (total (λ e. cond (test e) (negsuc 0) (pos 0)) edges) (count_by test edges) (count_by test (edge ∷ edges)) (counted-down test edges) (sum_by-cons (λ e. cond (test e) 1 0) edge edges)

-- ---- the left and the right

-- the left is the right and what goes along the edge
sides-by : (mine : List Edge) (edge : Edge) (more : ℤ) → edge.x0 ≢ edge.x1 → (edge.x0 <ℤ edge.x1 → total (along (rightwards edge)) mine ≡ more) → (edge.x1 <ℤ edge.x0 → total (along (rightwards edge)) mine ≡ (pos 0 -ℤ more))
    → left_of mine edge ≡ (right_of mine edge +ℤ more)
sides-by mine edge more slope onwards back =
    by_lt_z edge.x0 edge.x1
    (λ goes.
    let told = lt_true edge.x0 edge.x1 goes in
    ap (λ t. cond t (just_above mine edge) (just_below mine edge)) told
    ∙ ap (λ z. just_below mine edge +ℤ z) (onwards goes)
    ∙ sym (ap (λ t. cond t (just_below mine edge) (just_above mine edge) +ℤ more) told))
    (λ upto.
    let told = lt_false edge.x0 edge.x1 upto in
    let goes : edge.x1 <ℤ edge.x0 = by_lt_z edge.x1 edge.x0 (λ h. h) (λ from. absurd (slope (omega (arith, ints, upto, from)))) in
    ap (λ t. cond t (just_above mine edge) (just_below mine edge)) told
    ∙ less (just_below mine edge) (total (along (rightwards edge)) mine) more (back goes)
    ∙ sym (ap (λ t. cond t (just_below mine edge) (just_above mine edge) +ℤ more) told))
  where
    less : (b t m : ℤ) → t ≡ (pos 0 -ℤ m) → b ≡ ((b +ℤ t) +ℤ m)
    less b t m is = omega (arith, ints, is)

-- Of an edge of distinct ones they wind once more on its left.
pub left-own : (mine : List Edge) (edge : Edge) → AreDistinct mine → Contains mine edge → edge.x0 ≢ edge.x1 → left_of mine edge ≡ (right_of mine edge +ℤ pos 1)
left-own mine edge distinct held slope =
    sides-by mine edge (pos 1) slope (λ goes. along-own mine edge distinct held ∙ weight-right edge goes) (λ goes. along-own mine edge distinct held ∙ weight-left edge goes ∙ one_less)
  where
    one_less : negsuc 0 ≡ (pos 0 -ℤ pos 1)
    one_less = omega (arith, ints)

module _ (edges : List Edge) (distinct : AreDistinct edges) (edge : Edge) (among : Contains edges edge) (slope : edge.x0 ≢ edge.x1) (mine : List Edge) (into : (other : Edge) → Contains mine other → Contains edges other) where
  -- of distinct edges that edge alone goes along it
  one-along : (other : Edge) → Contains edges other → is_edge (rightwards other) (rightwards edge) ≡ true → edge ≡ other
  one-along other held is = same-one edges edge other distinct among held (turned-same edge other (sym (told-same (rightwards other) (rightwards edge) true is)))

  along-is : (other : Edge) → Contains edges other → along (rightwards edge) other ≡ cond (is_same edge other) (weight edge) (pos 0)
  along-is other held = by (is_edge (rightwards other) (rightwards edge)) (is_same edge other) refl refl
    where
      by : (s t : Bool) → is_edge (rightwards other) (rightwards edge) ≡ s → is_same edge other ≡ t → along (rightwards edge) other ≡ cond (is_same edge other) (weight edge) (pos 0)
      by true t is told =
          let same = one-along other held is in
          ap (λ s. cond s (weight other) (pos 0)) is ∙ ap weight (sym same) ∙ sym (ap (λ s. cond s (weight edge) (pos 0)) (subst (λ (e : Edge). is_same edge e ≡ true) same (is-same edge)))
      by false true isnt told = absurd (told-same (rightwards other) (rightwards edge) false isnt (ap rightwards (same-edge edge other told)))
      by false false isnt told = ap (λ s. cond s (weight other) (pos 0)) isnt ∙ sym (ap (λ s. cond s (weight edge) (pos 0)) told)

  along-all : total (along (rightwards edge)) mine ≡ total (λ other. cond (is_same edge other) (weight edge) (pos 0)) mine
  along-all =
      total-same (along (rightwards edge)) (λ other. cond (is_same edge other) (weight edge) (pos 0)) mine
      (All-among (λ other. along (rightwards edge) other ≡ cond (is_same edge other) (weight edge) (pos 0)) mine (λ other held. along-is other (into other held)))

  by-weight : (w : ℤ) → weight edge ≡ w → total (λ other. cond (is_same edge other) (weight edge) (pos 0)) mine ≡ total (λ other. cond (is_same edge other) w (pos 0)) mine
  by-weight w is = ap (λ (z : ℤ). total (λ (other : Edge). cond (is_same edge other) z (pos 0)) mine) is

  -- Some of the edges wind once more on the left for each time that they go along the edge.
  pub left-counted : left_of mine edge ≡ (right_of mine edge +ℤ pos (count_by (is_same edge) mine))
  left-counted =
      sides-by mine edge (pos (count_by (is_same edge) mine)) slope
      (λ goes. along-all ∙ by-weight (pos 1) (weight-right edge goes) ∙ counted-up (is_same edge) mine)
      (λ goes. along-all ∙ by-weight (negsuc 0) (weight-left edge goes) ∙ counted-down (is_same edge) mine)

  -- none of them goes along the edge, if it isn't one of them
  along-none : ¬ (Contains mine edge) → total (along (rightwards edge)) mine ≡ pos 0
  along-none off = total-none (along (rightwards edge)) mine (All-among (λ other. along (rightwards edge) other ≡ pos 0) mine (λ other held. none other held (is_edge (rightwards other) (rightwards edge)) refl))
    where
      none : (other : Edge) → Contains mine other → (t : Bool) → is_edge (rightwards other) (rightwards edge) ≡ t → along (rightwards edge) other ≡ pos 0
      none other held true is = absurd (off (subst (Contains mine) (sym (one-along other (into other held) is)) held))
      none other held false is = ap (λ t. cond t (weight other) (pos 0)) is

  -- Then they wind alike on its left, on its right, and above it.
  pub left-right : ¬ (Contains mine edge) → left_of mine edge ≡ right_of mine edge
  left-right off =
      sides-by mine edge (pos 0) slope (λ goes. along-none off) (λ goes. along-none off ∙ nothing) ∙ alone (right_of mine edge)
    where
      nothing : pos 0 ≡ (pos 0 -ℤ pos 0)
      nothing = omega (arith, ints)

      alone : (z : ℤ) → (z +ℤ pos 0) ≡ z
      alone z = omega (arith, ints)

  pub left-above : ¬ (Contains mine edge) → left_of mine edge ≡ just_above mine edge
  left-above off = by (lt_z edge.x0 edge.x1)
    where
      same : (b t : ℤ) → t ≡ pos 0 → b ≡ (b +ℤ t)
      same b t none = omega (arith, ints, none)

      by : (t : Bool) → cond t (just_above mine edge) (just_below mine edge) ≡ just_above mine edge
      by true = refl
      by false = same (just_below mine edge) (total (along (rightwards edge)) mine) (along-none off)

-- ---- joined edges

-- The left of joined edges is what both wind there.
pub left-append : (mine more : List Edge) (edge : Edge) → left_of (mine ++ more) edge ≡ (left_of mine edge +ℤ left_of more edge)
left-append mine more edge = by (lt_z edge.x0 edge.x1)
  where
    below : just_below (mine ++ more) edge ≡ (just_below mine edge +ℤ just_below more edge)
    below = total-append (below_on (rightwards edge).x0 (rightwards edge)) mine more

    both : (a b c d e f : ℤ) → a ≡ (b +ℤ c) → d ≡ (e +ℤ f) → (a +ℤ d) ≡ ((b +ℤ e) +ℤ (c +ℤ f))
    both a b c d e f first second = omega (arith, ints, first, second)

    by : (t : Bool) → cond t (just_above (mine ++ more) edge) (just_below (mine ++ more) edge) ≡ (cond t (just_above mine edge) (just_below mine edge) +ℤ cond t (just_above more edge) (just_below more edge))
    by true =
        both (just_below (mine ++ more) edge) (just_below mine edge) (just_below more edge) (total (along (rightwards edge)) (mine ++ more)) (total (along (rightwards edge)) mine) (total (along (rightwards edge)) more)
        below (total-append (along (rightwards edge)) mine more)
    by false = below

pub left-nothing : (edge : Edge) → left_of [] edge ≡ pos 0
left-nothing edge = by (lt_z edge.x0 edge.x1)
  where
    by : (t : Bool) → cond t (just_above [] edge) (just_below [] edge) ≡ pos 0
    by true = omega (arith, ints)
    by false = refl
