-- Edges that wind once around a point or not at all: some of them do by themselves, where each leftwards edge is one of these
-- exactly if the edge just below it is.
use Rattle.std.proofs.Common.{◌≡◌, ◌⊎◌, inl, inr, ℕ, ◌*◌, ◌<◌, ℤ, pos, negsuc, ◌+ℤ◌, ◌*ℤ◌, ◌≤ℤ◌, ◌<ℤ◌, Bool, true, false, not, ◌&&◌, cond, List, get_or, refl, ap, ap₂, sym, subst, ◌∙◌, arith}
use Rattle.std.specs.Int.{int_div_euclid}
use Rattle.std.specs.Int.Signed.{lt_z}
use Rattle.std.specs.List.{All, AllPairs, Contains, filter}
use Rattle.std.specs.Prelude.{int_le, int_lt}
use Rattle.std.proofs.lemmas.Int.{by_lt_z, ints}
use Rattle.std.proofs.lemmas.List.Kept.{AllPairs-filter}
use Rattle.i_tree.proofs.RootLemmas.Lists.{Contains-filter}
use Rattle.i_tree.proofs.RootLemmas.Members.{Contains-from_filter}
use Rattle.plane.specs.declared.edge.Edge.{Edge}
use Rattle.plane.specs.Meet.Edges.{RationalPoint}
use Rattle.plane.specs.SweepLine.Heights.{height_by_run, height_by_runs, rightwards, run}
use Rattle.plane.proofs.MeetLemmas.Identities.{identity, minus, number, plus, scaled, times}
use Rattle.noding.specs.Windings.{winding}
use Rattle.noding.proofs.SnapLemmas.Counted.{height_at, is_counted}
use Rattle.noding.proofs.SnapLemmas.Numbers.{n_of, natural}
use Rattle.noding.proofs.SnapLemmas.Rounding.{Floor, floor_is}
use Rattle.overlay.specs.Fill.Counts.{is_lower_on, is_over}
use Rattle.overlay.specs.Fill.Filled.{AreDistinct, AreNoded, HaveSameEnds}
use Rattle.overlay.specs.Fill.Pieces.{total, weight}
use Rattle.overlay.specs.Nesting.{IsNextBelow}
use Rattle.overlay.proofs.FillLemmas.Kept.{same-rightwards}
use Rattle.overlay.proofs.FillLemmas.Level.{MeetOnly}
use Rattle.overlay.proofs.FillLemmas.Order.{lower-apart, lower-asym, lower-irrefl, lower-trans, middle, twofold}
use Rattle.overlay.proofs.FillLemmas.Premises.{All-among}
use Rattle.overlay.proofs.FillLemmas.Ranked.{Differ}
use Rattle.overlay.proofs.FillLemmas.Tests.{over_is}
use Rattle.overlay.proofs.FillLemmas.Totals.{total-filter, total-same}
use Rattle.overlay.proofs.FillLemmas.Uncrossed.{uncrossed}
use Rattle.overlay.proofs.FillLemmas.Under.{lower_under, under_over}
use Rattle.overlay.proofs.FillLemmas.Weights.{weight-left, weight-none, weight-right}
use Rattle.overlay.proofs.FillLemmas.Wound.{winding-total}
use Rattle.overlay.proofs.KeptLemmas.First.{turned-meet, turned-same}
use Rattle.overlay.proofs.WindsLemmas.Paired.{IsJustBelow, IsOneOrNone, IsUnit, paired, upto}

-- Each leftwards edge is one of some exactly if the edge just below it is, over each stretch.
abbrev pub AreTogether : (Edge → Bool) → List Edge → Type 0
AreTogether own edges = (x : ℤ) (one other : Edge) → IsNextBelow edges x one other → other.x1 <ℤ other.x0 → own one ≡ own other

-- ---- the point of an edge over the middle of a stretch

-- The point of an edge that goes rightwards, half way from x to x + 1.
pub record Middle (edge : Edge) (x : ℤ) : Type 0 where
  pub k : ℕ
  pub is : run edge ≡ pos k
  pub some : 0 < k

pub middle_of : (edge : Edge) (x : ℤ) → edge.x0 <ℤ edge.x1 → Middle edge x
middle_of edge x onwards =
    let width = natural (run edge) (omega (arith, ints, onwards)) in
    let is = width.is in
    record { k = width.k; is = is; some = omega (arith, ints, onwards, is) }

module _ (edge : Edge) (x : ℤ) (at : Middle edge x) where
  abbrev pub half_way : RationalPoint
  half_way = record {
    n = 2 * at.k;
    x = ((pos 2 *ℤ x) +ℤ pos 1) *ℤ pos at.k;
    y = middle x edge;
    positive = (let some = at.some in omega (arith, some));
  }

  -- an edge covers its x where it is over the stretch
  from-half : (z : ℤ) → int_le (pos (2 * at.k) *ℤ z) (((pos 2 *ℤ x) +ℤ pos 1) *ℤ pos at.k) ≡ not (lt_z x z)
  from-half z =
      let some = at.some in
      let first = identity (times (n_of (2 * at.k)) (number z)) (times (n_of at.k) (times (n_of 2) (number z))) (omega arith) in
      let second = identity (times (plus (times (n_of 2) (number x)) (n_of 1)) (n_of at.k)) (times (n_of at.k) (plus (times (n_of 2) (number x)) (n_of 1))) (omega arith) in
      by_lt_z x z
      (λ less.
      let more = scaled at.k ((pos 2 *ℤ x) +ℤ pos 2) (pos 2 *ℤ z) (omega (arith, ints, less)) in
      let split = identity (times (n_of at.k) (plus (times (n_of 2) (number x)) (n_of 2))) (plus (times (n_of at.k) (plus (times (n_of 2) (number x)) (n_of 1))) (n_of at.k)) (omega arith) in
      is_false (pos (2 * at.k) *ℤ z) (((pos 2 *ℤ x) +ℤ pos 1) *ℤ pos at.k) x z less (omega (arith, ints, first, second, more, split, some)))
      (λ upto.
      let most = scaled at.k (pos 2 *ℤ z) ((pos 2 *ℤ x) +ℤ pos 1) (omega (arith, ints, upto)) in
      is_true (pos (2 * at.k) *ℤ z) (((pos 2 *ℤ x) +ℤ pos 1) *ℤ pos at.k) x z upto (omega (arith, ints, first, second, most)))
    where
      is_false : (a b c d : ℤ) → c <ℤ d → b <ℤ a → int_le a b ≡ not (lt_z c d)
      is_false a b c d less back = grind (arith, ints)

      is_true : (a b c d : ℤ) → d ≤ℤ c → a ≤ℤ b → int_le a b ≡ not (lt_z c d)
      is_true a b c d upto most = grind (arith, ints)

  before-half : (z : ℤ) → int_lt (((pos 2 *ℤ x) +ℤ pos 1) *ℤ pos at.k) (pos (2 * at.k) *ℤ z) ≡ lt_z x z
  before-half z =
      let some = at.some in
      let first = identity (times (n_of (2 * at.k)) (number z)) (times (n_of at.k) (times (n_of 2) (number z))) (omega arith) in
      let second = identity (times (plus (times (n_of 2) (number x)) (n_of 1)) (n_of at.k)) (times (n_of at.k) (plus (times (n_of 2) (number x)) (n_of 1))) (omega arith) in
      by_lt_z x z
      (λ less.
      let more = scaled at.k ((pos 2 *ℤ x) +ℤ pos 2) (pos 2 *ℤ z) (omega (arith, ints, less)) in
      let split = identity (times (n_of at.k) (plus (times (n_of 2) (number x)) (n_of 2))) (plus (times (n_of at.k) (plus (times (n_of 2) (number x)) (n_of 1))) (n_of at.k)) (omega arith) in
      is_true (((pos 2 *ℤ x) +ℤ pos 1) *ℤ pos at.k) (pos (2 * at.k) *ℤ z) x z less (omega (arith, ints, first, second, more, split, some)))
      (λ upto.
      let most = scaled at.k (pos 2 *ℤ z) ((pos 2 *ℤ x) +ℤ pos 1) (omega (arith, ints, upto)) in
      is_false (((pos 2 *ℤ x) +ℤ pos 1) *ℤ pos at.k) (pos (2 * at.k) *ℤ z) x z upto (omega (arith, ints, first, second, most)))
    where
      is_true : (a b c d : ℤ) → c <ℤ d → a <ℤ b → int_lt a b ≡ lt_z c d
      is_true a b c d less more = grind (arith, ints)

      is_false : (a b c d : ℤ) → d ≤ℤ c → b ≤ℤ a → int_lt a b ≡ lt_z c d
      is_false a b c d upto most = grind (arith, ints)

  -- and is under it where the edge isn't lower than it
  low-half : (other : Edge) → int_le (height_at other half_way) (middle x edge *ℤ run other) ≡ not (is_lower_on x edge other)
  low-half other =
      let height = identity (plus (times (number other.y0) (minus (times (n_of (2 * at.k)) (number other.x1)) (times (plus (times (n_of 2) (number x)) (n_of 1)) (n_of at.k)))) (times (number other.y1) (minus (times (plus (times (n_of 2) (number x)) (n_of 1)) (n_of at.k)) (times (n_of (2 * at.k)) (number other.x0)))))
      (times (plus (plus (times (number other.y0) (minus (number other.x1) (number x))) (times (number other.y1) (minus (number x) (number other.x0)))) (plus (times (number other.y0) (minus (number other.x1) (plus (number x) (n_of 1)))) (times (number other.y1) (minus (plus (number x) (n_of 1)) (number other.x0))))) (n_of at.k)) (omega arith) in
      let width = ap (λ (z : ℤ). middle x other *ℤ z) at.is in
      let left = twofold (height_by_run edge x) (height_by_run edge (x +ℤ pos 1)) (run other) in
      let right = twofold (height_by_run other x) (height_by_run other (x +ℤ pos 1)) (run edge) in
      by (height_at other half_way) (middle x edge *ℤ run other) (height_by_runs edge other x +ℤ height_by_runs edge other (x +ℤ pos 1)) (height_by_runs other edge x +ℤ height_by_runs other edge (x +ℤ pos 1))
      (height ∙ sym width ∙ sym right) (sym left)
    where
      by : (a b c d : ℤ) → a ≡ d → b ≡ c → int_le a b ≡ not (lt_z c d)
      by a b c d first second = by_lt_z c d (λ less. is_false a b c d first second less) (λ upto. is_true a b c d first second upto)
        where
          is_false : (a b c d : ℤ) → a ≡ d → b ≡ c → c <ℤ d → int_le a b ≡ not (lt_z c d)
          is_false a b c d first second less = grind (arith, ints)

          is_true : (a b c d : ℤ) → a ≡ d → b ≡ c → d ≤ℤ c → int_le a b ≡ not (lt_z c d)
          is_true a b c d first second upto = grind (arith, ints)

  pub counted-half : (other : Edge) → is_counted other half_way ≡ (is_over x other && not (is_lower_on x edge other))
  counted-half other = ap₂ (λ (s t : Bool). s && t) (ap₂ (λ (s t : Bool). s && t) (from-half other.x0) (before-half other.x1)) (low-half other)

-- ---- tests

never : true ≡ false → ⊥
never h = cc

-- what is over and not above the edge is what is low and not above it
same-tests : (over low above : Bool) (w : ℤ) → (low ≡ true → over ≡ true) → (over ≡ true → above ≡ false → low ≡ true)
    → cond (over && not above) w (pos 0) ≡ cond low (cond above (pos 0) w) (pos 0)
same-tests true true true w first second = refl
same-tests true true false w first second = refl
same-tests true false true w first second = refl
same-tests true false false w first second = let h = second refl refl in cc
same-tests false true above w first second = let h = first refl in cc
same-tests false false above w first second = refl

exchanged : (s t : Bool) (w : ℤ) → cond s (cond t w (pos 0)) (pos 0) ≡ cond t (cond s w (pos 0)) (pos 0)
exchanged true true w = refl
exchanged true false w = refl
exchanged false true w = refl
exchanged false false w = refl

-- ---- the edges under a point

module _ (edges : List Edge) (noded : AreNoded edges) (distinct : AreDistinct edges) (once : (point : RationalPoint) → IsOneOrNone (winding edges point)) (point : RationalPoint) where
  abbrev x : ℤ
  x = int_div_euclid point.x (pos point.n)

  floor : Floor point.n point.x x
  floor = floor_is point.n point.x point.positive

  abbrev low : Edge → Bool
  low edge = is_counted (rightwards edge) point

  abbrev lower : Edge → Edge → Bool
  lower one other = is_lower_on x (rightwards one) (rightwards other)

  abbrev here : List Edge
  here = filter low edges

  over : (edge : Edge) → low edge ≡ true → is_over x (rightwards edge) ≡ true
  over edge is_low = under_over point x floor (rightwards edge) is_low

  -- what is over the stretch goes rightwards, once turned
  onwards : (edge : Edge) → is_over x (rightwards edge) ≡ true → (rightwards edge).x0 <ℤ (rightwards edge).x1
  onwards edge is_over_it =
      let span = over_is x (rightwards edge) is_over_it in
      let from = span.0 in
      let before = span.1 in
      omega (arith, ints, from, before)

  meet : (one other : Edge) → Contains edges one → Contains edges other → MeetOnly (rightwards one) (rightwards other)
  meet one other first second = turned-meet edges noded one other first second

  -- and what is lower than a low one is low
  down : (one other : Edge) → Contains edges one → Contains edges other → is_over x (rightwards one) ≡ true → low other ≡ true → lower one other ≡ true → low one ≡ true
  down one other first second over_one is_low less =
      lower_under point x floor (rightwards one) (rightwards other) (onwards one over_one) (onwards other (over other is_low))
      (uncrossed (rightwards one) (rightwards other) (meet one other first second)) over_one is_low less

  -- of two of them one is lower
  differ : (one other : Edge) → Contains edges one → Contains edges other → low one ≡ true → low other ≡ true → ¬ (HaveSameEnds one other) → Differ lower one other
  differ one other first second is_low is_low_too apart =
      lower-apart (rightwards one) (rightwards other) x (meet one other first second) (λ same. apart (turned-same one other same)) (over one is_low) (over other is_low_too)

  all_differ : AllPairs (Differ lower) here
  all_differ i j d before within =
      let (first, is_low) = held i d (omega (arith, before, within)) in
      let (second, is_low_too) = held j d within in
      differ (get_or here i d) (get_or here j d) first second is_low is_low_too (AllPairs-filter (λ one other. ¬ (HaveSameEnds one other)) low edges distinct i j d before within)
    where
      held : All (λ edge. Contains edges edge × (low edge ≡ true)) here
      held = All-among (λ edge. Contains edges edge × (low edge ≡ true)) here (λ edge among. Contains-from_filter low edges edge among)

  -- what isn't above a low one, and over the stretch, is low
  not-above : (one other : Edge) → Contains edges one → Contains edges other → low one ≡ true → is_over x (rightwards other) ≡ true → lower one other ≡ false → low other ≡ true
  not-above one other first second is_low over_other above = by (low other) refl
    where
      by : (t : Bool) → low other ≡ t → low other ≡ true
      by true is = is
      by false is =
          elim (lower-apart (rightwards one) (rightwards other) x (meet one other first second)
          (λ same. never (sym is_low ∙ ap (λ (r : Edge). is_counted r point) same ∙ is)) (over one is_low) over_other) [
            | inl less ↦ absurd (never (sym less ∙ above))
            | inr more ↦ down other one second first over_other is_low more
          ]

  -- those up to one of them weigh as the point of it winds that is half way along the stretch
  sums : (one : Edge) → Contains here one → IsOneOrNone (total (upto lower (λ one other. lower-asym x (rightwards one) (rightwards other)) (λ one. lower-irrefl x (rightwards one)) weight (λ edge. true) one) here)
  sums one among =
      let (inside, is_low) = Contains-from_filter low edges one among in
      let r = rightwards one in
      let at = middle_of r x (onwards one (over one is_low)) in
      subst IsOneOrNone
      (winding-total edges (half_way r x at)
      ∙ total-same (λ edge. cond (is_counted (rightwards edge) (half_way r x at)) (weight edge) (pos 0)) (λ edge. cond (low edge) (cond (lower one edge) (pos 0) (weight edge)) (pos 0)) edges
      (All-among (λ edge. cond (is_counted (rightwards edge) (half_way r x at)) (weight edge) (pos 0) ≡ cond (low edge) (cond (lower one edge) (pos 0) (weight edge)) (pos 0)) edges
      (λ edge held.
      ap (λ (t : Bool). cond t (weight edge) (pos 0)) (counted-half r x at (rightwards edge))
      ∙ same-tests (is_over x (rightwards edge)) (low edge) (lower one edge) (weight edge) (over edge) (λ is_over_it above. not-above one edge inside held is_low is_over_it above)))
      ∙ total-filter low (λ edge. cond (lower one edge) (pos 0) (weight edge)) edges)
      (once (half_way r x at))

  -- each weighs 1 or -1
  unit : (edge : Edge) → low edge ≡ true → IsUnit (weight edge)
  unit edge is_low =
      by_lt_z edge.x0 edge.x1 (λ right. inl (weight-right edge right))
      (λ upto. by_lt_z edge.x1 edge.x0 (λ left. inr (weight-left edge left)) (λ from. absurd (upright edge (omega (arith, ints, upto, from)) (onwards edge (over edge is_low)))))
    where
      upright : (edge : Edge) → edge.x0 ≡ edge.x1 → (rightwards edge).x0 <ℤ (rightwards edge).x1 → ⊥
      upright edge same onwards_it = by (same-rightwards edge)
        where
          by : HaveSameEnds (rightwards edge) edge → ⊥
          by (inl is) = let a = ap (λ (e : Edge). e.x0) is in let b = ap (λ (e : Edge). e.x1) is in omega (arith, ints, same, onwards_it, a, b)
          by (inr is) = let a = ap (λ (e : Edge). e.x0) is in let b = ap (λ (e : Edge). e.x1) is in omega (arith, ints, same, onwards_it, a, b)

  -- one that weighs -1 goes leftwards
  leftwards : (edge : Edge) → weight edge ≡ negsuc 0 → edge.x1 <ℤ edge.x0
  leftwards edge is =
      by_lt_z edge.x0 edge.x1 (λ right. let one = weight-right edge right in absurd (omega (arith, ints, is, one)))
      (λ upto. by_lt_z edge.x1 edge.x0 (λ left. left) (λ from. let none = weight-none edge (omega (arith, ints, upto, from)) in absurd (omega (arith, ints, is, none))))

  -- Some of them wind once around the point, or not at all.
  pub winds-own : (own : Edge → Bool) → AreTogether own edges → (winding (filter own edges) point ≡ pos 0) ⊎ (winding (filter own edges) point ≡ pos 1)
  winds-own own together =
      let asym : (one other : Edge) → lower one other ≡ true → lower other one ≡ false = λ one other. lower-asym x (rightwards one) (rightwards other) in
      let irrefl : (one : Edge) → lower one one ≡ false = λ one. lower-irrefl x (rightwards one) in
      subst IsOneOrNone
      (sym (total-filter low (λ edge. cond (own edge) (weight edge) (pos 0)) edges)
      ∙ total-same (λ edge. cond (low edge) (cond (own edge) (weight edge) (pos 0)) (pos 0)) (λ edge. cond (own edge) (cond (low edge) (weight edge) (pos 0)) (pos 0)) edges
      (All-among (λ edge. cond (low edge) (cond (own edge) (weight edge) (pos 0)) (pos 0) ≡ cond (own edge) (cond (low edge) (weight edge) (pos 0)) (pos 0)) edges (λ edge held. exchanged (low edge) (own edge) (weight edge)))
      ∙ total-filter own (λ edge. cond (low edge) (weight edge) (pos 0)) edges
      ∙ sym (winding-total (filter own edges) point))
      (paired lower asym irrefl weight own here
      (λ one second third first_here second_here third_here.
      lower-trans x (rightwards one) (rightwards second) (rightwards third) (onwards-here one first_here) (onwards-here second second_here) (onwards-here third third_here))
      (λ one other just_below back. together x one other (next own one other just_below) (leftwards other back))
      all_differ
      (All-among (λ edge. IsUnit (weight edge)) here (λ edge among. unit edge (Contains-from_filter low edges edge among).1))
      (All-among (λ one. IsOneOrNone (total (upto lower asym irrefl weight own one) here)) here (λ one among. sums one among)))
    where
      onwards-here : (edge : Edge) → Contains here edge → (rightwards edge).x0 <ℤ (rightwards edge).x1
      onwards-here edge among = onwards edge (over edge (Contains-from_filter low edges edge among).1)

      next : (own : Edge → Bool) (one other : Edge) → IsJustBelow lower (λ one other. lower-asym x (rightwards one) (rightwards other)) (λ one. lower-irrefl x (rightwards one)) weight own here one other → IsNextBelow edges x one other
      next own one other just_below =
          let (inside, is_low) = Contains-from_filter low edges one just_below.among in
          let (inside_too, is_low_too) = Contains-from_filter low edges other just_below.among_too in record {
            among = inside;
            among_too = inside_too;
            over = over one is_low;
            over_too = over other is_low_too;
            less = just_below.less;
            none = λ between held is_over_it from upto. just_below.none between (Contains-filter low edges between (down between other held inside_too is_over_it is_low_too upto) held) from upto;
          }
