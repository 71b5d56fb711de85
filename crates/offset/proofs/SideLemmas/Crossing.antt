-- What one edge counts at the two ends of a way, which it doesn't meet or crosses.
use Rattle.std.proofs.Common.{◌≡◌, ◌⊎◌, inl, inr, ℤ, pos, ◌-ℤ◌, ◌*ℤ◌, ◌<ℤ◌, ◌≤ℤ◌, Bool, true, false, ◌&&◌, refl, ap, ap₂, arith}
use Rattle.std.specs.Prelude.{int_le, int_lt}
use Rattle.std.proofs.lemmas.Int.{by_lt_z, clamps, ints}
use Rattle.plane.specs.declared.edge.Edge.{Edge}
use Rattle.plane.specs.declared.point.Point.{Point}
use Rattle.plane.specs.Ends.{end_of, reversed, start_of}
use Rattle.plane.specs.Meet.Edges.{Meet}
use Rattle.plane.proofs.MeetLemmas.Boxes.{meet-boxes}
use Rattle.plane.proofs.MeetLemmas.Identities.{Term, identity, minus, number, times}
use Rattle.plane.proofs.MeetLemmas.Shares.{whole}
use Rattle.plane.proofs.SweepLineLemmas.Gaps.{product_above}
use Rattle.noding.specs.Windings.{count}
use Rattle.noding.proofs.SnapLemmas.Reversed.{IsOf-reversed}
use Rattle.noding.proofs.SnapLemmas.Numbers.{n_of, product_positive}
use Rattle.offset.proofs.SideLemmas.Meeting.{AreOpposite, Spans, height_over, leftness, meet-between, meet-up, over-end, over-start, under-end, under-start}

-- The edge goes rightwards and is under the point (x, y): it covers x, from its start up to and without its end, and the point
-- isn't to the right of it.
abbrev pub is_below : Edge → ℤ → ℤ → Bool
is_below edge x y = (int_le edge.x0 x && int_lt x edge.x1) && int_le (pos 0) (leftness edge x y)

-- The point lies strictly under the way: its x is one of the way's, without its start's and up to its end's.
abbrev pub lies_under : Edge → Point → Bool
lies_under way point = (int_lt way.x0 point.x && int_le point.x way.x1) && int_lt (leftness way point.x point.y) (pos 0)

-- What the edge counts more at the end of the way than at its start, where it goes rightwards.
abbrev pub gain : Edge → Edge → ℤ
gain edge way = count (is_below edge way.x1 way.y1) -ℤ count (is_below edge way.x0 way.y0)

-- And what it counts more wherever it goes, but for whether its ends lie under the way.
abbrev pub jump : Edge → Edge → ℤ
jump edge way = (gain edge way -ℤ gain (reversed edge) way) -ℤ (count (lies_under way (start_of edge)) -ℤ count (lies_under way (end_of edge)))

-- The way crosses the edge, from its right to its left.
pub record CrossesLeft (edge way : Edge) : Type 0 where
  pub start : leftness edge way.x0 way.y0 <ℤ pos 0
  pub end : pos 0 <ℤ leftness edge way.x1 way.y1
  pub edge_start : pos 0 <ℤ leftness way edge.x0 edge.y0
  pub edge_end : leftness way edge.x1 edge.y1 <ℤ pos 0

-- And from its left to its right.
abbrev pub CrossesRight : Edge → Edge → Type 0
CrossesRight edge way = CrossesLeft (reversed edge) way

-- ---- tests

le_true : (a b : ℤ) → a ≤ℤ b → int_le a b ≡ true
le_true a b upto = by (int_le a b) refl
  where
    by : (t : Bool) → int_le a b ≡ t → t ≡ true
    by true e = refl
    by false e = absurd (omega (arith, ints, e, upto))

less_true : (a b : ℤ) → a <ℤ b → int_lt a b ≡ true
less_true a b less = by (int_lt a b) refl
  where
    by : (t : Bool) → int_lt a b ≡ t → t ≡ true
    by true e = refl
    by false e = absurd (omega (arith, ints, e, less))

pub le_is : (a b : ℤ) → int_le a b ≡ true → a ≤ℤ b
le_is a b e = omega (arith, ints, e)

pub le_not : (a b : ℤ) → int_le a b ≡ false → b <ℤ a
le_not a b e = omega (arith, ints, e)

pub less_is : (a b : ℤ) → int_lt a b ≡ true → a <ℤ b
less_is a b e = omega (arith, ints, e)

pub less_not : (a b : ℤ) → int_lt a b ≡ false → b ≤ℤ a
less_not a b e = omega (arith, ints, e)

both_true : (r s t : Bool) → r ≡ true → s ≡ true → count ((r && s) && t) ≡ count t
both_true true true t e f = refl
both_true false s t e f = cc
both_true true false t e f = cc

not_both : (r s t : Bool) → (r ≡ true → s ≡ true → ⊥) → count ((r && s) && t) ≡ pos 0
not_both true true t never = absurd (never refl refl)
not_both false s t never = refl
not_both true false t never = refl

module _ (edge : Edge) (x y : ℤ) where
  pub below-in : edge.x0 ≤ℤ x → x <ℤ edge.x1 → count (is_below edge x y) ≡ count (int_le (pos 0) (leftness edge x y))
  below-in after before = both_true (int_le edge.x0 x) (int_lt x edge.x1) (int_le (pos 0) (leftness edge x y)) (le_true edge.x0 x after) (less_true x edge.x1 before)

  pub below-out : (edge.x0 ≤ℤ x → x <ℤ edge.x1 → ⊥) → count (is_below edge x y) ≡ pos 0
  below-out never = not_both (int_le edge.x0 x) (int_lt x edge.x1) (int_le (pos 0) (leftness edge x y)) (λ e f. never (le_is edge.x0 x e) (less_is x edge.x1 f))

module _ (way : Edge) (point : Point) where
  pub under-in : way.x0 <ℤ point.x → point.x ≤ℤ way.x1 → count (lies_under way point) ≡ count (int_lt (leftness way point.x point.y) (pos 0))
  under-in after before = both_true (int_lt way.x0 point.x) (int_le point.x way.x1) (int_lt (leftness way point.x point.y) (pos 0)) (less_true way.x0 point.x after) (le_true point.x way.x1 before)

  pub under-out : (way.x0 <ℤ point.x → point.x ≤ℤ way.x1 → ⊥) → count (lies_under way point) ≡ pos 0
  under-out never = not_both (int_lt way.x0 point.x) (int_le point.x way.x1) (int_lt (leftness way point.x point.y) (pos 0)) (λ e f. never (less_is way.x0 point.x e) (le_is point.x way.x1 f))

-- ---- what an edge counts beside a way

-- Where the way and the edge have an x in common: at the first one and at the last one some number tells on which side of the
-- edge the way is there, above 0 where it is above.
pub record Passed (edge way : Edge) : Type 0 where
  pub low : Bool
  pub high : Bool
  pub first : ℤ
  pub last : ℤ
  pub jumps : jump edge way ≡ (count high -ℤ count low)
  pub low_true : low ≡ true → pos 0 ≤ℤ first
  pub low_false : low ≡ false → first ≤ℤ pos 0
  pub high_true : high ≡ true → pos 0 ≤ℤ last
  pub high_false : high ≡ false → last ≤ℤ pos 0
  pub meet : AreOpposite first last → Meet edge way
  pub left : CrossesLeft edge way → (first <ℤ pos 0) × (pos 0 <ℤ last)
  pub right : CrossesRight edge way → (pos 0 <ℤ first) × (last <ℤ pos 0)

-- Where they have none.
pub record Missed (edge way : Edge) : Type 0 where
  pub jumps : jump edge way ≡ pos 0
  pub not_left : ¬ (CrossesLeft edge way)
  pub not_right : ¬ (CrossesRight edge way)

abbrev pub Beside : Edge → Edge → Type 0
Beside edge way = Missed edge way ⊎ Passed edge way

-- ---- signs

above_times : (k z : ℤ) → pos 0 <ℤ k → pos 0 ≤ℤ z → pos 0 ≤ℤ (k *ℤ z)
above_times k z some above = product_above k z (omega (arith, ints, some)) above

turned : (k z : ℤ) → (k *ℤ (pos 0 -ℤ z)) ≡ (pos 0 -ℤ (k *ℤ z))
turned k z = identity (times (number k) (minus (n_of 0) (number z))) (minus (n_of 0) (times (number k) (number z))) (omega arith)

below_times : (k z : ℤ) → pos 0 <ℤ k → z ≤ℤ pos 0 → (k *ℤ z) ≤ℤ pos 0
below_times k z some below = let is = above_times k (pos 0 -ℤ z) some (omega (arith, ints, below)) in let same = turned k z in omega (arith, ints, is, same)

pub less_times : (k z : ℤ) → pos 0 <ℤ k → z <ℤ pos 0 → (k *ℤ z) <ℤ pos 0
less_times k z some below = let is = product_positive k (pos 0 -ℤ z) some (omega (arith, ints, below)) in let same = turned k z in omega (arith, ints, is, same)

-- ---- the sides of the other way round

abbrev left_term : Edge → ℤ → ℤ → Term
left_term edge x y = minus (times (minus (number edge.x1) (number edge.x0)) (minus (number y) (number edge.y0))) (times (minus (number edge.y1) (number edge.y0)) (minus (number x) (number edge.x0)))

pub leftness-reversed : (edge : Edge) (x y : ℤ) → leftness (reversed edge) x y ≡ (pos 0 -ℤ leftness edge x y)
leftness-reversed edge x y = identity (left_term (reversed edge) x y) (minus (n_of 0) (left_term edge x y)) (omega arith)

-- how far the whole turns, by the ends of the way
whole-rest : (edge way : Edge) → whole edge way ≡ (leftness edge way.x1 way.y1 -ℤ leftness edge way.x0 way.y0)
whole-rest edge way =
    identity (minus (times (minus (number edge.x1) (number edge.x0)) (minus (number way.y1) (number way.y0))) (times (minus (number edge.y1) (number edge.y0)) (minus (number way.x1) (number way.x0))))
    (minus (left_term edge way.x1 way.y1) (left_term edge way.x0 way.y0)) (omega arith)

-- what crosses has a common point
pub left-meet : (edge way : Edge) → CrossesLeft edge way → Meet edge way
left-meet edge way c =
    let sum = whole-rest edge way in
    let a = c.start in
    let b = c.end in
    let d = c.edge_start in
    let e = c.edge_end in
    meet-up edge way (omega (arith, ints, sum, a, b)) (omega (arith, ints, a)) (omega (arith, ints, b)) (omega (arith, ints, d)) (omega (arith, ints, e))

pub meet-reversed : (edge way : Edge) → Meet (reversed edge) way → Meet edge way
meet-reversed edge way (point, of, of_way) = (point, IsOf-reversed (reversed edge) point of, of_way)

-- ---- an edge that goes rightwards, and a way that does

module _ (edge way : Edge) (onwards : edge.x0 <ℤ edge.x1) where
  -- the edge from its end to its start counts nothing
  pub back-none : gain (reversed edge) way ≡ pos 0
  back-none = ap₂ (λ (a b : ℤ). a -ℤ b) (below-out (reversed edge) way.x1 way.y1 (λ after before. omega (arith, ints, after, before, onwards))) (below-out (reversed edge) way.x0 way.y0 (λ after before. omega (arith, ints, after, before, onwards)))

  pub jump-by : (a b c d : ℤ) → count (is_below edge way.x1 way.y1) ≡ a → count (is_below edge way.x0 way.y0) ≡ b → count (lies_under way (start_of edge)) ≡ c → count (lies_under way (end_of edge)) ≡ d
      → jump edge way ≡ ((a -ℤ b) -ℤ (c -ℤ d))
  jump-by a b c d at_end at_start first last = let none = back-none in omega (arith, ints, none, at_end, at_start, first, last)

  -- no x in common
  pub far-left : way.x0 ≤ℤ way.x1 → way.x1 <ℤ edge.x0 → Missed edge way
  far-left order far = record {
    jumps = jump-by (pos 0) (pos 0) (pos 0) (pos 0)
        (below-out edge way.x1 way.y1 (λ after before. omega (arith, ints, after, far)))
        (below-out edge way.x0 way.y0 (λ after before. omega (arith, ints, after, far, order)))
        (under-out way (start_of edge) (λ after before. omega (arith, ints, before, far)))
        (under-out way (end_of edge) (λ after before. omega (arith, ints, before, far, onwards)));
    not_left = λ c. let meet = meet-boxes edge way (left-meet edge way c) in let x = meet.x.first in omega (arith, ints, clamps, x, far, order, onwards);
    not_right = λ c. let meet = meet-boxes edge way (meet-reversed edge way (left-meet (reversed edge) way c)) in let x = meet.x.first in omega (arith, ints, clamps, x, far, order, onwards);
  }

  module _ (ahead : way.x0 <ℤ way.x1) where
    wide : pos 0 <ℤ (edge.x1 -ℤ edge.x0)
    wide = omega (arith, ints, onwards)

    way_wide : pos 0 <ℤ (way.x1 -ℤ way.x0)
    way_wide = omega (arith, ints, ahead)

    abbrev over : ℤ → ℤ
    over = height_over edge way

    -- the signs at the ends of the way, and of the edge
    abbrev Above : Bool → ℤ → Type 0
    Above test z = ((test ≡ true → pos 0 ≤ℤ z) × (test ≡ false → z ≤ℤ pos 0))

    at-start : Above (int_le (pos 0) (leftness edge way.x0 way.y0)) (over way.x0)
    at-start = (
      λ e. let is = over-start edge way in let sign = above_times (way.x1 -ℤ way.x0) (leftness edge way.x0 way.y0) way_wide (le_is (pos 0) (leftness edge way.x0 way.y0) e) in omega (arith, ints, is, sign),
      λ e. let is = over-start edge way in let less = le_not (pos 0) (leftness edge way.x0 way.y0) e in let sign = below_times (way.x1 -ℤ way.x0) (leftness edge way.x0 way.y0) way_wide (omega (arith, ints, less)) in omega (arith, ints, is, sign),
    )

    at-end : Above (int_le (pos 0) (leftness edge way.x1 way.y1)) (over way.x1)
    at-end = (
      λ e. let is = over-end edge way in let sign = above_times (way.x1 -ℤ way.x0) (leftness edge way.x1 way.y1) way_wide (le_is (pos 0) (leftness edge way.x1 way.y1) e) in omega (arith, ints, is, sign),
      λ e. let is = over-end edge way in let less = le_not (pos 0) (leftness edge way.x1 way.y1) e in let sign = below_times (way.x1 -ℤ way.x0) (leftness edge way.x1 way.y1) way_wide (omega (arith, ints, less)) in omega (arith, ints, is, sign),
    )

    at-edge_start : Above (int_lt (leftness way edge.x0 edge.y0) (pos 0)) (over edge.x0)
    at-edge_start = (
      λ e. let is = under-start edge way in let less = less_is (leftness way edge.x0 edge.y0) (pos 0) e in let sign = below_times (edge.x1 -ℤ edge.x0) (leftness way edge.x0 edge.y0) wide (omega (arith, ints, less)) in omega (arith, ints, is, sign),
      λ e. let is = under-start edge way in let sign = above_times (edge.x1 -ℤ edge.x0) (leftness way edge.x0 edge.y0) wide (less_not (leftness way edge.x0 edge.y0) (pos 0) e) in omega (arith, ints, is, sign),
    )

    at-edge_end : Above (int_lt (leftness way edge.x1 edge.y1) (pos 0)) (over edge.x1)
    at-edge_end = (
      λ e. let is = under-end edge way in let less = less_is (leftness way edge.x1 edge.y1) (pos 0) e in let sign = below_times (edge.x1 -ℤ edge.x0) (leftness way edge.x1 edge.y1) wide (omega (arith, ints, less)) in omega (arith, ints, is, sign),
      λ e. let is = under-end edge way in let sign = above_times (edge.x1 -ℤ edge.x0) (leftness way edge.x1 edge.y1) wide (less_not (leftness way edge.x1 edge.y1) (pos 0) e) in omega (arith, ints, is, sign),
    )

    -- where the way crosses, the signs are strict
    left-low : CrossesLeft edge way → (over way.x0 <ℤ pos 0) × (over edge.x0 <ℤ pos 0)
    left-low c = (
      (let is = over-start edge way in let sign = less_times (way.x1 -ℤ way.x0) (leftness edge way.x0 way.y0) way_wide c.start in omega (arith, ints, is, sign)),
      (let is = under-start edge way in let sign = product_positive (edge.x1 -ℤ edge.x0) (leftness way edge.x0 edge.y0) wide c.edge_start in omega (arith, ints, is, sign)),
    )

    left-high : CrossesLeft edge way → (pos 0 <ℤ over way.x1) × (pos 0 <ℤ over edge.x1)
    left-high c = (
      (let is = over-end edge way in let sign = product_positive (way.x1 -ℤ way.x0) (leftness edge way.x1 way.y1) way_wide c.end in omega (arith, ints, is, sign)),
      (let is = under-end edge way in let sign = less_times (edge.x1 -ℤ edge.x0) (leftness way edge.x1 edge.y1) wide c.edge_end in omega (arith, ints, is, sign)),
    )

    right-low : CrossesRight edge way → (pos 0 <ℤ over way.x0) × (pos 0 <ℤ over edge.x0)
    right-low c =
        let start = c.start in
        let start_is = leftness-reversed edge way.x0 way.y0 in (
          (let is = over-start edge way in let sign = product_positive (way.x1 -ℤ way.x0) (leftness edge way.x0 way.y0) way_wide (omega (arith, ints, start, start_is)) in omega (arith, ints, is, sign)),
          (let is = under-start edge way in let sign = less_times (edge.x1 -ℤ edge.x0) (leftness way edge.x0 edge.y0) wide c.edge_end in omega (arith, ints, is, sign)),
        )

    right-high : CrossesRight edge way → (over way.x1 <ℤ pos 0) × (over edge.x1 <ℤ pos 0)
    right-high c =
        let end = c.end in
        let end_is = leftness-reversed edge way.x1 way.y1 in (
          (let is = over-end edge way in let sign = less_times (way.x1 -ℤ way.x0) (leftness edge way.x1 way.y1) way_wide (omega (arith, ints, end, end_is)) in omega (arith, ints, is, sign)),
          (let is = under-end edge way in let sign = product_positive (edge.x1 -ℤ edge.x0) (leftness way edge.x1 edge.y1) wide c.edge_start in omega (arith, ints, is, sign)),
        )

    -- the edge ends where the way begins, or before it
    far-right : edge.x1 ≤ℤ way.x0 → Missed edge way
    far-right far = record {
      jumps = jump-by (pos 0) (pos 0) (pos 0) (pos 0)
          (below-out edge way.x1 way.y1 (λ after before. omega (arith, ints, before, far, ahead)))
          (below-out edge way.x0 way.y0 (λ after before. omega (arith, ints, before, far)))
          (under-out way (start_of edge) (λ after before. omega (arith, ints, after, far, onwards)))
          (under-out way (end_of edge) (λ after before. omega (arith, ints, after, far)));
      not_left = λ c.
          let meet = meet-boxes edge way (left-meet edge way c) in
          let x = meet.x.second in
          let at : edge.x1 ≡ way.x0 = omega (arith, ints, clamps, x, far, ahead, onwards) in
          let same = ap over at in
          let low = (left-low c).0 in
          let high = (left-high c).1 in
          omega (arith, ints, same, low, high);
      not_right = λ c.
          let meet = meet-boxes edge way (meet-reversed edge way (left-meet (reversed edge) way c)) in
          let x = meet.x.second in
          let at : edge.x1 ≡ way.x0 = omega (arith, ints, clamps, x, far, ahead, onwards) in
          let same = ap over at in
          let low = (right-low c).0 in
          let high = (right-high c).1 in
          omega (arith, ints, same, low, high);
    }

    spans : (l r : ℤ) → edge.x0 ≤ℤ l → way.x0 ≤ℤ l → l ≤ℤ r → r ≤ℤ edge.x1 → r ≤ℤ way.x1 → Spans edge way l r
    spans l r a b c d e = record { onwards = onwards; other_onwards = ahead; from = a; other_from = b; order = c; upto = d; other_upto = e }

    -- both ends of the way are over the edge
    within : edge.x0 ≤ℤ way.x0 → way.x1 <ℤ edge.x1 → Passed edge way
    within after before = record {
      low = int_le (pos 0) (leftness edge way.x0 way.y0);
      high = int_le (pos 0) (leftness edge way.x1 way.y1);
      first = over way.x0;
      last = over way.x1;
      jumps =
          let sum = jump-by (count (int_le (pos 0) (leftness edge way.x1 way.y1))) (count (int_le (pos 0) (leftness edge way.x0 way.y0))) (pos 0) (pos 0)
          (below-in edge way.x1 way.y1 (omega (arith, ints, after, ahead)) before)
          (below-in edge way.x0 way.y0 after (omega (arith, ints, before, ahead)))
          (under-out way (start_of edge) (λ later upto. omega (arith, ints, later, after)))
          (under-out way (end_of edge) (λ later upto. omega (arith, ints, upto, before))) in
          omega (arith, ints, sum);
      low_true = at-start.0;
      low_false = at-start.1;
      high_true = at-end.0;
      high_false = at-end.1;
      meet = meet-between edge way way.x0 way.x1 (spans way.x0 way.x1 after (omega (arith, ints)) (omega (arith, ints, ahead)) (omega (arith, ints, before)) (omega (arith, ints)));
      left = λ c. ((left-low c).0, (left-high c).0);
      right = λ c. ((right-low c).0, (right-high c).0);
    }

    -- it begins before the edge, and ends over it
    enters : way.x0 <ℤ edge.x0 → edge.x0 ≤ℤ way.x1 → way.x1 <ℤ edge.x1 → Passed edge way
    enters sooner reaches before = record {
      low = int_lt (leftness way edge.x0 edge.y0) (pos 0);
      high = int_le (pos 0) (leftness edge way.x1 way.y1);
      first = over edge.x0;
      last = over way.x1;
      jumps =
          let sum = jump-by (count (int_le (pos 0) (leftness edge way.x1 way.y1))) (pos 0) (count (int_lt (leftness way edge.x0 edge.y0) (pos 0))) (pos 0)
          (below-in edge way.x1 way.y1 reaches before)
          (below-out edge way.x0 way.y0 (λ after upto. omega (arith, ints, after, sooner)))
          (under-in way (start_of edge) sooner reaches)
          (under-out way (end_of edge) (λ later upto. omega (arith, ints, upto, before))) in
          omega (arith, ints, sum);
      low_true = at-edge_start.0;
      low_false = at-edge_start.1;
      high_true = at-end.0;
      high_false = at-end.1;
      meet = meet-between edge way edge.x0 way.x1 (spans edge.x0 way.x1 (omega (arith, ints)) (omega (arith, ints, sooner)) reaches (omega (arith, ints, before)) (omega (arith, ints)));
      left = λ c. ((left-low c).1, (left-high c).0);
      right = λ c. ((right-low c).1, (right-high c).0);
    }

    -- it begins over the edge, and ends behind it
    leaves : edge.x0 ≤ℤ way.x0 → way.x0 <ℤ edge.x1 → edge.x1 ≤ℤ way.x1 → Passed edge way
    leaves after before behind = record {
      low = int_le (pos 0) (leftness edge way.x0 way.y0);
      high = int_lt (leftness way edge.x1 edge.y1) (pos 0);
      first = over way.x0;
      last = over edge.x1;
      jumps =
          let sum = jump-by (pos 0) (count (int_le (pos 0) (leftness edge way.x0 way.y0))) (pos 0) (count (int_lt (leftness way edge.x1 edge.y1) (pos 0)))
          (below-out edge way.x1 way.y1 (λ later upto. omega (arith, ints, upto, behind)))
          (below-in edge way.x0 way.y0 after before)
          (under-out way (start_of edge) (λ later upto. omega (arith, ints, later, after)))
          (under-in way (end_of edge) before behind) in
          omega (arith, ints, sum);
      low_true = at-start.0;
      low_false = at-start.1;
      high_true = at-edge_end.0;
      high_false = at-edge_end.1;
      meet = meet-between edge way way.x0 edge.x1 (spans way.x0 edge.x1 after (omega (arith, ints)) (omega (arith, ints, before)) (omega (arith, ints)) behind);
      left = λ c. ((left-low c).0, (left-high c).1);
      right = λ c. ((right-low c).0, (right-high c).1);
    }

    -- it begins before the edge, and ends behind it
    surrounds : way.x0 <ℤ edge.x0 → edge.x1 ≤ℤ way.x1 → Passed edge way
    surrounds sooner behind = record {
      low = int_lt (leftness way edge.x0 edge.y0) (pos 0);
      high = int_lt (leftness way edge.x1 edge.y1) (pos 0);
      first = over edge.x0;
      last = over edge.x1;
      jumps =
          let sum = jump-by (pos 0) (pos 0) (count (int_lt (leftness way edge.x0 edge.y0) (pos 0))) (count (int_lt (leftness way edge.x1 edge.y1) (pos 0)))
          (below-out edge way.x1 way.y1 (λ later upto. omega (arith, ints, upto, behind)))
          (below-out edge way.x0 way.y0 (λ after upto. omega (arith, ints, after, sooner)))
          (under-in way (start_of edge) sooner (omega (arith, ints, behind, onwards)))
          (under-in way (end_of edge) (omega (arith, ints, sooner, onwards)) behind) in
          omega (arith, ints, sum);
      low_true = at-edge_start.0;
      low_false = at-edge_start.1;
      high_true = at-edge_end.0;
      high_false = at-edge_end.1;
      meet = meet-between edge way edge.x0 edge.x1 (spans edge.x0 edge.x1 (omega (arith, ints)) (omega (arith, ints, sooner)) (omega (arith, ints, onwards)) (omega (arith, ints)) behind);
      left = λ c. ((left-low c).1, (left-high c).1);
      right = λ c. ((right-low c).1, (right-high c).1);
    }

    -- so an edge and a way that both go rightwards
    pub both-rightwards : Beside edge way
    both-rightwards =
        by_lt_z way.x1 edge.x0
        (λ far. inl (far-left (omega (arith, ints, ahead)) far))
        (λ reaches. by_lt_z way.x0 edge.x1
        (λ begins. by_lt_z way.x0 edge.x0
        (λ sooner. by_lt_z way.x1 edge.x1 (λ before. inr (enters sooner reaches before)) (λ behind. inr (surrounds sooner behind)))
        (λ after. by_lt_z way.x1 edge.x1 (λ before. inr (within after before)) (λ behind. inr (leaves after begins behind))))
        (λ far. inl (far-right far)))
