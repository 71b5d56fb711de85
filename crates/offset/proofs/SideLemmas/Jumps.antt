-- What any edge counts at the two ends of a way that doesn't go leftwards.
use Rattle.std.proofs.Common.{◌≡◌, ◌⊎◌, inl, inr, ℤ, pos, negsuc, ◌-ℤ◌, ◌<ℤ◌, ◌≤ℤ◌, Bool, true, false, refl, ap, ap₂, sym, ◌∙◌, arith}
use Rattle.std.specs.Prelude.{int_le, int_lt}
use Rattle.std.proofs.lemmas.Int.{by_lt_z, clamps, ints}
use Rattle.plane.specs.declared.edge.Edge.{Edge}
use Rattle.plane.specs.Ends.{end_of, reversed, start_of}
use Rattle.plane.specs.Meet.Crosses.{cross}
use Rattle.plane.specs.Meet.Edges.{Meet}
use Rattle.plane.proofs.MeetLemmas.Boxes.{meet-boxes, meet_comm}
use Rattle.plane.proofs.MeetLemmas.Identities.{identity, minus, number, times}
use Rattle.noding.specs.Windings.{count}
use Rattle.noding.proofs.SnapLemmas.Numbers.{n_of}
use Rattle.offset.proofs.SideLemmas.Crossing.{Beside, CrossesLeft, CrossesRight, Missed, Passed, below-in, below-out, both-rightwards, far-left, gain, is_below, jump, jump-by, le_is, le_not, left-meet, leftness-reversed, less_is, less_not, lies_under, meet-reversed, under-in, under-out}
use Rattle.offset.proofs.SideLemmas.Meeting.{AreOpposite, leftness, meet-upright}

-- ---- upright edges and ways

-- a point in the column of an upright edge is on its line
upright-none : (edge : Edge) (x y : ℤ) → edge.x0 ≡ edge.x1 → x ≡ edge.x0 → leftness edge x y ≡ pos 0
upright-none edge x y straight same =
    ap (λ z. cross (z -ℤ edge.x0) (edge.y1 -ℤ edge.y0) (x -ℤ edge.x0) (y -ℤ edge.y0)) (sym straight)
    ∙ ap (λ z. cross (edge.x0 -ℤ edge.x0) (edge.y1 -ℤ edge.y0) (z -ℤ edge.x0) (y -ℤ edge.y0)) same
    ∙ identity
    (minus (times (minus (number edge.x0) (number edge.x0)) (minus (number y) (number edge.y0))) (times (minus (number edge.y1) (number edge.y0)) (minus (number edge.x0) (number edge.x0))))
    (n_of 0) (omega arith)

-- and two points of one column lie as far to its left
upright-level : (edge : Edge) (x y other : ℤ) → edge.x0 ≡ edge.x1 → leftness edge x y ≡ leftness edge x other
upright-level edge x y other straight =
    ap (λ z. cross (z -ℤ edge.x0) (edge.y1 -ℤ edge.y0) (x -ℤ edge.x0) (y -ℤ edge.y0)) (sym straight)
    ∙ identity (minus (times (minus (number edge.x0) (number edge.x0)) (minus (number y) (number edge.y0))) (times (minus (number edge.y1) (number edge.y0)) (minus (number x) (number edge.x0))))
    (minus (times (minus (number edge.x0) (number edge.x0)) (minus (number other) (number edge.y0))) (times (minus (number edge.y1) (number edge.y0)) (minus (number x) (number edge.x0)))) (omega arith)
    ∙ ap (λ z. cross (z -ℤ edge.x0) (edge.y1 -ℤ edge.y0) (x -ℤ edge.x0) (other -ℤ edge.y0)) straight

right-meet : (edge way : Edge) → CrossesRight edge way → Meet edge way
right-meet edge way c = meet-reversed edge way (left-meet (reversed edge) way c)

-- an upright way over an edge that goes rightwards
module _ (edge way : Edge) (onwards : edge.x0 <ℤ edge.x1) (straight : way.x0 ≡ way.x1) where
  upright-passes : edge.x0 ≤ℤ way.x0 → way.x0 <ℤ edge.x1 → Passed edge way
  upright-passes after before = record {
    low = int_le (pos 0) (leftness edge way.x0 way.y0);
    high = int_le (pos 0) (leftness edge way.x1 way.y1);
    first = leftness edge way.x0 way.y0;
    last = leftness edge way.x1 way.y1;
    jumps =
        let sum = jump-by edge way onwards (count (int_le (pos 0) (leftness edge way.x1 way.y1))) (count (int_le (pos 0) (leftness edge way.x0 way.y0))) (pos 0) (pos 0)
        (below-in edge way.x1 way.y1 (omega (arith, ints, after, straight)) (omega (arith, ints, before, straight)))
        (below-in edge way.x0 way.y0 after before)
        (under-out way (start_of edge) (λ later upto. omega (arith, ints, later, upto, straight)))
        (under-out way (end_of edge) (λ later upto. omega (arith, ints, later, upto, straight))) in
        omega (arith, ints, sum);
    low_true = λ e. le_is (pos 0) (leftness edge way.x0 way.y0) e;
    low_false = λ e. let less = le_not (pos 0) (leftness edge way.x0 way.y0) e in omega (arith, ints, less);
    high_true = λ e. le_is (pos 0) (leftness edge way.x1 way.y1) e;
    high_false = λ e. let less = le_not (pos 0) (leftness edge way.x1 way.y1) e in omega (arith, ints, less);
    meet = meet-upright edge way onwards straight after (omega (arith, ints, before));
    left = λ c. (c.start, c.end);
    right = λ c.
        let start = c.start in
        let end = c.end in
        let start_is = leftness-reversed edge way.x0 way.y0 in
        let end_is = leftness-reversed edge way.x1 way.y1 in
        (omega (arith, ints, start, start_is), omega (arith, ints, end, end_is));
  }

  upright-misses : edge.x1 ≤ℤ way.x0 → Missed edge way
  upright-misses far = record {
    jumps = jump-by edge way onwards (pos 0) (pos 0) (pos 0) (pos 0)
        (below-out edge way.x1 way.y1 (λ after before. omega (arith, ints, before, far, straight)))
        (below-out edge way.x0 way.y0 (λ after before. omega (arith, ints, before, far)))
        (under-out way (start_of edge) (λ later upto. omega (arith, ints, later, upto, straight)))
        (under-out way (end_of edge) (λ later upto. omega (arith, ints, later, upto, straight)));
    not_left = λ c.
        let meet = meet-boxes edge way (left-meet edge way c) in
        let x = meet.x.second in
        let none = upright-none way edge.x1 edge.y1 straight (omega (arith, ints, clamps, x, far, straight, onwards)) in
        let less = c.edge_end in
        omega (arith, ints, none, less);
    not_right = λ c.
        let meet = meet-boxes edge way (right-meet edge way c) in
        let x = meet.x.second in
        let none = upright-none way edge.x1 edge.y1 straight (omega (arith, ints, clamps, x, far, straight, onwards)) in
        let less = c.edge_start in
        omega (arith, ints, none, less);
  }

  upright-way : Beside edge way
  upright-way =
      by_lt_z way.x0 edge.x0
      (λ sooner. inl (far-left edge way onwards (omega (arith, ints, straight)) (omega (arith, ints, sooner, straight))))
      (λ after. by_lt_z way.x0 edge.x1 (λ before. inr (upright-passes after before)) (λ far. inl (upright-misses far)))

-- an upright edge
module _ (edge way : Edge) (straight : edge.x0 ≡ edge.x1) where
  nothing : (x y : ℤ) → count (is_below edge x y) ≡ pos 0
  nothing x y = below-out edge x y (λ after before. omega (arith, ints, after, before, straight))

  nothing-back : (x y : ℤ) → count (is_below (reversed edge) x y) ≡ pos 0
  nothing-back x y = below-out (reversed edge) x y (λ after before. omega (arith, ints, after, before, straight))

  straight-jump : (c d : ℤ) → count (lies_under way (start_of edge)) ≡ c → count (lies_under way (end_of edge)) ≡ d → jump edge way ≡ (d -ℤ c)
  straight-jump c d first last =
      let p = nothing way.x1 way.y1 in
      let q = nothing way.x0 way.y0 in
      let r = nothing-back way.x1 way.y1 in
      let s = nothing-back way.x0 way.y0 in
      omega (arith, ints, p, q, r, s, first, last)

  -- a way that goes rightwards over it
  column-passes : way.x0 <ℤ way.x1 → way.x0 <ℤ edge.x0 → edge.x0 ≤ℤ way.x1 → Passed edge way
  column-passes ahead after before = record {
    low = int_lt (leftness way edge.x0 edge.y0) (pos 0);
    high = int_lt (leftness way edge.x1 edge.y1) (pos 0);
    first = pos 0 -ℤ leftness way edge.x0 edge.y0;
    last = pos 0 -ℤ leftness way edge.x1 edge.y1;
    jumps = straight-jump (count (int_lt (leftness way edge.x0 edge.y0) (pos 0))) (count (int_lt (leftness way edge.x1 edge.y1) (pos 0)))
        (under-in way (start_of edge) after before)
        (under-in way (end_of edge) (omega (arith, ints, after, straight)) (omega (arith, ints, before, straight)));
    low_true = λ e. let less = less_is (leftness way edge.x0 edge.y0) (pos 0) e in omega (arith, ints, less);
    low_false = λ e. let upto = less_not (leftness way edge.x0 edge.y0) (pos 0) e in omega (arith, ints, upto);
    high_true = λ e. let less = less_is (leftness way edge.x1 edge.y1) (pos 0) e in omega (arith, ints, less);
    high_false = λ e. let upto = less_not (leftness way edge.x1 edge.y1) (pos 0) e in omega (arith, ints, upto);
    meet = λ opposite. meet_comm way edge (meet-upright way edge ahead straight (omega (arith, ints, after)) before (turned (leftness way edge.x0 edge.y0) (leftness way edge.x1 edge.y1) opposite));
    left = λ c. let start = c.edge_start in let end = c.edge_end in (omega (arith, ints, start), omega (arith, ints, end));
    right = λ c. let start = c.edge_start in let end = c.edge_end in (omega (arith, ints, end), omega (arith, ints, start));
  }
    where
      turned : (a b : ℤ) → AreOpposite (pos 0 -ℤ a) (pos 0 -ℤ b) → AreOpposite a b
      turned a b (inl (first, last)) = inr (omega (arith, ints, first), omega (arith, ints, last))
      turned a b (inr (first, last)) = inl (omega (arith, ints, first), omega (arith, ints, last))

  column-misses : way.x0 ≤ℤ way.x1 → (way.x0 <ℤ edge.x0 → edge.x0 ≤ℤ way.x1 → ⊥) → Missed edge way
  column-misses order never = record {
    jumps = straight-jump (pos 0) (pos 0)
        (under-out way (start_of edge) never)
        (under-out way (end_of edge) (λ after before. never (omega (arith, ints, after, straight)) (omega (arith, ints, before, straight))));
    not_left = λ c.
        let meet = meet-boxes edge way (left-meet edge way c) in
        let x = meet.x.second in
        let x' = meet.x.first in
        let less = c.start in
        by_lt_z way.x0 edge.x0 (λ after. never after (omega (arith, ints, clamps, x, x', straight, order)))
        (λ upto. let none = upright-none edge way.x0 way.y0 straight (omega (arith, ints, clamps, x, x', upto, straight, order)) in omega (arith, ints, none, less));
    not_right = λ c.
        let meet = meet-boxes edge way (right-meet edge way c) in
        let x = meet.x.second in
        let x' = meet.x.first in
        let less = c.start in
        let is = leftness-reversed edge way.x0 way.y0 in
        by_lt_z way.x0 edge.x0 (λ after. never after (omega (arith, ints, clamps, x, x', straight, order)))
        (λ upto. let none = upright-none edge way.x0 way.y0 straight (omega (arith, ints, clamps, x, x', upto, straight, order)) in omega (arith, ints, none, less, is));
  }

  column : way.x0 ≤ℤ way.x1 → Beside edge way
  column order =
      by_lt_z way.x0 edge.x0
      (λ after. by_lt_z way.x1 edge.x0
      (λ far. inl (column-misses order (λ later before. omega (arith, ints, before, far))))
      (λ before. inr (column-passes (omega (arith, ints, after, before)) after before)))
      (λ upto. inl (column-misses order (λ later before. omega (arith, ints, later, upto))))

-- an edge that doesn't go leftwards, and any way that doesn't
beside : (edge way : Edge) → way.x0 ≤ℤ way.x1 → edge.x0 ≤ℤ edge.x1 → Beside edge way
beside edge way order along =
    by_lt_z edge.x0 edge.x1
    (λ onwards. by_lt_z way.x0 way.x1 (λ ahead. both-rightwards edge way onwards ahead) (λ upto. upright-way edge way onwards (omega (arith, ints, order, upto))))
    (λ upto. column edge way (omega (arith, ints, along, upto)) order)

-- ---- what follows

-- What the edge counts more at the end of the way than at its start, but for whether its ends lie under the way: nothing, or
-- they meet; 1 where the way crosses from its right to its left, and -1 where it crosses from its left to its right.
pub record Jumps (edge way : Edge) : Type 0 where
  pub none : (jump edge way ≡ pos 0) ⊎ Meet edge way
  pub left : CrossesLeft edge way → jump edge way ≡ pos 1
  pub right : CrossesRight edge way → jump edge way ≡ negsuc 0

missed-jumps : (edge way : Edge) → Missed edge way → Jumps edge way
missed-jumps edge way missed = record { none = inl missed.jumps; left = λ c. absurd (missed.not_left c); right = λ c. absurd (missed.not_right c) }

passed-jumps : (edge way : Edge) → Passed edge way → Jumps edge way
passed-jumps edge way passed = record {
  none = none passed.low passed.high refl refl;
  left = λ c. left (passed.left c) passed.low passed.high refl refl;
  right = λ c. right (passed.right c) passed.low passed.high refl refl;
}
  where
    by : (s t : Bool) → passed.low ≡ s → passed.high ≡ t → jump edge way ≡ (count t -ℤ count s)
    by s t low high = passed.jumps ∙ ap₂ (λ (a b : Bool). count a -ℤ count b) high low

    none : (s t : Bool) → passed.low ≡ s → passed.high ≡ t → (jump edge way ≡ pos 0) ⊎ Meet edge way
    none true true low high = inl (by true true low high)
    none false false low high = inl (by false false low high)
    none true false low high = inr (passed.meet (inr (passed.low_true low, passed.high_false high)))
    none false true low high = inr (passed.meet (inl (passed.low_false low, passed.high_true high)))

    left : (passed.first <ℤ pos 0) × (pos 0 <ℤ passed.last) → (s t : Bool) → passed.low ≡ s → passed.high ≡ t → jump edge way ≡ pos 1
    left (first, last) false true low high = by false true low high
    left (first, last) true t low high = let from = passed.low_true low in absurd (omega (arith, ints, from, first))
    left (first, last) false false low high = let upto = passed.high_false high in absurd (omega (arith, ints, upto, last))

    right : (pos 0 <ℤ passed.first) × (passed.last <ℤ pos 0) → (s t : Bool) → passed.low ≡ s → passed.high ≡ t → jump edge way ≡ negsuc 0
    right (first, last) true false low high = by true false low high
    right (first, last) false t low high = let upto = passed.low_false low in absurd (omega (arith, ints, upto, first))
    right (first, last) true true low high = let from = passed.high_true high in absurd (omega (arith, ints, from, last))

rightwards-jumps : (edge way : Edge) → way.x0 ≤ℤ way.x1 → edge.x0 ≤ℤ edge.x1 → Jumps edge way
rightwards-jumps edge way order along = by (beside edge way order along)
  where
    by : Beside edge way → Jumps edge way
    by (inl missed) = missed-jumps edge way missed
    by (inr passed) = passed-jumps edge way passed

-- an edge the other way round counts as much less
back-jump : (edge way : Edge) → jump edge way ≡ (pos 0 -ℤ jump (reversed edge) way)
back-jump edge way =
    by (gain edge way) (gain (reversed edge) way) (count (lies_under way (start_of edge))) (count (lies_under way (end_of edge)))
  where
    by : (a b c d : ℤ) → ((a -ℤ b) -ℤ (c -ℤ d)) ≡ (pos 0 -ℤ ((b -ℤ a) -ℤ (d -ℤ c)))
    by a b c d = omega (arith, ints)

-- so each edge counts
pub jumps : (edge way : Edge) → way.x0 ≤ℤ way.x1 → Jumps edge way
jumps edge way order =
    by_lt_z edge.x1 edge.x0
    (λ leftwards.
    let there = rightwards-jumps (reversed edge) way order (omega (arith, ints, leftwards)) in
    let is = back-jump edge way in record {
      none = turned there.none;
      left = λ c. let less = there.right c in omega (arith, ints, is, less);
      right = λ c. let more = there.left c in omega (arith, ints, is, more);
    })
    (λ along. rightwards-jumps edge way order along)
  where
    turned : (jump (reversed edge) way ≡ pos 0) ⊎ Meet (reversed edge) way → (jump edge way ≡ pos 0) ⊎ Meet edge way
    turned (inl none) = let is = back-jump edge way in inl (omega (arith, ints, is, none))
    turned (inr meet) = inr (meet-reversed edge way meet)
