-- Edges that meet have boxes that meet, and meeting is the same both ways.
use Rattle.std.proofs.Common.{◌≡◌, ℕ, ◌+◌, ◌-◌, ◌<◌, ◌≤◌, ℤ, pos, ◌+ℤ◌, ◌-ℤ◌, ◌*ℤ◌, ◌≤ℤ◌, arith, subst, sym, ◌∙◌, MatchBool, Bool, true, false}
use Rattle.std.proofs.lemmas.Bool.{cases_from_iff}
use lib.Signed.{le_z}
use Rattle.std.specs.Int.{int_min, int_max}
use Rattle.std.proofs.lemmas.Int.{ints, clamps}
use Rattle.std.proofs.Math.Nat.{mul-le-mul_left, sub-add_cancel}
use borrow.Author.Differences.{le_out}
use Rattle.plane.specs.declared.edge.Edge.{Edge}
use Rattle.plane.specs.Meet.Boxes.{RangesMeet, BoxesMeet, bounds_of}
use Rattle.plane.specs.Pairs.Bounds.{MeetInBoxes, MeetInBoxesAcross}
use Rattle.plane.specs.Meet.Edges.{Meet}
use Rattle.plane.proofs.MeetLemmas.Identities.{Term, number, plus, minus, times, at_most, unscaled}

-- edges meet whichever is named first
pub meet_comm : (one other : Edge) → Meet one other → Meet other one
meet_comm one other (point, first, second) = (point, second, first)

-- a number that isn't above both ends of a way isn't above what lies on it
parts_above : (a rest : ℕ) (low start end : ℤ) → low ≤ℤ start → low ≤ℤ end → (pos (rest + a) *ℤ low) ≤ℤ ((pos (rest + a) *ℤ start) +ℤ (pos a *ℤ (end -ℤ start)))
parts_above a rest low start end first second =
    let whole : Term = number (pos (rest + a)) in
    at_most (times whole (number low)) (plus (times whole (number start)) (times (number (pos a)) (minus (number end) (number start))))
    (omega (arith, mul-le-mul_left rest (le_out low start first), mul-le-mul_left a (le_out low end second)))

pub way_above : (n a : ℕ) (low start end : ℤ) → a ≤ n → low ≤ℤ start → low ≤ℤ end → (pos n *ℤ low) ≤ℤ ((pos n *ℤ start) +ℤ (pos a *ℤ (end -ℤ start)))
way_above n a low start end share first second =
    subst (λ (m : ℕ). (pos m *ℤ low) ≤ℤ ((pos m *ℤ start) +ℤ (pos a *ℤ (end -ℤ start)))) (sub-add_cancel share) (parts_above a (n - a) low start end first second)

-- and one that isn't below both ends isn't below it
parts_below : (a rest : ℕ) (high start end : ℤ) → start ≤ℤ high → end ≤ℤ high → ((pos (rest + a) *ℤ start) +ℤ (pos a *ℤ (end -ℤ start))) ≤ℤ (pos (rest + a) *ℤ high)
parts_below a rest high start end first second =
    let whole : Term = number (pos (rest + a)) in
    at_most (plus (times whole (number start)) (times (number (pos a)) (minus (number end) (number start)))) (times whole (number high))
    (omega (arith, mul-le-mul_left rest (le_out start high first), mul-le-mul_left a (le_out end high second)))

pub way_below : (n a : ℕ) (high start end : ℤ) → a ≤ n → start ≤ℤ high → end ≤ℤ high → ((pos n *ℤ start) +ℤ (pos a *ℤ (end -ℤ start))) ≤ℤ (pos n *ℤ high)
way_below n a high start end share first second =
    subst (λ (m : ℕ). ((pos m *ℤ start) +ℤ (pos a *ℤ (end -ℤ start))) ≤ℤ (pos m *ℤ high)) (sub-add_cancel share) (parts_below a (n - a) high start end first second)

-- what lies on two ways isn't below the lesser end of the one, nor above the greater end of the other
crosses : (n a b : ℕ) (start end other_start other_end : ℤ) → 0 < n → a ≤ n → b ≤ n → ((pos n *ℤ start) +ℤ (pos a *ℤ (end -ℤ start))) ≡ ((pos n *ℤ other_start) +ℤ (pos b *ℤ (other_end -ℤ other_start))) → int_min start end ≤ℤ int_max other_start other_end
crosses n a b start end other_start other_end some share other_share same =
    let least = int_min start end in
    let greatest = int_max other_start other_end in
    let above = way_above n a least start end share (omega (arith, ints, clamps)) (omega (arith, ints, clamps)) in
    let below = way_below n b greatest other_start other_end other_share (omega (arith, ints, clamps)) (omega (arith, ints, clamps)) in
    unscaled n least greatest some (omega (arith, ints))

ranges_meet : (n a b : ℕ) (start end other_start other_end : ℤ) → 0 < n → a ≤ n → b ≤ n → ((pos n *ℤ start) +ℤ (pos a *ℤ (end -ℤ start))) ≡ ((pos n *ℤ other_start) +ℤ (pos b *ℤ (other_end -ℤ other_start))) → RangesMeet start end other_start other_end
ranges_meet n a b start end other_start other_end some share other_share same = record {
  first = crosses n a b start end other_start other_end some share other_share same;
  second = crosses n b a other_start other_end start end some other_share share (sym same);
}

-- edges that meet have boxes that meet
pub meet-boxes : (one other : Edge) → Meet one other → BoxesMeet one other
meet-boxes one other (point, (a, first), (b, second)) = record {
  x = ranges_meet point.n a b one.x0 one.x1 other.x0 other.x1 point.positive first.share second.share (sym first.x ∙ second.x);
  y = ranges_meet point.n a b one.y0 one.y1 other.y0 other.y1 point.positive first.share second.share (sym first.y ∙ second.y);
}

-- as the sweep asks it of items with boxes
pub meet-in_boxes : MeetInBoxes bounds_of Meet
meet-in_boxes = record {
  proper = λ edge. record { wide = omega (arith, ints, clamps); tall = omega (arith, ints, clamps) };
  exchanged = meet_comm;
  near = λ one other meet.
      let boxes = meet-boxes one other meet in
      record { left = boxes.x.first; right = boxes.x.second; low = boxes.y.first; high = boxes.y.second };
}

pub meet-in_boxes_across : MeetInBoxesAcross bounds_of bounds_of Meet
meet-in_boxes_across = record { proper = meet-in_boxes.proper; other_proper = meet-in_boxes.proper; near = meet-in_boxes.near }

le_is_true : (a b : ℤ) → a ≤ℤ b → le_z a b ≡ true
le_is_true a b below = grind (arith, ints)

-- what the comparisons of two ranges' ends say
pub ranges_tested : (start end other_start other_end least greatest other_least other_greatest : ℤ) → least ≡ int_min start end → other_greatest ≡ int_max other_start other_end → other_least ≡ int_min other_start other_end → greatest ≡ int_max start end → le_z least other_greatest ≡ true → MatchBool (le_z other_least greatest) (RangesMeet start end other_start other_end) (¬ (RangesMeet start end other_start other_end))
ranges_tested start end other_start other_end least greatest other_least other_greatest least_is other_greatest_is other_least_is greatest_is first =
    cases_from_iff {P = RangesMeet start end other_start other_end} (
      λ second. record { first = omega (arith, ints); second = omega (arith, ints) },
      λ meet. le_is_true other_least greatest (omega (arith, ints, meet.second)),
    )

-- boxes whose ranges along x meet are left to the ranges along y
pub boxes_tested : (one other : Edge) (r : Bool) → RangesMeet one.x0 one.x1 other.x0 other.x1 → MatchBool r (RangesMeet one.y0 one.y1 other.y0 other.y1) (¬ (RangesMeet one.y0 one.y1 other.y0 other.y1)) → MatchBool r (BoxesMeet one other) (¬ (BoxesMeet one other))
boxes_tested one other true first second = record { x = first; y = second }
boxes_tested one other false first second = λ boxes. second boxes.y
