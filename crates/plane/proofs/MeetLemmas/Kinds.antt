-- Edges that meet share one point, or a stretch of a line.
use Rattle.std.proofs.Common.{◌≡◌, ◌≢◌, ℕ, ◌*◌, ◌<◌, ◌≤◌, ℤ, pos, negsuc, suc, ◌+ℤ◌, ◌-ℤ◌, ◌*ℤ◌, ◌≤ℤ◌, ◌<ℤ◌, ◌⊎◌, arith, refl, ap, sym, subst, ◌∙◌, inl, inr, Bool, true, false, MatchBool}
use Rattle.std.specs.Int.{int_min, int_max}
use Rattle.std.proofs.lemmas.Int.{ints, clamps, by_lt_z}
use Rattle.std.proofs.Math.Nat.{le_of_mul-le-mul_left}
use Rattle.std.proofs.lemmas.Bool.{cases_from_iff}
use lib.Signed.{lt_z}
use borrow.Author.Differences.{up, down}
use Rattle.plane.specs.declared.edge.Edge.{Edge}
use Rattle.plane.specs.Meet.Edges.{RationalPoint, IsOf, Meet}
use Rattle.plane.specs.Meet.Kinds.{AreSame, IsEnd, IsOfBoth, ShareAtMostOne, ShareTwo, HasPoint, HasEndOf, RangesOverlap}
use Rattle.plane.proofs.MeetLemmas.Along.{Along, Lies, whole_point, is_of-end, starts, ends, lies, flipped, over, of-flipped, along-flipped, along_comm, start_on_line, end_on_line}
use Rattle.plane.proofs.MeetLemmas.Boxes.{meet-boxes, way_above, way_below}
use Rattle.plane.proofs.MeetLemmas.Identities.{Term, number, plus, minus, times, identity, same_of, scaled, unscaled}
use Rattle.plane.proofs.MeetLemmas.Shares.{whole, part_of_one, part_of_other, parts_of_meet, share_of_one}
use Rattle.plane.proofs.MeetLemmas.Tests.{part_of_none}

-- ---- whole points

-- The edge that is one point.
abbrev pub dot : ℤ → ℤ → Edge
dot x y = record { x0 = x; y0 = y; x1 = x; y1 = y }

-- where an edge goes nowhere, its shares are its start
stays : (n a : ℕ) (z : ℤ) → ((pos n *ℤ z) +ℤ (pos a *ℤ (z -ℤ z))) ≡ (pos n *ℤ z)
stays n a z =
    identity (plus (times (number (pos n)) (number z)) (times (number (pos a)) (minus (number z) (number z)))) (times (number (pos n)) (number z)) (omega arith)

pub has_point-of_meet : (edge : Edge) (x y : ℤ) → Meet edge (dot x y) → HasPoint edge x y
has_point-of_meet edge x y (point, of_edge, (a, at)) = (
  point,
  of_edge,
  record { x_is = at.x ∙ stays point.n a x; y_is = at.y ∙ stays point.n a y },
)

pub meet-of_has_point : (edge : Edge) (x y : ℤ) → HasPoint edge x y → Meet edge (dot x y)
meet-of_has_point edge x y (point, of_edge, at) =
    let of_dot : IsOf (dot x y) point = (
      0,
      record { share = omega arith; x = at.x_is ∙ sym (stays point.n 0 x); y = at.y_is ∙ sym (stays point.n 0 y) },
    ) in
    (point, of_edge, of_dot)

pub point_tested : (edge : Edge) (x y : ℤ) (r : Bool) → MatchBool r (Meet edge (dot x y)) (¬ (Meet edge (dot x y))) → MatchBool r (HasPoint edge x y) (¬ (HasPoint edge x y))
point_tested edge x y true meet = has_point-of_meet edge x y meet
point_tested edge x y false apart = λ has. apart (meet-of_has_point edge x y has)

-- what the tests of an edge's two ends say
pub end_tested : (one other : Edge) (r : Bool) → ¬ (HasPoint one other.x0 other.y0) → MatchBool r (HasPoint one other.x1 other.y1) (¬ (HasPoint one other.x1 other.y1)) → MatchBool r (HasEndOf one other) (¬ (HasEndOf one other))
end_tested one other true none has = inr has
end_tested one other false none neither = λ has. elim has [ inl start ↦ none start | inr end ↦ neither end ]

-- an end of the other edge that is of the one is of both
pub touch-of_end : (one other : Edge) → HasEndOf one other → (point : RationalPoint) × IsOfBoth one other point × IsEnd other point
touch-of_end one other (inl (point, of_one, at)) = (point, (of_one, is_of-end other point (inl at)), inl at)
touch-of_end one other (inr (point, of_one, at)) = (point, (of_one, is_of-end other point (inr at)), inr at)

-- and the other way round
pub has_end-of_point : (one other : Edge) (point : RationalPoint) → IsOf one point → IsEnd other point → HasEndOf one other
has_end-of_point one other point of_one (inl at) = inl (point, of_one, at)
has_end-of_point one other point of_one (inr at) = inr (point, of_one, at)

-- ---- one point alone

cancelled : (a b : ℕ) (k : ℤ) → k ≢ pos 0 → (pos a *ℤ k) ≡ (pos b *ℤ k) → a ≤ b
cancelled a b (pos d) some same =
    let fact = same_of (times (number (pos a)) (number (pos d))) (times (number (pos b)) (number (pos d))) same in
    le_of_mul-le-mul_left {m = a} {n = b} {k = d} (omega (arith, fact)) (omega (arith, ints, some))
cancelled a b (negsuc d) some same =
    let fact = same_of (times (number (pos a)) (number (negsuc d))) (times (number (pos b)) (number (negsuc d))) same in
    le_of_mul-le-mul_left {m = a} {n = b} {k = suc d} (omega (arith, fact)) (omega arith)

cancel : (a b : ℕ) (k : ℤ) → k ≢ pos 0 → (pos a *ℤ k) ≡ (pos b *ℤ k) → a ≡ b
cancel a b k some same = omega (arith, cancelled a b k some same, cancelled b a k some (sym same))

-- two shares of one part are the same share
same_share : (n m a b : ℕ) (part all : ℤ) → all ≢ pos 0 → (pos n *ℤ part) ≡ (pos a *ℤ all) → (pos m *ℤ part) ≡ (pos b *ℤ all) → m * a ≡ n * b
same_share n m a b part all some first second =
    let count : ℕ → Term = λ k. number (pos k) in
    let one = same_of (times (count n) (number part)) (times (count a) (number all)) first in
    let other = same_of (times (count m) (number part)) (times (count b) (number all)) second in
    cancel (m * a) (n * b) all some
    (identity (times (count (m * a)) (number all)) (times (count (n * b)) (number all)) (omega (arith, ap (λ k. m * k) one, ap (λ k. n * k) other)))

-- one share of a way, in two numbers of parts
same_place : (n m a b : ℕ) (start way : ℤ) → m * a ≡ n * b → (pos m *ℤ ((pos n *ℤ start) +ℤ (pos a *ℤ way))) ≡ (pos n *ℤ ((pos m *ℤ start) +ℤ (pos b *ℤ way)))
same_place n m a b start way same =
    let at : ℕ → ℕ → Term = λ k c. plus (times (number (pos k)) (number start)) (times (number (pos c)) (number way)) in
    identity (times (number (pos m)) (at n a)) (times (number (pos n)) (at m b)) (omega (arith, ap (λ k. k * up way) same, ap (λ k. k * down way) same))

-- edges that aren't parallel share one point at most
pub one-of_crossing : (one other : Edge) → whole one other ≢ pos 0 → ShareAtMostOne one other
one-of_crossing one other some first second of_first of_second =
    let at = of_first.0.1 in
    let back = of_second.0.1 in
    let share = same_share first.n second.n of_first.0.0 of_second.0.0 (part_of_one one other) (whole one other) some (share_of_one one other first of_first.0.0 of_first.1.0 at of_first.1.1) (share_of_one one other second of_second.0.0 of_second.1.0 back of_second.1.1) in
    record {
      x = ap (λ z. pos second.n *ℤ z) at.x ∙ same_place first.n second.n of_first.0.0 of_second.0.0 one.x0 (one.x1 -ℤ one.x0) share ∙ sym (ap (λ z. pos first.n *ℤ z) back.x);
      y = ap (λ z. pos second.n *ℤ z) at.y ∙ same_place first.n second.n of_first.0.0 of_second.0.0 one.y0 (one.y1 -ℤ one.y0) share ∙ sym (ap (λ z. pos first.n *ℤ z) back.y);
    }

-- the greater of two numbers is one of them, and so is the lesser
either_max : (a b : ℤ) → (int_max a b ≡ a) ⊎ (int_max a b ≡ b)
either_max a b = by_lt_z b a (λ less. inl (omega (arith, ints, clamps))) (λ upto. inr (omega (arith, ints, clamps)))

either_min : (a b : ℤ) → (int_min a b ≡ a) ⊎ (int_min a b ≡ b)
either_min a b = by_lt_z a b (λ less. inl (omega (arith, ints, clamps))) (λ upto. inr (omega (arith, ints, clamps)))

max_above : (n : ℕ) (a b z : ℤ) → (pos n *ℤ a) ≤ℤ z → (pos n *ℤ b) ≤ℤ z → (pos n *ℤ int_max a b) ≤ℤ z
max_above n a b z first second = elim (either_max a b) [
  | inl same ↦ subst (λ (m : ℤ). (pos n *ℤ m) ≤ℤ z) (sym same) first
  | inr same ↦ subst (λ (m : ℤ). (pos n *ℤ m) ≤ℤ z) (sym same) second
]

min_below : (n : ℕ) (a b z : ℤ) → z ≤ℤ (pos n *ℤ a) → z ≤ℤ (pos n *ℤ b) → z ≤ℤ (pos n *ℤ int_min a b)
min_below n a b z first second = elim (either_min a b) [
  | inl same ↦ subst (λ (m : ℤ). z ≤ℤ (pos n *ℤ m)) (sym same) first
  | inr same ↦ subst (λ (m : ℤ). z ≤ℤ (pos n *ℤ m)) (sym same) second
]

-- a share of a way lies between its ends
way_between : (n a : ℕ) (z start end : ℤ) → a ≤ n → z ≡ ((pos n *ℤ start) +ℤ (pos a *ℤ (end -ℤ start))) → ((pos n *ℤ int_min start end) ≤ℤ z) × (z ≤ℤ (pos n *ℤ int_max start end))
way_between n a z start end share at =
    let above = way_above n a (int_min start end) start end share (omega (arith, ints, clamps)) (omega (arith, ints, clamps)) in
    let below = way_below n a (int_max start end) start end share (omega (arith, ints, clamps)) (omega (arith, ints, clamps)) in
    (subst (λ (m : ℤ). (pos n *ℤ int_min start end) ≤ℤ m) (sym at) above, subst (λ (m : ℤ). m ≤ℤ (pos n *ℤ int_max start end)) (sym at) below)

-- The first number of two ranges that overlap, or meet in one number.
abbrev low_of : ℤ → ℤ → ℤ → ℤ → ℤ
low_of start end other_start other_end = int_max (int_min start end) (int_min other_start other_end)

abbrev high_of : ℤ → ℤ → ℤ → ℤ → ℤ
high_of start end other_start other_end = int_min (int_max start end) (int_max other_start other_end)

upto_of : (low high : ℤ) → ¬ (low <ℤ high) → high ≤ℤ low
upto_of low high none = by_lt_z low high (λ less. absurd (none less)) (λ upto. upto)

pressed : (n : ℕ) (z low high : ℤ) → high ≤ℤ low → (pos n *ℤ low) ≤ℤ z → z ≤ℤ (pos n *ℤ high) → z ≡ (pos n *ℤ low)
pressed n z low high upto above below =
    let fact = scaled n high low upto in
    omega (arith, ints)

-- what lies on two ways whose ranges share one number at most is that number
narrow : (n a b : ℕ) (z start end other_start other_end : ℤ) → a ≤ n → b ≤ n → ¬ (RangesOverlap start end other_start other_end) → z ≡ ((pos n *ℤ start) +ℤ (pos a *ℤ (end -ℤ start))) → z ≡ ((pos n *ℤ other_start) +ℤ (pos b *ℤ (other_end -ℤ other_start))) → z ≡ (pos n *ℤ low_of start end other_start other_end)
narrow n a b z start end other_start other_end share other_share apart at other_at =
    let one = way_between n a z start end share at in
    let other = way_between n b z other_start other_end other_share other_at in
    pressed n z (low_of start end other_start other_end) (high_of start end other_start other_end) (upto_of (low_of start end other_start other_end) (high_of start end other_start other_end) apart)
    (max_above n (int_min start end) (int_min other_start other_end) z one.0 other.0)
    (min_below n (int_max start end) (int_max other_start other_end) z one.1 other.1)

exchanged : (n m : ℕ) (z : ℤ) → (pos m *ℤ (pos n *ℤ z)) ≡ (pos n *ℤ (pos m *ℤ z))
exchanged n m z =
    identity (times (number (pos m)) (times (number (pos n)) (number z))) (times (number (pos n)) (times (number (pos m)) (number z))) (omega arith)

-- two points that are one whole point are the same
same_whole : (n m : ℕ) (z t w : ℤ) → z ≡ (pos n *ℤ w) → t ≡ (pos m *ℤ w) → (pos m *ℤ z) ≡ (pos n *ℤ t)
same_whole n m z t w first second = ap (λ k. pos m *ℤ k) first ∙ exchanged n m w ∙ sym (ap (λ k. pos n *ℤ k) second)

-- edges whose boxes share one point at most share one at most
pub one-of_boxes : (one other : Edge) → ¬ (RangesOverlap one.x0 one.x1 other.x0 other.x1) → ¬ (RangesOverlap one.y0 one.y1 other.y0 other.y1) → ShareAtMostOne one other
one-of_boxes one other apart level first second ((a, at), (b, other_at)) ((c, back), (d, other_back)) = record {
  x = same_whole first.n second.n first.x second.x (low_of one.x0 one.x1 other.x0 other.x1) (narrow first.n a b first.x one.x0 one.x1 other.x0 other.x1 at.share other_at.share apart at.x other_at.x) (narrow second.n c d second.x one.x0 one.x1 other.x0 other.x1 back.share other_back.share apart back.x other_back.x);
  y = same_whole first.n second.n first.y second.y (low_of one.y0 one.y1 other.y0 other.y1) (narrow first.n a b first.y one.y0 one.y1 other.y0 other.y1 at.share other_at.share level at.y other_at.y) (narrow second.n c d second.y one.y0 one.y1 other.y0 other.y1 back.share other_back.share level back.y other_back.y);
}

-- ---- more than one point

-- A point of both edges at this x.
record BothAt (one other : Edge) (x : ℤ) : Type 0 where
  point : RationalPoint
  both : IsOfBoth one other point
  at : point.x ≡ (pos point.n *ℤ x)

both_comm : (one other : Edge) (x : ℤ) → BothAt other one x → BothAt one other x
both_comm one other x found = record { point = found.point; both = (found.both.1, found.both.0); at = found.at }

both_at : (one other : Edge) (x y : ℤ) → Lies other x y → ((n : ℕ) (some : 0 < n) → IsOf one (whole_point n some x y)) → BothAt one other x
both_at one other x y found of_one = record {
  point = whole_point found.n found.some x y;
  both = (of_one found.n found.some, found.of_edge);
  at = refl {a = pos found.n *ℤ x};
}

-- of edges on one line, an end of the one whose x is in the other's range is of both
end_at : (one other : Edge) (x : ℤ) → other.x0 ≢ other.x1 → Along one other → int_min other.x0 other.x1 ≤ℤ x → x ≤ℤ int_max other.x0 other.x1 → (x ≡ one.x0) ⊎ (x ≡ one.x1) → BothAt one other x
end_at one other x apart along above upto (inl same) = subst (λ (z : ℤ). BothAt one other z) (sym same)
    (both_at one other one.x0 one.y0 (lies other one.x0 one.y0 apart (subst (λ (z : ℤ). int_min other.x0 other.x1 ≤ℤ z) same above) (subst (λ (z : ℤ). z ≤ℤ int_max other.x0 other.x1) same upto) (start_on_line one other along)) (starts one))
end_at one other x apart along above upto (inr same) = subst (λ (z : ℤ). BothAt one other z) (sym same)
    (both_at one other one.x1 one.y1 (lies other one.x1 one.y1 apart (subst (λ (z : ℤ). int_min other.x0 other.x1 ≤ℤ z) same above) (subst (λ (z : ℤ). z ≤ℤ int_max other.x0 other.x1) same upto) (end_on_line one other along)) (ends one))

-- the ends of what two ranges share are ends of them
ends_of_low : (start end other_start other_end : ℤ) → ((low_of start end other_start other_end ≡ start) ⊎ (low_of start end other_start other_end ≡ end)) ⊎ ((low_of start end other_start other_end ≡ other_start) ⊎ (low_of start end other_start other_end ≡ other_end))
ends_of_low start end other_start other_end = elim (either_max (int_min start end) (int_min other_start other_end)) [
  | inl same ↦ elim (either_min start end) [ inl first ↦ inl (inl (same ∙ first)) | inr second ↦ inl (inr (same ∙ second)) ]
  | inr same ↦ elim (either_min other_start other_end) [ inl first ↦ inr (inl (same ∙ first)) | inr second ↦ inr (inr (same ∙ second)) ]
]

ends_of_high : (start end other_start other_end : ℤ) → ((high_of start end other_start other_end ≡ start) ⊎ (high_of start end other_start other_end ≡ end)) ⊎ ((high_of start end other_start other_end ≡ other_start) ⊎ (high_of start end other_start other_end ≡ other_end))
ends_of_high start end other_start other_end = elim (either_min (int_max start end) (int_max other_start other_end)) [
  | inl same ↦ elim (either_max start end) [ inl first ↦ inl (inl (same ∙ first)) | inr second ↦ inl (inr (same ∙ second)) ]
  | inr same ↦ elim (either_max other_start other_end) [ inl first ↦ inr (inl (same ∙ first)) | inr second ↦ inr (inr (same ∙ second)) ]
]

-- where two ranges overlap, both go somewhere, and both ends of what they share are of both
record Overlap (start end other_start other_end low high : ℤ) : Type 0 where
  apart : start ≢ end
  other_apart : other_start ≢ other_end
  above : int_min start end ≤ℤ low
  upto : high ≤ℤ int_max start end
  other_above : int_min other_start other_end ≤ℤ low
  other_upto : high ≤ℤ int_max other_start other_end

overlap : (start end other_start other_end : ℤ) → RangesOverlap start end other_start other_end → Overlap start end other_start other_end (low_of start end other_start other_end) (high_of start end other_start other_end)
overlap start end other_start other_end some = record {
  apart = λ same. omega (arith, ints, clamps);
  other_apart = λ same. omega (arith, ints, clamps);
  above = omega (arith, ints, clamps);
  upto = omega (arith, ints, clamps);
  other_above = omega (arith, ints, clamps);
  other_upto = omega (arith, ints, clamps);
}

shared_at : (one other : Edge) (x low high : ℤ) → Along one other → Overlap one.x0 one.x1 other.x0 other.x1 low high → low ≤ℤ x → x ≤ℤ high → ((x ≡ one.x0) ⊎ (x ≡ one.x1)) ⊎ ((x ≡ other.x0) ⊎ (x ≡ other.x1)) → BothAt one other x
shared_at one other x low high along within above upto (inl end) =
    end_at one other x within.other_apart along (omega (arith, ints, within.other_above)) (omega (arith, ints, within.other_upto)) end
shared_at one other x low high along within above upto (inr end) =
    both_comm one other x (end_at other one x within.apart (along_comm one other along) (omega (arith, ints, within.above)) (omega (arith, ints, within.upto)) end)

-- points at two different x's are two
different : (first second : RationalPoint) (low high : ℤ) → low <ℤ high → first.x ≡ (pos first.n *ℤ low) → second.x ≡ (pos second.n *ℤ high) → ¬ (AreSame first second)
different first second low high less at other_at same =
    let all : (pos second.n *ℤ (pos first.n *ℤ low)) ≡ (pos first.n *ℤ (pos second.n *ℤ high)) = sym (ap (λ z. pos second.n *ℤ z) at) ∙ same.x ∙ ap (λ z. pos first.n *ℤ z) other_at in
    let turned : (pos second.n *ℤ (pos first.n *ℤ low)) ≡ (pos second.n *ℤ (pos first.n *ℤ high)) = all ∙ exchanged second.n first.n high in
    let once : (pos first.n *ℤ high) ≤ℤ (pos first.n *ℤ low) = unscaled second.n (pos first.n *ℤ high) (pos first.n *ℤ low) second.positive (omega (arith, ints, turned)) in
    let twice : high ≤ℤ low = unscaled first.n high low first.positive once in
    omega (arith, ints, less, twice)

-- edges along one line whose ranges of x overlap share two points
two-along_x : (one other : Edge) → Along one other → RangesOverlap one.x0 one.x1 other.x0 other.x1 → ShareTwo one other
two-along_x one other along some =
    let low = low_of one.x0 one.x1 other.x0 other.x1 in
    let high = high_of one.x0 one.x1 other.x0 other.x1 in
    let within = overlap one.x0 one.x1 other.x0 other.x1 some in
    let upto : low ≤ℤ high = omega (arith, ints, some) in
    let first = shared_at one other low low high along within (omega (arith, ints)) upto (ends_of_low one.x0 one.x1 other.x0 other.x1) in
    let second = shared_at one other high low high along within upto (omega (arith, ints)) (ends_of_high one.x0 one.x1 other.x0 other.x1) in
    (first.point, second.point, first.both, second.both, different first.point second.point low high some first.at second.at)

-- the same along y, by turning the plane over
different-flipped : (first second : RationalPoint) → ¬ (AreSame first second) → ¬ (AreSame (over first) (over second))
different-flipped first second apart same = apart (record { x = same.y; y = same.x })

two-flipped : (one other : Edge) → ShareTwo (flipped one) (flipped other) → ShareTwo one other
two-flipped one other (first, second, of_first, of_second, apart) =
    (over first, over second, (of-flipped one first of_first.0, of-flipped other first of_first.1), (of-flipped one second of_second.0, of-flipped other second of_second.1), different-flipped first second apart)

-- parallel edges that meet lie along one line
pub along-of_meet : (one other : Edge) → Meet one other → whole one other ≡ pos 0 → Along one other
along-of_meet one other meet parallel =
    let parts = parts_of_meet one other meet in
    record {
      parallel = parallel;
      of_one = part_of_none (part_of_one one other) (whole one other) parallel parts.0;
      of_other = part_of_none (part_of_other one other) (whole one other) parallel parts.1;
      boxes = meet-boxes one other meet;
    }

pub two-of_x : (one other : Edge) → Meet one other → whole one other ≡ pos 0 → RangesOverlap one.x0 one.x1 other.x0 other.x1 → ShareTwo one other
two-of_x one other meet parallel some = two-along_x one other (along-of_meet one other meet parallel) some

pub two-of_y : (one other : Edge) → Meet one other → whole one other ≡ pos 0 → RangesOverlap one.y0 one.y1 other.y0 other.y1 → ShareTwo one other
two-of_y one other meet parallel some = two-flipped one other (two-along_x (flipped one) (flipped other) (along-flipped one other (along-of_meet one other meet parallel)) some)

-- what the ranges of y tell where those of x don't overlap
pub two_tested : (one other : Edge) (r : Bool) → Meet one other → whole one other ≡ pos 0 → ¬ (RangesOverlap one.x0 one.x1 other.x0 other.x1) → MatchBool r (RangesOverlap one.y0 one.y1 other.y0 other.y1) (¬ (RangesOverlap one.y0 one.y1 other.y0 other.y1)) → MatchBool r (ShareTwo one other) (ShareAtMostOne one other)
two_tested one other true meet parallel apart some = two-of_y one other meet parallel some
two_tested one other false meet parallel apart level = one-of_boxes one other apart level

lt_is_true : (a b : ℤ) → a <ℤ b → lt_z a b ≡ true
lt_is_true a b below = grind (arith, ints)

lt_of_true : (a b : ℤ) → lt_z a b ≡ true → a <ℤ b
lt_of_true a b less = omega (arith, ints)

-- what the comparison of the ends of what two ranges share says
pub overlap_tested : (start end other_start other_end low high : ℤ) → low ≡ int_max (int_min start end) (int_min other_start other_end) → high ≡ int_min (int_max start end) (int_max other_start other_end) → MatchBool (lt_z low high) (RangesOverlap start end other_start other_end) (¬ (RangesOverlap start end other_start other_end))
overlap_tested start end other_start other_end low high low_is high_is =
    cases_from_iff {P = RangesOverlap start end other_start other_end} (
      λ less. rw (← low_is, ← high_is) (lt_of_true low high less),
      λ some. lt_is_true low high (rw (low_is, high_is) some),
    )
