-- Tests of spans: as a sweep asks them, and how they turn out.
use Rattle.std.proofs.Common.{◌≡◌, ◌⊎◌, inl, inr, Bool, true, false, ℤ, pos, ◌+ℤ◌, cond, ◌<ℤ◌, ◌≤ℤ◌, IsTrue, ap, ap₂, subst, arith, rules}
use Rattle.std.specs.Bool.{OnTrue}
use Rattle.std.specs.Int.{int_max, int_min}
use Rattle.std.specs.Int.Signed.{lt_z}
use Rattle.std.proofs.lemmas.Bool.{OnTrue_at, OnTrue_from}
use Rattle.std.proofs.lemmas.Int.{by_lt_z, clamps, ints}
use Rattle.plane.specs.declared.point.Point.{Point}
use Rattle.plane.specs.Pairs.Bounds.{MeetInBoxes}
use Rattle.monotone_chains.specs.Stretches.Spans.{AreSeveral, LeadsTo, SpansMeet, beside, bounds_of_span}
use Rattle.monotone_chains.specs.declared.stretches.spans.Span.{Span}

-- ---- as the sweep asks it

beside-from : (side : ℤ) → side ≤ℤ beside side
beside-from side = by (lt_z side (pos 2147483647))
  where
    by : (b : Bool) → side ≤ℤ cond b (side +ℤ pos 1) side
    by true = omega (arith, ints)
    by false = omega (arith, ints)

-- what lies beyond the next number lies more than a unit away
beside-beyond : (side z : ℤ) → z ≤ℤ pos 2147483647 → beside side <ℤ z → (side +ℤ pos 1) <ℤ z
beside-beyond side z fits =
    by_lt_z side (pos 2147483647)
    (λ less. λ beyond. subst (λ (b : Bool). cond b (side +ℤ pos 1) side <ℤ z) (true_of less) beyond)
    (λ most. λ beyond. let from = beside-from side in absurd (omega (arith, ints, most, fits, beyond, from)))
  where
    true_of : side <ℤ pos 2147483647 → lt_z side (pos 2147483647) ≡ true
    true_of less = search rules

wider : (a b : ℤ) → int_min a b ≤ℤ beside (int_max a b)
wider a b = let from = beside-from (int_max a b) in omega (arith, ints, clamps, from)

pub apart-boxes : (a b c d : ℤ) → c ≤ℤ pos 2147483647 → beside (int_max a b) <ℤ int_min c d → (b +ℤ pos 1) <ℤ c
apart-boxes a b c d fits beyond =
    let least : int_min c d ≤ℤ pos 2147483647 = omega (arith, ints, clamps, fits) in
    let more = beside-beyond (int_max a b) (int_min c d) least beyond in
    omega (arith, ints, clamps, more)

pub spans-in_boxes : MeetInBoxes bounds_of_span SpansMeet
spans-in_boxes = record {
  proper = λ span. record { wide = wider span.left.x span.right.x; tall = wider span.low span.high };
  exchanged = λ one other meet. let boxes = meet.near.boxes in record {
    near = record {
      several = exchange one other meet.near.several;
      boxes = record { left = boxes.right; right = boxes.left; low = boxes.high; high = boxes.low };
    };
    apart = λ either. meet.apart (turn one other either);
  };
  near = λ one other meet. meet.near.boxes;
}
  where
    exchange : (one other : Span) → AreSeveral one other → AreSeveral other one
    exchange one other (inl is) = inr is
    exchange one other (inr is) = inl is

    turn : (one other : Span) → LeadsTo other one ⊎ LeadsTo one other → LeadsTo one other ⊎ LeadsTo other one
    turn one other (inl leads) = inr leads
    turn one other (inr leads) = inl leads

-- what a test shows shows what follows from that
pub OnTrue-weaker : (b : Bool) (P Q : Type 0) → (P → Q) → OnTrue b P → OnTrue b Q
OnTrue-weaker b P Q makes is = OnTrue_from b Q (λ set. makes (OnTrue_at set is))

-- ---- tests

same_point : (p q : Point) → p.x ≡ q.x → p.y ≡ q.y → p ≡ q
same_point p q x y = ap₂ (λ (a b : ℤ). let point : Point = record { x = a; y = b } in point) x y

equal_or : (a b : ℤ) → (a ≡ b) ⊎ (a ≡ b → ⊥)
equal_or a b =
    by_lt_z a b (λ below. inr (λ same. omega (arith, ints, below, same)))
    (λ upto. by_lt_z b a (λ above. inr (λ same. omega (arith, ints, above, same))) (λ from. inl (omega (arith, ints, upto, from))))

bool_or : (b : Bool) → IsTrue b ⊎ (IsTrue b → ⊥)
bool_or true = inl (search rules)
bool_or false = inr (λ is. (let h = is in search rules))

same_or : (p q : Point) → (p ≡ q) ⊎ (p ≡ q → ⊥)
same_or p q = elim (equal_or p.x q.x) [
  | inl x ↦ elim (equal_or p.y q.y) [
    | inl y ↦ inl (same_point p q x y)
    | inr differs ↦ inr (λ same. differs (ap (λ (r : Point). r.y) same))
  ]
  | inr differs ↦ inr (λ same. differs (ap (λ (r : Point). r.x) same))
]

pub leads_or : (one other : Span) → LeadsTo one other ⊎ (LeadsTo one other → ⊥)
leads_or one other = elim (bool_or one.closes) [
  | inl closes ↦ elim (bool_or other.opens) [
    | inl opens ↦ elim (same_or one.right other.left) [
      | inl same ↦ inl (record { closes = closes; opens = opens; at = same })
      | inr differs ↦ inr (λ leads. differs leads.at)
    ]
    | inr none ↦ inr (λ leads. none leads.opens)
  ]
  | inr none ↦ inr (λ leads. none leads.closes)
]
