-- Edges that share an end, and pass no other one of each other where their boxes have one point in common.
use Rattle.std.proofs.Common.{◌≡◌, ◌⊎◌, inl, inr, ℤ, ◌≤ℤ◌, Bool, ◌&&◌, not, true, false, refl, sym, subst, ⊎_elim, arith}
use Rattle.std.specs.Bool.{MatchBool, OnTrue}
use Rattle.std.specs.Int.{int_min, int_max}
use Rattle.std.proofs.lemmas.Int.{clamps, ints}
use Rattle.plane.specs.declared.edge.Edge.{Edge}
use Rattle.plane.specs.declared.pairs.items.Bounds.{Bounds}
use Rattle.plane.specs.Meet.Boxes.{bounds_of}
use Rattle.plane.specs.Pairs.Bounds.{BoundsMeet}
use Rattle.noding.specs.Chains.{IsEnd}
use Rattle.noding.specs.Close.{ComeClose, HaveOnePoint, InBox, LieApart, LieNear, PassesEnd, PassesInside, ShareEnd}
use Rattle.noding.proofs.SnapLemmas.Along.{Passes-end, Passes-in_box, Passes-start}
use Rattle.noding.proofs.SnapLemmas.Apart.{near-passed}

-- ends of an edge are in its box
end_in_box : (edge : Edge) (x y : ℤ) → IsEnd edge x y → InBox edge x y
end_in_box edge x y (inl (same_x, same_y)) = subst (λ (a : ℤ). InBox edge a y) (sym same_x) (subst (λ (b : ℤ). InBox edge edge.x0 b) (sym same_y) (Passes-in_box edge edge.x0 edge.y0 (Passes-start edge)))
end_in_box edge x y (inr (same_x, same_y)) = subst (λ (a : ℤ). InBox edge a y) (sym same_x) (subst (λ (b : ℤ). InBox edge edge.x1 b) (sym same_y) (Passes-in_box edge edge.x1 edge.y1 (Passes-end edge)))

module _ (one other : Edge) (alone : HaveOnePoint (bounds_of one) (bounds_of other)) where
  -- then an end of the other one that the edge passes is the shared one
  none_beside : (x y : ℤ) → ShareEnd one other → IsEnd other x y → ¬ (PassesInside one x y)
  none_beside x y (end_x, end_y, of_one, of_other) end (passes, inside) =
      let (same_x, same_y) = alone end_x end_y x y (end_in_box one end_x end_y of_one) (end_in_box other end_x end_y of_other) (Passes-in_box one x y passes) (end_in_box other x y end) in
      inside (subst (λ (a : ℤ). IsEnd one a y) same_x (subst (λ (b : ℤ). IsEnd one end_x b) same_y of_one))

  no_end : ShareEnd one other → ¬ (PassesEnd one other)
  no_end shared (inl passes) = none_beside other.x0 other.y0 shared (inl (refl, refl)) passes
  no_end shared (inr passes) = none_beside other.x1 other.y1 shared (inr (refl, refl)) passes

one_point-exchanged : (first second : Bounds) → HaveOnePoint first second → HaveOnePoint second first
one_point-exchanged first second alone x y other_x other_y of_first of_second of_first_too of_second_too = alone x y other_x other_y of_second of_first of_second_too of_first_too

-- so neither passes an end of the other
pub none-beside : (one other : Edge) → ShareEnd one other → HaveOnePoint (bounds_of one) (bounds_of other) → ¬ (PassesEnd one other ⊎ PassesEnd other one)
none-beside one other shared alone =
    let (x, y, of_one, of_other) = shared in
    ⊎_elim (no_end one other alone shared) (no_end other one (one_point-exchanged (bounds_of one) (bounds_of other) alone) (x, y, of_other, of_one))

-- the sides of boxes that have one point in common at most
pub HaveOnePoint-sides : (first second : Bounds) → int_min first.right second.right ≤ℤ int_max first.left second.left → int_min first.high second.high ≤ℤ int_max first.low second.low → HaveOnePoint first second
HaveOnePoint-sides first second across up x y other_x other_y of_first of_second of_first_too of_second_too = (
  same first.left first.right second.left second.right x other_x across of_first.left of_first.right of_second.left of_second.right of_first_too.left of_first_too.right of_second_too.left of_second_too.right,
  same first.low first.high second.low second.high y other_y up of_first.low of_first.high of_second.low of_second.high of_first_too.low of_first_too.high of_second_too.low of_second_too.high,
)
  where
    same : (a b c d x z : ℤ) → int_min b d ≤ℤ int_max a c → a ≤ℤ x → x ≤ℤ b → c ≤ℤ x → x ≤ℤ d → a ≤ℤ z → z ≤ℤ b → c ≤ℤ z → z ≤ℤ d → x ≡ z
    same a b c d x z near x1 x2 x3 x4 z1 z2 z3 z4 = omega (arith, ints, clamps)

-- ---- tests

-- edges that share an end come close where one passes an end of the other
pub shared_tested : (one other : Edge) (r : Bool) → ShareEnd one other → MatchBool r (PassesEnd one other ⊎ PassesEnd other one) (¬ (PassesEnd one other ⊎ PassesEnd other one)) → MatchBool r (ComeClose one other) (¬ (ComeClose one other))
shared_tested one other true shared is = inr is
shared_tested one other false shared none = ⊎_elim (λ apart. apart.0 shared) none

-- others come close where they lie near each other: an end that is passed is passed by both
pub near-end : (one other : Edge) → PassesEnd one other → LieNear one other
near-end one other (inl passes) = near-passed one other other.x0 other.y0 passes.0 (Passes-start other)
near-end one other (inr passes) = near-passed one other other.x1 other.y1 passes.0 (Passes-end other)

pub LieNear-exchanged : (one other : Edge) → LieNear one other → LieNear other one
LieNear-exchanged one other (box, near) = (
  record {
    left = box.right;
    right = box.left;
    low = box.high;
    high = box.low;
  },
  λ apart. near (⊎_elim inr inl apart),
)

pub close-near : (one other : Edge) → ComeClose one other → LieNear one other
close-near one other (inl apart) = apart.1
close-near one other (inr (inl passes)) = near-end one other passes
close-near one other (inr (inr passes)) = LieNear-exchanged other one (near-end other one passes)

pub far_apart : (one other : Edge) → ¬ (ShareEnd one other) → ¬ (BoundsMeet (bounds_of one) (bounds_of other)) → ¬ (ComeClose one other)
far_apart one other none far close = far (close-near one other close).0

pub apart_tested : (one other : Edge) (r : Bool) → ¬ (ShareEnd one other) → BoundsMeet (bounds_of one) (bounds_of other) → MatchBool r (LieApart one other) (¬ (LieApart one other)) → MatchBool (not r) (ComeClose one other) (¬ (ComeClose one other))
apart_tested one other true none box apart = λ close. (close-near one other close).1 apart
apart_tested one other false none box near = inl (none, (box, near))

-- two comparisons of which both are made
pub OnTrue-both : (first second : Bool) {P : Type 0} → (first ≡ true → second ≡ true → P) → OnTrue (first && second) P
OnTrue-both true true holds = holds refl refl
OnTrue-both true false holds = tt
OnTrue-both false second holds = tt
