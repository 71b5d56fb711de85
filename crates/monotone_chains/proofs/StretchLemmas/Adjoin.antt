-- Where clear stretches adjoin.
use Rattle.std.proofs.Common.{◌≡◌, ◌⊎◌, inl, inr, ⊎_elim, ℤ, ◌≤ℤ◌, List, refl, ap, arith}
use Rattle.std.specs.List.{Contains}
use Rattle.std.proofs.lemmas.Int.{ints}
use Rattle.plane.specs.declared.edge.Edge.{Edge}
use Rattle.plane.specs.declared.point.Point.{Point}
use Rattle.plane.specs.Meet.Edges.{RationalPoint}
use Rattle.noding.specs.Chains.{Passes}
use Rattle.monotone_chains.specs.Stretches.{AreClear, GoesOn, IsStretch, chord}
use Rattle.noding.proofs.SnapLemmas.Rounding.{whole}
use Rattle.monotone_chains.proofs.StretchLemmas.Apart.{hulls-differ}
use Rattle.monotone_chains.proofs.StretchLemmas.Boxes.{BoxHas, IsTip, box-passed, outmost-tip, passed-near}
use Rattle.noding.proofs.SnapLemmas.Hulls.{IsNearHull}
use Rattle.monotone_chains.proofs.StretchLemmas.Placed.{LiesIn}

-- what is near the hulls of both is where one goes on as the other
pub near-adjoin : (s t : List Point) → AreClear s t → (point : RationalPoint) → IsNearHull s point → IsNearHull t point → GoesOn s t ⊎ GoesOn t s
near-adjoin s t (inl apart) point first second = absurd (hulls-differ s t apart point point first second (record { x = refl; y = refl }))
near-adjoin s t (inr goes) point first second = goes

-- the one goes on as the other at this x
abbrev pub GoesOnAt : List Point → List Point → ℤ → Type 0
GoesOnAt s t x = (goes : GoesOn s t) × (x ≡ goes.at.x)

goes_at : (s t : List Point) (x y : ℤ) → BoxHas s x y → BoxHas t x y → (goes : GoesOn s t) → x ≡ goes.at.x
goes_at s t x y box other goes =
    let (p, of, upto) = box.right in
    let (q, of_too, from) = other.left in
    let left : p.x ≤ℤ goes.at.x = ⊎_elim (λ same. let e = ap (λ (r : Point). r.x) same in omega (arith, ints, e)) (λ less. omega (arith, ints, less)) (goes.left p of) in
    let right : goes.at.x ≤ℤ q.x = ⊎_elim (λ same. let e = ap (λ (r : Point). r.x) same in omega (arith, ints, e)) (λ less. omega (arith, ints, less)) (goes.right q of_too) in
    omega (arith, ints, upto, from, left, right)

-- what both chords pass has the x at which one stretch goes on as the other
pub passed-goes : (s t : List Point) → IsStretch s → IsStretch t → AreClear s t → (x y : ℤ) → Passes (chord s) x y → Passes (chord t) x y → GoesOnAt s t x ⊎ GoesOnAt t s x
passed-goes s t is is_too clear x y passes passes_too =
    go (near-adjoin s t clear (whole x y) (passed-near s is x y passes) (passed-near t is_too x y passes_too))
  where
    go : GoesOn s t ⊎ GoesOn t s → GoesOnAt s t x ⊎ GoesOnAt t s x
    go (inl goes) = inl (goes, goes_at s t x y (box-passed s is x y passes) (box-passed t is_too x y passes_too) goes)
    go (inr back) = inr (back, goes_at t s x y (box-passed t is_too x y passes_too) (box-passed s is x y passes) back)

-- at x they share a point, at which each has no other one, and which is an end of both chords
pub record Adjoin (s t : List Point) (x : ℤ) : Type 0 where
  pub at : Point
  pub x_is : x ≡ at.x
  pub of : Contains s at
  pub of_other : Contains t at
  pub only : (p : Point) → Contains s p → p.x ≡ at.x → p ≡ at
  pub only_other : (p : Point) → Contains t p → p.x ≡ at.x → p ≡ at
  pub tip : IsTip s at
  pub tip_other : IsTip t at

pub Adjoin-exchanged : (s t : List Point) (x : ℤ) → Adjoin s t x → Adjoin t s x
Adjoin-exchanged s t x adjoin = record {
  at = adjoin.at;
  x_is = adjoin.x_is;
  of = adjoin.of_other;
  of_other = adjoin.of;
  only = adjoin.only_other;
  only_other = adjoin.only;
  tip = adjoin.tip_other;
  tip_other = adjoin.tip;
}

-- where one goes on as the other they adjoin there
pub adjoin-on : (s t : List Point) → IsStretch s → IsStretch t → (x : ℤ) → GoesOnAt s t x → Adjoin s t x
adjoin-on s t is is_too x (goes, same) = record {
  at = goes.at;
  x_is = same;
  of = goes.of;
  of_other = goes.of_others;
  only = λ p held level. ⊎_elim (λ one. one) (λ less. absurd (omega (arith, ints, less, level))) (goes.left p held);
  only_other = λ p held level. ⊎_elim (λ one. one) (λ less. absurd (omega (arith, ints, less, level))) (goes.right p held);
  tip = outmost-tip s is goes.at goes.of (inl goes.left);
  tip_other = outmost-tip t is_too goes.at goes.of_others (inr goes.right);
}

-- so they do at what both chords pass
pub passed-adjoin : (s t : List Point) → IsStretch s → IsStretch t → AreClear s t → (x y : ℤ) → Passes (chord s) x y → Passes (chord t) x y → Adjoin s t x
passed-adjoin s t is is_too clear x y passes passes_too =
    ⊎_elim (λ goes. adjoin-on s t is is_too x goes) (λ back. Adjoin-exchanged t s x (adjoin-on t s is_too is x back)) (passed-goes s t is is_too clear x y passes passes_too)

-- ---- by columns

-- so what lies along the other begins there, too
pub lies-right : (s t : List Point) → IsStretch t → (goes : GoesOn s t) (edge : Edge) → LiesIn t edge → (goes.at.x ≤ℤ edge.x0) × (goes.at.x ≤ℤ edge.x1)
lies-right s t is goes edge (from, to) = (at_least edge.x0 edge.y0 from, at_least edge.x1 edge.y1 to)
  where
    at_least : (x y : ℤ) → Passes (chord t) x y → goes.at.x ≤ℤ x
    at_least x y passes =
        let (p, held, upto) = (box-passed t is x y passes).left in
        ⊎_elim (λ same. let e = ap (λ (q : Point). q.x) same in omega (arith, ints, upto, e)) (λ less. omega (arith, ints, upto, less)) (goes.right p held)

pub lies-left : (s t : List Point) → IsStretch s → (goes : GoesOn s t) (edge : Edge) → LiesIn s edge → (edge.x0 ≤ℤ goes.at.x) × (edge.x1 ≤ℤ goes.at.x)
lies-left s t is goes edge (from, to) = (at_most_there edge.x0 edge.y0 from, at_most_there edge.x1 edge.y1 to)
  where
    at_most_there : (x y : ℤ) → Passes (chord s) x y → x ≤ℤ goes.at.x
    at_most_there x y passes =
        let (p, held, upto) = (box-passed s is x y passes).right in
        ⊎_elim (λ same. let e = ap (λ (q : Point). q.x) same in omega (arith, ints, upto, e)) (λ less. omega (arith, ints, upto, less)) (goes.left p held)
