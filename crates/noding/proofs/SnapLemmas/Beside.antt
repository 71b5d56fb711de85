-- What an edge passes lies beside its line: no further than half a unit on both axes.
use Rattle.std.proofs.Common.{◌⊎◌, inl, inr, sym, ap₂, ◌∙◌, subst₂, ◌≡◌, zero, suc, ℤ, pos, ◌+ℤ◌, ◌-ℤ◌, ◌*ℤ◌, ◌≤ℤ◌, List, [], ◌∷◌, subst, arith, refl}
use Rattle.std.specs.List.{Contains}
use Rattle.std.proofs.lemmas.Int.{ints}
use Rattle.plane.specs.declared.edge.Edge.{Edge}
use Rattle.plane.specs.declared.point.Point.{Point}
use Rattle.plane.proofs.MeetLemmas.Identities.{identity, minus, number, plus, times}
use Rattle.plane.specs.Meet.Crosses.{cross}
use Rattle.noding.specs.Chains.{IsEnd, Passes}
use Rattle.noding.specs.Close.{PassesEnd, ShareEnd}
use Rattle.noding.specs.Near.{IsNear}
use Rattle.plane.specs.Ends.{edge_between, end_of, start_of}
use Rattle.plane.specs.Lines.{height_over, margin_of}
use Rattle.noding.specs.Windings.{further}
use Rattle.noding.proofs.SnapLemmas.Along.{from_at}
use Rattle.noding.proofs.SnapLemmas.Near.{IsNear-piece}
use Rattle.noding.proofs.SnapLemmas.Numbers.{abs-negative, n_of}
use Rattle.noding.proofs.SnapLemmas.Rounding.{whole}
use Rattle.noding.proofs.SnapLemmas.Hulls.{IsNearHull, near-hull, over}

-- both ends of a line lie equally far in the direction across it
across : (x0 y0 x1 y1 : ℤ) → (((pos 0 -ℤ (y1 -ℤ y0)) *ℤ x1) +ℤ ((x1 -ℤ x0) *ℤ y1)) ≡ (((pos 0 -ℤ (y1 -ℤ y0)) *ℤ x0) +ℤ ((x1 -ℤ x0) *ℤ y0))
across x0 y0 x1 y1 =
    let run = minus (number x1) (number x0) in
    let back = minus (n_of 0) (minus (number y1) (number y0)) in
    identity (plus (times back (number x1)) (times run (number y1))) (plus (times back (number x0)) (times run (number y0))) (omega arith)

-- and so in the other one
pub turned : (u v x y : ℤ) → (((pos 0 -ℤ u) *ℤ x) +ℤ ((pos 0 -ℤ v) *ℤ y)) ≡ pos 0 -ℤ ((u *ℤ x) +ℤ (v *ℤ y))
turned u v x y =
    identity (plus (times (minus (n_of 0) (number u)) (number x)) (times (minus (n_of 0) (number v)) (number y))) (minus (n_of 0) (plus (times (number u) (number x)) (times (number v) (number y)))) (omega arith)

module _ (edge : Edge) (x y : ℤ) (passes : Passes edge x y) where
  abbrev point : Point
  point = record { x = x; y = y }

  abbrev ends : List Point
  ends = start_of edge ∷ end_of edge ∷ []

  near : IsNear edge (whole x y)
  near = IsNear-piece edge (edge_between point point) (whole x y) passes passes (0, from_at (edge_between point point))

  hull : IsNearHull ends (whole x y)
  hull = near-hull ends edge (whole x y) (0, omega arith, refl) (1, omega arith, refl) near

  abbrev u : ℤ
  u = pos 0 -ℤ (edge.y1 -ℤ edge.y0)

  abbrev v : ℤ
  v = edge.x1 -ℤ edge.x0

  abbrev at : ℤ
  at = (u *ℤ edge.x0) +ℤ (v *ℤ edge.y0)

  level : (p : Point) → Contains ends p → further u v p ≡ at
  level p (zero, within, is) = subst (λ (q : Point). further u v q ≡ at) is refl
  level p (suc zero, within, is) = subst (λ (q : Point). further u v q ≡ at) is (across edge.x0 edge.y0 edge.x1 edge.y1)
  level p (suc (suc k), within, is) = absurd (omega (arith, within))

  pub passed-upto : (pos 2 *ℤ height_over edge point) ≤ℤ margin_of edge
  passed-upto =
      let most = hull u v at (λ p held. let same = level p held in omega (arith, ints, same)) in
      let is = over edge.x0 edge.y0 edge.x1 edge.y1 x y in
      let size = abs-negative (edge.y1 -ℤ edge.y0) in
      omega (arith, ints, most, is, size)

  pub passed-from : (pos 0 -ℤ margin_of edge) ≤ℤ (pos 2 *ℤ height_over edge point)
  passed-from =
      let most = hull (pos 0 -ℤ u) (pos 0 -ℤ v) (pos 0 -ℤ at) (λ p held. let same = level p held in let back = turned u v p.x p.y in omega (arith, ints, same, back)) in
      let is = over edge.x0 edge.y0 edge.x1 edge.y1 x y in
      let back = turned u v x y in
      let size = abs-negative (edge.y1 -ℤ edge.y0) in
      let size_too = abs-negative u in
      let size_along = abs-negative v in
      omega (arith, ints, most, is, back, size, size_too, size_along)

-- ---- edges that share an end

-- how far a point lies over a line is told from either end of it
from_either : (x0 y0 x1 y1 p q x y : ℤ) → ((p ≡ x0) × (q ≡ y0)) ⊎ ((p ≡ x1) × (q ≡ y1))
    → (((x1 -ℤ x0) *ℤ (y -ℤ y0)) -ℤ ((y1 -ℤ y0) *ℤ (x -ℤ x0))) ≡ (((x1 -ℤ x0) *ℤ (y -ℤ q)) -ℤ ((y1 -ℤ y0) *ℤ (x -ℤ p)))
from_either x0 y0 x1 y1 p q x y (inl (at_x, at_y)) = ap₂ (λ (a b : ℤ). ((x1 -ℤ x0) *ℤ (y -ℤ b)) -ℤ ((y1 -ℤ y0) *ℤ (x -ℤ a))) (sym at_x) (sym at_y)
from_either x0 y0 x1 y1 p q x y (inr (at_x, at_y)) =
    let run = minus (number x1) (number x0) in
    let rise = minus (number y1) (number y0) in
    identity (minus (times run (minus (number y) (number y0))) (times rise (minus (number x) (number x0))))
    (minus (times run (minus (number y) (number y1))) (times rise (minus (number x) (number x1)))) (omega arith)
    ∙ ap₂ (λ (a b : ℤ). ((x1 -ℤ x0) *ℤ (y -ℤ b)) -ℤ ((y1 -ℤ y0) *ℤ (x -ℤ a))) (sym at_x) (sym at_y)

back : (u v p q x y : ℤ) → ((u *ℤ (y -ℤ q)) -ℤ (v *ℤ (x -ℤ p))) ≡ pos 0 -ℤ ((u *ℤ (q -ℤ y)) -ℤ (v *ℤ (p -ℤ x)))
back u v p q x y =
    identity (minus (times (number u) (minus (number y) (number q))) (times (number v) (minus (number x) (number p))))
    (minus (n_of 0) (minus (times (number u) (minus (number q) (number y))) (times (number v) (minus (number p) (number x))))) (omega arith)

-- the cross product of the ways of two edges
abbrev pub between_ways : Edge → Edge → ℤ
between_ways one other = cross (one.x1 -ℤ one.x0) (one.y1 -ℤ one.y0) (other.x1 -ℤ other.x0) (other.y1 -ℤ other.y0)

abbrev IsSpread : Edge → Edge → ℤ → ℤ → Type 0
IsSpread one other x y = (height_over one (record { x = x; y = y }) ≡ between_ways one other) ⊎ (height_over one (record { x = x; y = y }) ≡ pos 0 -ℤ between_ways one other)

-- the far end of the other edge lies that far over the one
far_start : (one other : Edge) (x y : ℤ) → IsEnd one x y → IsEnd other x y → ¬ (IsEnd one other.x0 other.y0) → IsSpread one other other.x0 other.y0
far_start one other x y of_one (inl (at_x, at_y)) far = absurd (far (subst₂ (λ (a b : ℤ). IsEnd one a b) at_x at_y of_one))
far_start one other x y of_one (inr (at_x, at_y)) far =
    inr (from_either one.x0 one.y0 one.x1 one.y1 x y other.x0 other.y0 of_one
    ∙ ap₂ (λ (a b : ℤ). ((one.x1 -ℤ one.x0) *ℤ (other.y0 -ℤ b)) -ℤ ((one.y1 -ℤ one.y0) *ℤ (other.x0 -ℤ a))) at_x at_y
    ∙ back (one.x1 -ℤ one.x0) (one.y1 -ℤ one.y0) other.x1 other.y1 other.x0 other.y0)

far_end : (one other : Edge) (x y : ℤ) → IsEnd one x y → IsEnd other x y → ¬ (IsEnd one other.x1 other.y1) → IsSpread one other other.x1 other.y1
far_end one other x y of_one (inr (at_x, at_y)) far = absurd (far (subst₂ (λ (a b : ℤ). IsEnd one a b) at_x at_y of_one))
far_end one other x y of_one (inl (at_x, at_y)) far =
    inl (from_either one.x0 one.y0 one.x1 one.y1 x y other.x1 other.y1 of_one
    ∙ ap₂ (λ (a b : ℤ). ((one.x1 -ℤ one.x0) *ℤ (other.y1 -ℤ b)) -ℤ ((one.y1 -ℤ one.y0) *ℤ (other.x1 -ℤ a))) at_x at_y)

-- where the one passes that end they aren't far apart
within : (one other : Edge) (x y : ℤ) → IsSpread one other x y → Passes one x y → ((pos 2 *ℤ between_ways one other) ≤ℤ margin_of one) × ((pos 0 -ℤ margin_of one) ≤ℤ (pos 2 *ℤ between_ways one other))
within one other x y (inl same) passes =
    let upto = passed-upto one x y passes in let from = passed-from one x y passes in (omega (arith, ints, same, upto), omega (arith, ints, same, from))
within one other x y (inr same) passes =
    let upto = passed-upto one x y passes in let from = passed-from one x y passes in (omega (arith, ints, same, from), omega (arith, ints, same, upto))

pub passes-narrow : (one other : Edge) → ShareEnd one other → PassesEnd one other → ((pos 2 *ℤ between_ways one other) ≤ℤ margin_of one) × ((pos 0 -ℤ margin_of one) ≤ℤ (pos 2 *ℤ between_ways one other))
passes-narrow one other (x, y, of_one, of_other) (inl (passes, far)) = within one other other.x0 other.y0 (far_start one other x y of_one of_other far) passes
passes-narrow one other (x, y, of_one, of_other) (inr (passes, far)) = within one other other.x1 other.y1 (far_end one other x y of_one of_other far) passes

pub ways-exchanged : (one other : Edge) → between_ways other one ≡ pos 0 -ℤ between_ways one other
ways-exchanged one other =
    let u = minus (number one.x1) (number one.x0) in let v = minus (number one.y1) (number one.y0) in
    let p = minus (number other.x1) (number other.x0) in let q = minus (number other.y1) (number other.y0) in
    identity (minus (times p v) (times q u)) (minus (n_of 0) (minus (times u q) (times v p))) (omega arith)
