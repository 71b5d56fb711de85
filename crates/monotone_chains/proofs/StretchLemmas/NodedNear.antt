-- Edges between points near the hull of a stretch, or between points of it.
use Rattle.std.proofs.Common.{inl, inr, ℕ, ◌+◌, ◌*◌, ℤ, pos, negsuc, ◌+ℤ◌, ◌-ℤ◌, ◌*ℤ◌, ◌≤ℤ◌, ◌<ℤ◌, List, sym, subst, arith}
use Rattle.std.specs.Int.RustNames.{unsigned_abs}
use Rattle.std.specs.List.{All, Contains}
use Rattle.std.proofs.lemmas.Int.{ints}
use Rattle.std.proofs.lemmas.List.Elements.{All-contains}
use Rattle.plane.specs.declared.edge.Edge.{Edge}
use Rattle.plane.specs.declared.point.Point.{Point}
use Rattle.plane.proofs.MeetLemmas.Identities.{identity, minus, number, plus, times}
use Rattle.overlay.specs.Fill.Filled.{HaveSameEnds}
use Rattle.noding.specs.Chains.{IsEnd}
use Rattle.plane.specs.Ends.{end_of, start_of}
use Rattle.noding.specs.Windings.{further}
use Rattle.monotone_chains.specs.Stretches.{AreApart, IsLong, IsStretch, chord}
use Rattle.noding.proofs.SnapLemmas.Along.{point_at}
use Rattle.noding.proofs.SnapLemmas.Numbers.{n_of}
use Rattle.noding.proofs.SnapLemmas.Rounding.{whole}
use Rattle.monotone_chains.proofs.StretchLemmas.Apart.{hulls-apart}
use Rattle.monotone_chains.proofs.StretchLemmas.Boxes.{chord-from, chord-to, passed-near}
use Rattle.noding.proofs.SnapLemmas.Hulls.{IsNearHull, hull-held, within-of_hull}
use Rattle.monotone_chains.proofs.StretchLemmas.Placed.{IsPlaced}

-- Both ends of the edge are near the hull.
abbrev pub AreNear : List Point → Edge → Type 0
AreNear points edge = IsNearHull points (whole edge.x0 edge.y0) × IsNearHull points (whole edge.x1 edge.y1)

-- Both are points of the list.
abbrev pub HasEnds : List Point → Edge → Type 0
HasEnds points edge = Contains points (start_of edge) × Contains points (end_of edge)

near-number : (w : ℕ) (f k : ℤ) → f ≤ℤ k → (pos 2 *ℤ f) ≤ℤ (pos 1 *ℤ ((pos 2 *ℤ k) +ℤ pos (1 * w)))
near-number w f k upto =
    let left = identity (times (n_of 2) (number f)) (plus (number f) (number f)) (omega arith) in
    let right = identity (times (n_of 1) (plus (times (n_of 2) (number k)) (n_of (1 * w)))) (plus (plus (number k) (number k)) (n_of w)) (omega arith) in
    omega (arith, ints, upto, left, right)

pub near-point : (s : List Point) (p : Point) → Contains s p → IsNearHull s (whole p.x p.y)
near-point s p of u v k each = near-number (unsigned_abs u + unsigned_abs v) (further u v p) k (each p of)

pub near-ends : (s : List Point) (edge : Edge) → HasEnds s edge → AreNear s edge
near-ends s edge (from, to) = (near-point s (start_of edge) from, near-point s (end_of edge) to)

pub near-same : (s : List Point) (one other : Edge) → HaveSameEnds one other → AreNear s other → AreNear s one
near-same s one other (inl same) near = subst (AreNear s) (sym same) near
near-same s one other (inr same) near = subst (AreNear s) (sym same) (near.1, near.0)

pub near-end : (s : List Point) (edge : Edge) (x y : ℤ) → AreNear s edge → IsEnd edge x y → IsNearHull s (whole x y)
near-end s edge x y near (inl (at_x, at_y)) = subst (λ (a : ℤ). IsNearHull s (whole a y)) (sym at_x) (subst (λ (b : ℤ). IsNearHull s (whole edge.x0 b)) (sym at_y) near.0)
near-end s edge x y near (inr (at_x, at_y)) = subst (λ (a : ℤ). IsNearHull s (whole a y)) (sym at_x) (subst (λ (b : ℤ). IsNearHull s (whole edge.x1 b)) (sym at_y) near.1)

-- it comes to no point of what is apart
pub near-further : (s t : List Point) (apart : AreApart s t) (p : Point) (x y : ℤ) → Contains s p → IsNearHull t (whole x y) → further apart.u apart.v p <ℤ further apart.u apart.v (point_at x y)
near-further s t apart p x y of near = less (unsigned_abs apart.u + unsigned_abs apart.v) (further apart.u apart.v p) (further apart.u apart.v (point_at x y)) (hulls-apart 0 1 s t apart (whole p.x p.y) (whole x y) (within-of_hull s (whole p.x p.y) (hull-held s p of)) near)
  where
    less : (w : ℕ) (f g : ℤ) → ((pos 2 *ℤ (pos 1 *ℤ f)) +ℤ pos ((1 * 1) * (2 * w + 2))) ≤ℤ ((pos 2 *ℤ (pos 1 *ℤ g)) +ℤ pos ((1 * 1) * ((0 + 1) * w))) → f <ℤ g
    less w f g upto =
        let left = identity (times (n_of 2) (times (n_of 1) (number f))) (plus (number f) (number f)) (omega arith) in
        let right = identity (times (n_of 2) (times (n_of 1) (number g))) (plus (number g) (number g)) (omega arith) in
        omega (arith, ints, upto, left, right)

-- ---- along x no half unit is left

-- the bound, where x alone counts
along_bound : (x y k : ℤ) → (pos 2 *ℤ ((pos 1 *ℤ x) +ℤ (pos 0 *ℤ y))) ≤ℤ (pos 1 *ℤ ((pos 2 *ℤ k) +ℤ pos (1 * 1))) → x ≤ℤ k
along_bound x y k upto =
    let left = identity (times (n_of 2) (plus (times (n_of 1) (number x)) (times (n_of 0) (number y)))) (plus (number x) (number x)) (omega arith) in
    let right = identity (times (n_of 1) (plus (times (n_of 2) (number k)) (n_of (1 * 1)))) (plus (plus (number k) (number k)) (n_of 1)) (omega arith) in
    omega (arith, ints, upto, left, right)

back_bound : (x y k : ℤ) → (pos 2 *ℤ ((negsuc 0 *ℤ x) +ℤ (pos 0 *ℤ y))) ≤ℤ (pos 1 *ℤ ((pos 2 *ℤ (pos 0 -ℤ k)) +ℤ pos (1 * 1))) → k ≤ℤ x
back_bound x y k upto =
    let left = identity (times (n_of 2) (plus (times (number (negsuc 0)) (number x)) (times (n_of 0) (number y)))) (minus (n_of 0) (plus (number x) (number x))) (omega arith) in
    let right = identity (times (n_of 1) (plus (times (n_of 2) (minus (n_of 0) (number k))) (n_of (1 * 1)))) (minus (n_of 1) (plus (number k) (number k))) (omega arith) in
    omega (arith, ints, upto, left, right)

pub near-upto : (s : List Point) (x y k : ℤ) → IsNearHull s (whole x y) → ((q : Point) → Contains s q → q.x ≤ℤ k) → x ≤ℤ k
near-upto s x y k near each = along_bound x y k (near (pos 1) (pos 0) k (λ q of. let most = each q of in let at = identity (plus (times (n_of 1) (number q.x)) (times (n_of 0) (number q.y))) (number q.x) (omega arith) in omega (arith, ints, at, most)))

pub near-from : (s : List Point) (x y k : ℤ) → IsNearHull s (whole x y) → ((q : Point) → Contains s q → k ≤ℤ q.x) → k ≤ℤ x
near-from s x y k near each =
    back_bound x y k
    (near (negsuc 0) (pos 0) (pos 0 -ℤ k) (λ q of. let least = each q of in let at = identity (plus (times (number (negsuc 0)) (number q.x)) (times (n_of 0) (number q.y))) (minus (n_of 0) (number q.x)) (omega arith) in omega (arith, ints, at, least)))

-- ---- edges that are placed

module _ (all : List (List Point)) (each : All IsStretch all) where
  -- each is near some stretch, and its chord, one way or the other, where that one is long
  pub placed-near : (edge : Edge) → IsPlaced all edge → (t : List Point) × Contains all t × AreNear t edge × (IsLong t → HaveSameEnds edge (chord t))
  placed-near edge (inl (t, of_all, long, same)) =
      let is = All-contains IsStretch all t each of_all in
      (t, of_all, near-same t edge (chord t) same (near-ends t (chord t) (chord-from t is, chord-to t is)), λ _. same)
  placed-near edge (inr (t, of_all, short, lies)) =
      let is = All-contains IsStretch all t each of_all in
      (t, of_all, (passed-near t is edge.x0 edge.y0 lies.0, passed-near t is edge.x1 edge.y1 lies.1), λ long. absurd (short long))
