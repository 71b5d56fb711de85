-- Ends of edges among stretches: none is an inner point of a long one, and inside its columns they lie beyond all its points.
use Rattle.std.proofs.Common.{◌≡◌, ◌≢◌, inl, inr, ⊎_elim, ℤ, ◌≤ℤ◌, ◌<ℤ◌, List, sym, ap, subst, arith}
use Rattle.std.specs.List.{All, AllPairs, Contains}
use Rattle.std.proofs.lemmas.Int.{ints}
use Rattle.std.proofs.lemmas.List.Elements.{All-contains}
use Rattle.plane.specs.declared.edge.Edge.{Edge}
use Rattle.plane.specs.declared.point.Point.{Point}
use Rattle.overlay.proofs.BoundaryLemmas.Corners.{end-sloped}
use Rattle.overlay.specs.Fill.Filled.{HaveSameEnds, IsEndOfSloped, IsNextInColumn}
use Rattle.noding.specs.Chains.{IsEnd}
use Rattle.noding.specs.Windings.{further}
use Rattle.monotone_chains.specs.Stretches.{AreClear, GoesOn, IsLong, IsStretch, chord}
use Rattle.noding.proofs.SnapLemmas.Along.{point_at}
use Rattle.noding.proofs.SnapLemmas.Rounding.{whole}
use Rattle.monotone_chains.proofs.StretchLemmas.Boxes.{ClearIfLong, IsAmid, IsTip, chord-from, chord-to, clear-any, tip-or_amid}
use Rattle.noding.proofs.SnapLemmas.Hulls.{IsNearHull}
use Rattle.monotone_chains.proofs.StretchLemmas.NodedNear.{near-end, near-from, near-further, near-upto, placed-near}
use Rattle.monotone_chains.proofs.StretchLemmas.Placed.{IsPlaced}

-- ---- what comes to the inside of the columns of a clear stretch

-- In some direction (x, y) lies further than all of the points.
pub record IsBeyond (points : List Point) (x y : ℤ) : Type 0 where
  pub u : ℤ
  pub v : ℤ
  pub each : (p : Point) → Contains points p → further u v p <ℤ further u v (point_at x y)

-- all of the one that goes on as the other come upto where they adjoin, all of the other from there on
pub goes-upto : (s t : List Point) (goes : GoesOn s t) (p : Point) → Contains s p → p.x ≤ℤ goes.at.x
goes-upto s t goes p of = ⊎_elim (λ same. let x = ap (λ (q : Point). q.x) same in omega (arith, ints, x)) (λ less. omega (arith, ints, less)) (goes.left p of)

pub goes-from : (s t : List Point) (goes : GoesOn s t) (p : Point) → Contains t p → goes.at.x ≤ℤ p.x
goes-from s t goes p of = ⊎_elim (λ same. let x = ap (λ (q : Point). q.x) same in omega (arith, ints, x)) (λ less. omega (arith, ints, less)) (goes.right p of)

-- some of its points lie to the left of what is amid a stretch, and some to the right
pub amid-left : (s : List Point) (x : ℤ) → IsStretch s → IsAmid s x → (p : Point) × Contains s p × (p.x <ℤ x)
amid-left s x is (inl (from, to)) = (_, chord-from s is, from)
amid-left s x is (inr (to, from)) = (_, chord-to s is, to)

pub amid-right : (s : List Point) (x : ℤ) → IsStretch s → IsAmid s x → (p : Point) × Contains s p × (x <ℤ p.x)
amid-right s x is (inl (from, to)) = (_, chord-to s is, to)
amid-right s x is (inr (to, from)) = (_, chord-from s is, from)

pub near-beyond : (s t : List Point) (x y : ℤ) → IsStretch s → AreClear s t → IsNearHull t (whole x y) → IsAmid s x → IsBeyond s x y
near-beyond s t x y is (inl apart) near amid = record { u = apart.u; v = apart.v; each = λ p of. near-further s t apart p x y of near }
near-beyond s t x y is (inr (inl goes)) near amid =
    let (p, of, after) = amid-right s x is amid in
    let upto = goes-upto s t goes p of in
    let from = near-from t x y goes.at.x near (goes-from s t goes) in absurd (omega (arith, ints, after, upto, from))
near-beyond s t x y is (inr (inr goes)) near amid =
    let (p, of, before) = amid-left s x is amid in
    let from = goes-from t s goes p of in
    let upto = near-upto t x y goes.at.x near (goes-upto t s goes) in absurd (omega (arith, ints, before, from, upto))

-- ---- ends of edges

-- an end of the chord, either way round, isn't amid its stretch
amid-no_end : (s : List Point) (edge : Edge) (x y : ℤ) → HaveSameEnds edge (chord s) → IsEnd edge x y → ¬ (IsAmid s x)
amid-no_end s edge x y (inl same) (inl (at, _)) = let e = ap (λ (g : Edge). g.x0) same in ⊎_elim (λ amid. omega (arith, ints, at, e, amid.0)) (λ amid. omega (arith, ints, at, e, amid.1))
amid-no_end s edge x y (inl same) (inr (at, _)) = let e = ap (λ (g : Edge). g.x1) same in ⊎_elim (λ amid. omega (arith, ints, at, e, amid.1)) (λ amid. omega (arith, ints, at, e, amid.0))
amid-no_end s edge x y (inr same) (inl (at, _)) = let e = ap (λ (g : Edge). g.x0) same in ⊎_elim (λ amid. omega (arith, ints, at, e, amid.1)) (λ amid. omega (arith, ints, at, e, amid.0))
amid-no_end s edge x y (inr same) (inr (at, _)) = let e = ap (λ (g : Edge). g.x1) same in ⊎_elim (λ amid. omega (arith, ints, at, e, amid.0)) (λ amid. omega (arith, ints, at, e, amid.1))

module _ (all : List (List Point)) (each : All IsStretch all) (clear : AllPairs ClearIfLong all) (edges : List Edge) (placed : All (λ edge. edge.x1 ≢ edge.x0 → IsPlaced all edge) edges) where
  -- an end strictly inside the columns of a long stretch lies beyond all its points
  pub off-end : (x y : ℤ) → IsEndOfSloped edges x y → (s : List Point) → Contains all s → IsLong s → IsAmid s x → IsBeyond s x y
  off-end x y (edge, among, sloped, end) s of_all long amid =
      let (t, of_all_too, near, if_long) = placed-near all each edge (All-contains (λ e. e.x1 ≢ e.x0 → IsPlaced all e) edges edge placed among sloped) in
      elim (clear-any all clear s t of_all of_all_too) [
        | inl one ↦ absurd (amid-no_end s edge x y (subst (λ (u : List Point). HaveSameEnds edge (chord u)) (sym one) (if_long (subst IsLong one long))) end amid)
        | inr clear_if ↦ near-beyond s t x y (All-contains IsStretch all s each of_all) (clear_if (inl long)) (near-end t edge x y near end) amid
      ]

  -- an end of an edge that is a point of a long stretch is one of its chord's ends
  pub end-tip : All (λ edge. edge.x1 ≡ edge.x0 → IsNextInColumn edges edge) edges → (edge : Edge) (point : Point) → Contains edges edge → IsEnd edge point.x point.y → (s : List Point) → Contains all s → IsLong s → Contains s point → IsTip s point
  end-tip vertical edge point among end s of_all long of = elim (tip-or_amid s (All-contains IsStretch all s each of_all) point of) [
    | inl tip ↦ tip
    | inr amid ↦
        let beyond = off-end point.x point.y (end-sloped edges vertical edge point.x point.y among end) s of_all long amid in
        let less = beyond.each point of in absurd (omega (arith, ints, less))
  ]
