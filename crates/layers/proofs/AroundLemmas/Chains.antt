-- Chains of edges: their pieces, and what they are around the points of a box that lies beside them or above them.
use Rattle.std.proofs.Common.{true, ◌≡◌, inl, inr, ℕ, zero, suc, ◌<◌, ℤ, pos, ◌-ℤ◌, ◌*ℤ◌, ◌<ℤ◌, List, [], ◌∷◌, ◌++◌, length, get_or, refl, ap, arith}
use Rattle.std.specs.List.{All}
use Rattle.std.proofs.lemmas.Int.{ints}
use Rattle.std.proofs.lemmas.List.Elements.{All-head, All-tail, All-weaker}
use Rattle.plane.specs.declared.edge.Edge.{Edge}
use Rattle.plane.specs.declared.point.Point.{Point}
use Rattle.plane.specs.Meet.Edges.{RationalPoint}
use Rattle.plane.specs.Ends.{edge_between}
use Rattle.noding.specs.Windings.{pieces}
use Rattle.noding.proofs.SnapLemmas.Counted.{added, under}
use Rattle.layers.specs.Around.{IsOn, IsOnAny, halved}
use Rattle.layers.specs.Boxes.{IsInBounds}
use Rattle.layers.specs.Chains.{IsBounded, IsInExtent, IsLow, chain_edges, chain_start, is_above, is_apart}
use Rattle.layers.specs.declared.around.chains.Chain.{Chain}
use Rattle.layers.specs.declared.around.extents.Extent.{Extent}
use Rattle.layers.specs.declared.around.half_point.HalfPoint.{HalfPoint}
use Rattle.layers.proofs.AroundLemmas.Apart.{above-off, above-turns, apart-off, apart-turns, low-in}
use Rattle.layers.proofs.AroundLemmas.Lists.{Any-cons_cases, Any-none}
use Rattle.layers.proofs.AroundLemmas.Sides.{step}

-- ---- pieces of points and an end

pub length-pieces : (points : List Point) (end : Point) → length (pieces (points ++ end ∷ [])) ≡ length points
length-pieces [] end = refl
length-pieces (point ∷ []) end = refl
length-pieces (point ∷ (next ∷ points)) end = ap suc (length-pieces (next ∷ points) end)

pub pieces-at : (points : List Point) (end : Point) (k : ℕ) (d : Edge) → k < length points → get_or (pieces (points ++ end ∷ [])) k d ≡ edge_between (get_or points k end) (get_or points (suc k) end)
pieces-at [] end k d within = absurd (omega (arith, within))
pieces-at (point ∷ []) end zero d within = refl
pieces-at (point ∷ []) end (suc k) d within = absurd (omega (arith, within))
pieces-at (point ∷ (next ∷ points)) end zero d within = refl
pieces-at (point ∷ (next ∷ points)) end (suc k) d within = pieces-at (next ∷ points) end k d (omega (arith, within))

-- ---- edges between points of which something holds

module _ (In : Point → Type 0) (at : RationalPoint) where
  off-from : ((from to : Point) → In from → In to → ¬ (IsOn (edge_between from to) at)) → (from : Point) (points : List Point) (end : Point) → In from → All In points → In end → ¬ (IsOnAny (pieces (from ∷ (points ++ end ∷ []))) at)
  off-from off from [] end first all last some = elim (Any-cons_cases (λ e. IsOn e at) (edge_between from end) [] some) [
    | inl here ↦ off from end first last here
    | inr there ↦ Any-none (λ e. IsOn e at) there
  ]
  off-from off from (to ∷ points) end first all last some =
      let next = All-head In to points all in
      elim (Any-cons_cases (λ e. IsOn e at) (edge_between from to) (pieces (to ∷ (points ++ end ∷ []))) some) [
        | inl here ↦ off from to first next here
        | inr there ↦ off-from off to points end next (All-tail In to points all) last there
      ]

  -- if none goes through a point, no piece does
  off-pieces : ((from to : Point) → In from → In to → ¬ (IsOn (edge_between from to) at)) → (points : List Point) (end : Point) → All In points → In end → ¬ (IsOnAny (pieces (points ++ end ∷ [])) at)
  off-pieces off [] end all last some = Any-none (λ e. IsOn e at) some
  off-pieces off (from ∷ points) end all last some = off-from off from points end (All-head In from points all) (All-tail In from points all) last some

  -- if each counts the difference of what its ends do, all count that of the first point and the end
  sum-from : (value : Point → ℤ) → ((from to : Point) → In from → In to → under (edge_between from to) at ≡ (value from -ℤ value to)) → (from : Point) (points : List Point) (end : Point) → In from → All In points → In end
      → added (pieces (from ∷ (points ++ end ∷ []))) at ≡ (value from -ℤ value end)
  sum-from value each from [] end first all last = let one = each from end first last in omega (arith, ints, one)
  sum-from value each from (to ∷ points) end first all last =
      let next = All-head In to points all in
      let one = each from to first next in
      let others = sum-from value each to points end next (All-tail In to points all) last in
      omega (arith, ints, one, others)

  sum-pieces : (value : Point → ℤ) → ((from to : Point) → In from → In to → under (edge_between from to) at ≡ (value from -ℤ value to)) → (points : List Point) (end : Point) → All In points → In end
      → added (pieces (points ++ end ∷ [])) at ≡ (value (get_or points 0 end) -ℤ value end)
  sum-pieces value each [] end all last = omega (arith, ints)
  sum-pieces value each (from ∷ points) end all last = sum-from value each from points end (All-head In from points all) (All-tail In from points all) last

-- ---- around a point of a box

module _ (extent : Extent) (point : HalfPoint) (inside : IsInExtent extent point) (chain : Chain) where
  -- where the box lies apart, the chain doesn't wind around its points
  pub apart-chain : IsBounded chain → is_apart extent chain.bounds ≡ true → added (chain_edges chain) (halved point) ≡ pos 0
  apart-chain own apart =
      let none = sum-pieces (IsInBounds chain.bounds) (halved point) (λ _. pos 0) (λ from to first second. apart-turns extent chain.bounds (edge_between from to) first second point inside apart) chain.points.now chain.end own.points own.end in
      omega (arith, ints, none)

  pub apart-chain_off : IsBounded chain → is_apart extent chain.bounds ≡ true → ¬ (IsOnAny (chain_edges chain) (halved point))
  apart-chain_off own apart =
      off-pieces (IsInBounds chain.bounds) (halved point) (λ from to first second. apart-off extent chain.bounds (edge_between from to) first second point inside apart) chain.points.now chain.end own.points own.end

  -- where it lies above, the chain does by the steps from its first point to its end
  pub low-chain : IsLow extent chain → added (chain_edges chain) (halved point) ≡ (step (chain_start chain).x (halved point) -ℤ step chain.end.x (halved point))
  low-chain low =
      sum-pieces (λ at. (pos 2 *ℤ at.y) <ℤ extent.low) (halved point) (λ at. step at.x (halved point)) (λ from to first second. above-turns extent (edge_between from to) first second point inside) chain.points.now chain.end low.points low.end

  pub low-chain_off : IsLow extent chain → ¬ (IsOnAny (chain_edges chain) (halved point))
  low-chain_off low =
      off-pieces (λ at. (pos 2 *ℤ at.y) <ℤ extent.low) (halved point) (λ from to first second. above-off extent (edge_between from to) first second point inside) chain.points.now chain.end low.points low.end

-- a chain is low where the box lies above its bounds
pub IsLow-above : (extent : Extent) (chain : Chain) → IsBounded chain → is_above extent chain.bounds ≡ true → IsLow extent chain
IsLow-above extent chain own above = record {
  points = All-weaker (IsInBounds chain.bounds) (λ at. (pos 2 *ℤ at.y) <ℤ extent.low) (λ at within. low-in extent chain.bounds at above within) chain.points.now own.points;
  end = low-in extent chain.bounds chain.end above own.end;
}
