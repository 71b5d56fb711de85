-- What a caller of overlays within windows side by side wants of them, in a caller's words: together, and joined, they are the
-- result in all of these windows. No seam shows where two windows touch.
use Rattle.std.proofs.Common.{◌≡◌, inl, inr, ⊎_elim, zero, suc, List, [], ◌∷◌, ◌++◌, sym, subst, ◌∙◌, arith}
use Rattle.std.specs.List.{All, Contains}
use Rattle.std.proofs.lemmas.Int.{ints}
use Rattle.std.proofs.lemmas.List.Elements.{All-contains, All-head, All-tail, All-weaker}
use Rattle.i_tree.proofs.RootLemmas.Lists.{AllPairs-head, AllPairs-tail}
use Rattle.plane.specs.declared.edge.Edge.{Edge}
use Rattle.plane.specs.declared.point.Point.{Point}
use Rattle.plane.specs.Meet.Edges.{RationalPoint}
use Rattle.noding.specs.Near.{CountsExactly}
use Rattle.noding.specs.Windings.{winding}
use Rattle.overlay.specs.declared.fill.rules.FillRule.{FillRule}
use Rattle.overlay.specs.declared.fill.rules.Operation.{Operation}
use Rattle.overlay.specs.Boundary.{result_at}
use Rattle.overlay.specs.Overlay.{polygon_edges}
use Rattle.tiles.specs.Join.{AreApart, AreParts, CanJoin, IsJoined, Tile, all_of, lists_of, polygons_of, tiles_of}
use Rattle.tiles.specs.Part.{IsPart}
use Rattle.tiles.specs.Seam.{AreAllApart, AreTiles, IsSeamless}
use Rattle.tiles.specs.Tile.{IsTile}
use Rattle.tiles.specs.Window.{InWindow}
use Rattle.tiles.specs.declared.joined.given.Tiles.{Tiles}
use Rattle.tiles.proofs.JoinUncrossed.{zip-pairs}
use Rattle.tiles.proofs.JoinWinds.{around-append, around-none, around-once}

-- Windows whose polygons can be joined have no common points.
pub can-apart : (tiles : Tiles) → CanJoin tiles → AreAllApart (tiles_of tiles)
can-apart tiles can = zip-pairs AreApart tiles.windows.now (lists_of (polygons_of tiles) 0 tiles.tile_ends.now) can.apart

module _ (rule : FillRule) (operation : Operation) (subject clip : List Edge) where
  abbrev Is : Tile → Type 0
  Is tile = IsTile tile.0 rule operation subject clip tile.1

  abbrev Apart : Tile → Tile → Type 0
  Apart one other = AreApart one.0 other.0

  -- Overlays within windows are parts.
  pub tiles-parts : (tiles : List Tile) → AreTiles rule operation subject clip tiles → AreParts tiles
  tiles-parts tiles are = All-weaker Is (λ (tile : Tile). IsPart tile.0 tile.1) (λ tile is. is.part) tiles are

  -- in the window of one of them they are the result together
  tiles-exact : (tiles : List Tile) → AreTiles rule operation subject clip tiles → AreAllApart tiles → (tile : Tile) (point : RationalPoint) → Contains tiles tile → InWindow tile.0 point
      → All (λ edge. CountsExactly edge point) (subject ++ clip) → winding (polygon_edges (all_of tiles)) point ≡ result_at rule operation subject clip point
  tiles-exact [] are apart tile point (k, inside, same) within exactly = absurd (omega (arith, inside))
  tiles-exact (first ∷ others) are apart tile point (zero, inside, same) within exactly =
      let here = subst (λ (some : Tile). InWindow some.0 point) (sym same) within in
      let sum = around-append point first.1 (all_of others) in
      let is = (All-head Is first others are).exact point here exactly in
      let rest = around-none point others (tiles-parts others (All-tail Is first others are))
      (All-weaker (Apart first) (λ (other : Tile). ¬ (InWindow other.0 point)) (λ other none. none point here) others (AllPairs-head Apart first others apart)) in
      omega (arith, ints, sum, is, rest)
  tiles-exact (first ∷ others) are apart tile point (suc k, inside, same) within exactly =
      let held : Contains others tile = (k, omega (arith, inside), same) in
      let sum = around-append point first.1 (all_of others) in
      let beside = All-contains (Apart first) others tile (AllPairs-head Apart first others apart) held in
      let none = (All-head Is first others are).part.outside point (λ here. beside point here within) in
      let rest = tiles-exact others (All-tail Is first others are) (AllPairs-tail Apart first others apart) tile point held within exactly in
      omega (arith, ints, sum, none, rest)

  -- All polygons of overlays within windows that have no common points are around the points of the result in these.
  pub tiles-seamless : (tiles : List Tile) → AreTiles rule operation subject clip tiles → AreAllApart tiles → IsSeamless rule operation subject clip tiles (all_of tiles)
  tiles-seamless tiles are apart = record {
    exact = tiles-exact tiles are apart;
    outside = λ point none. around-none point tiles (tiles-parts tiles are) none;
    once = λ point. around-once point tiles (tiles-parts tiles are) apart;
  }

  -- So is what they are joined to.
  pub joined-seamless : (tiles : List Tile) (polygons : List (List (List Point))) → AreTiles rule operation subject clip tiles → AreAllApart tiles → IsJoined tiles polygons
      → IsSeamless rule operation subject clip tiles polygons
  joined-seamless tiles polygons are apart joined =
      let all = tiles-seamless tiles are apart in
      let same = joined.winds (tiles-parts tiles are) in record {
        exact = λ tile point held within exactly. same point ∙ all.exact tile point held within exactly;
        outside = λ point none. same point ∙ all.outside point none;
        once = λ point. ⊎_elim (λ none. inl (same point ∙ none)) (λ one. inr (same point ∙ one)) (all.once point);
      }
