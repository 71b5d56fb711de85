-- What join makes of the tiles.
use Rattle.std.proofs.Common.{Bool, true, false, eqb, ◌≡◌, ◌≢◌, inl, inr, pos, ℕ, zero, suc, ◌+◌, ◌-◌, List, [], ◌∷◌, ◌++◌, length, take, refl, ap, ap₂, sym, subst, ◌∙◌, append-nil, arith}
use Rattle.std.specs.Bool.{MatchBool}
use Rattle.std.specs.List.{All, between, flat_map}
use Rattle.std.proofs.lemmas.Bool.{eqb-false, eqb-true}
use Rattle.std.proofs.lemmas.List.{length-append}
use Rattle.std.proofs.lemmas.List.Concat.{flat_map-append}
use Rattle.std.proofs.Math.Seq.{take-append_seam}
use Rattle.plane.specs.declared.edge.Edge.{Edge}
use Rattle.plane.specs.declared.point.Point.{Point}
use Rattle.plane.specs.Meet.Edges.{RationalPoint}
use Rattle.noding.specs.Offsets.{AreJoined, offsets}
use Rattle.noding.specs.Windings.{winding}
use Rattle.noding.proofs.Callers.{length-offsets}
use Rattle.overlay.specs.declared.fill.rules.FillRule.TheVariants.{NonZero, Positive}
use Rattle.overlay.specs.declared.fill.rules.Operation.TheVariants.{Intersection, Union}
use Rattle.overlay.specs.Contours.Rings.{ring_edges}
use Rattle.overlay.specs.Overlay.{IsOverlay, polygon_edges}
use Rattle.overlay.specs.Polygons.{rings_of}
use Rattle.overlay.specs.Rings.{AreEnds, edges_in}
use Rattle.overlay.specs.Rings.{rings_of as rings_at}
use Rattle.overlay.proofs.Callers.{AreEnds-joined, rings-joined}
use Rattle.overlay.proofs.ContourLemmas.Counts.{rings-closed}
use Rattle.tiles.specs.Join.{AreApart, AreBeside, AreParts, CanJoin, IsIn, IsJoined, WindOtherwise, bordering_of, inner_of, lists_of, polygons_of, tiles_of}
use Rattle.tiles.specs.Tile.{turned_border}
use Rattle.tiles.specs.Window.{HasPoints, InWindow}
use Rattle.tiles.specs.declared.joined.given.Tiles.{Tiles}
use Rattle.tiles.specs.declared.window.Window.{Window}
use Rattle.tiles.proofs.JoinOutside.{winds-within}
use Rattle.tiles.proofs.JoinPart.{IsJoined-made}
use Rattle.tiles.proofs.JoinSides.{all-beside}
use Rattle.tiles.proofs.JoinSome.{some-winds}
use Rattle.tiles.proofs.JoinUncrossed.{AreAllBeside, in-whole, uncrossed-around, zip-pairs}
use Rattle.tiles.proofs.JoinWinds.{finds-nothing, finds-some}

-- polygons that end nowhere are none
pub none-appended : (polygons : List (List (List Point))) (ends : List ℕ) (empty : Bool) → ends ≡ offsets 0 polygons → (count : ℕ) → count ≡ length ends → empty ≡ eqb count 0 → MatchBool empty (polygons ≡ []) (polygons ≢ [])
none-appended polygons ends empty is count size told =
    subst (λ (t : Bool). MatchBool t (polygons ≡ []) (polygons ≢ [])) (sym (told ∙ ap (λ (n : ℕ). eqb n 0) (size ∙ ap (λ (list : List ℕ). length list) is))) (by polygons (eqb (length (offsets 0 polygons)) 0) refl)
  where
    by : (some : List (List (List Point))) (t : Bool) → eqb (length (offsets 0 some)) 0 ≡ t → MatchBool t (some ≡ []) (some ≢ [])
    by [] true e = refl
    by [] false e = absurd (eqb-false 0 0 e refl)
    by (polygon ∷ others) true e = absurd (let same = eqb-true (length (offsets 0 (polygon ∷ others))) 0 e in omega (arith, same))
    by (polygon ∷ others) false e = λ h. cc

-- the edges of the rings of polygons with a border behind them
pub edges-bordered : (polygons : List (List (List Point))) (whole : Window) → flat_map ring_edges (rings_of polygons ++ turned_border whole ∷ []) ≡ polygon_edges polygons ++ ring_edges (turned_border whole)
edges-bordered polygons whole =
    flat_map-append ring_edges (rings_of polygons) (turned_border whole ∷ [])
    ∙ ap (λ (edges : List Edge). polygon_edges polygons ++ edges) (append-nil (ring_edges (turned_border whole)))

-- ---- rings before the last one

take-rings : (points : List Point) (start : ℕ) (ends : List ℕ) (n : ℕ) → rings_at points start (take n ends) ≡ take n (rings_at points start ends)
take-rings points start [] zero = refl
take-rings points start [] (suc n) = refl
take-rings points start (end ∷ ends) zero = refl
take-rings points start (end ∷ ends) (suc n) = ap (λ (rings : List (List Point)). between start end points ∷ rings) (take-rings points end ends n)

take-ends : (start : ℕ) (ends : List ℕ) (count n : ℕ) → AreEnds start ends count → AreEnds start (take n ends) count
take-ends start [] count zero right = tt
take-ends start [] count (suc n) right = tt
take-ends start (end ∷ ends) count zero right = tt
take-ends start (end ∷ ends) count (suc n) (onwards, inside, rest) = (onwards, inside, take-ends end ends count n rest)

module _ (rings : List (List Point)) (last : List Point) (points : List Point) (ends : List ℕ) (joined : AreJoined (rings ++ last ∷ []) points ends) where
  -- there is one ring more
  pub last-stops : length ends ≡ length rings + 1
  last-stops =
      let a = ap (λ (list : List ℕ). length list) joined.1 in
      let b = length-offsets 0 (rings ++ last ∷ []) in
      let c = length-append rings (last ∷ []) in
      omega (arith, a, b, c)

  -- rings that are lent without the last one
  pub lent-front : (lent : List Point) (stops : List ℕ) (count : ℕ) → count ≡ length ends → lent ≡ points → stops ≡ take (count - 1) ends → AreEnds 0 stops (length lent) × (edges_in lent stops ≡ flat_map ring_edges rings)
  lent-front lent stops count is points_are ends_are =
      let more = last-stops in
      let size : count - 1 ≡ length rings = omega (arith, is, more) in
      let right = AreEnds-joined (rings ++ last ∷ []) points ends joined in (
        subst (λ (all : List Point). AreEnds 0 stops (length all)) (sym points_are)
            (subst (λ (some : List ℕ). AreEnds 0 some (length points)) (sym ends_are) (take-ends 0 ends (length points) (count - 1) right)),
        ap₂ (λ (all : List Point) (some : List ℕ). flat_map ring_edges (rings_at all 0 some)) points_are ends_are
            ∙ ap (λ (some : List (List Point)). flat_map ring_edges some)
            (take-rings points 0 ends (count - 1) ∙ ap₂ (λ (n : ℕ) (some : List (List Point)). take n some) size (rings-joined (rings ++ last ∷ []) points ends joined) ∙ take-append_seam rings (last ∷ [])),
      )

-- ---- tiles that can be joined

-- what is false is the second of two
pub second-of : (once : Bool) (A B : Type 0) → once ≡ false → MatchBool once A B → B
second-of false A B is b = b
second-of true A B is a = absurd (never is)
  where
    never : true ≡ false → ⊥
    never h = cc

-- what is true is the first of two
pub first-of : (once : Bool) (A B : Type 0) → once ≡ true → MatchBool once A B → A
first-of true A B is a = a
first-of false A B is b = absurd (never is)
  where
    never : false ≡ true → ⊥
    never h = cc

module _ (tiles : Tiles) (can : CanJoin tiles) (whole : Window) (some : HasPoints whole) (all : All (λ tile. IsIn whole tile.0) (tiles_of tiles)) where
  abbrev lists : List (List (List (List Point)))
  lists = lists_of (polygons_of tiles) 0 tiles.tile_ends.now

  abbrev bordering : List Edge
  bordering = polygon_edges (bordering_of (tiles_of tiles))

  beside : AreAllBeside (tiles_of tiles)
  beside = zip-pairs AreBeside tiles.windows.now lists (all-beside tiles.windows.now can.some can.apart)

  -- where the test finds nothing they are joined to what is united
  pub joined-made : (found united : List (List (List Point))) → found ≡ [] → IsOverlay NonZero Intersection bordering (bordering ++ ring_edges (turned_border whole)) found → IsOverlay Positive Union bordering [] united
      → IsJoined (tiles_of tiles) (united ++ inner_of (tiles_of tiles))
  joined-made found united none tested is =
      IsJoined-made (tiles_of tiles) united is (zip-pairs AreApart tiles.windows.now lists can.apart) beside can.within
      (λ parts. finds-nothing bordering whole some (subst (λ (polygons : List (List (List Point))). IsOverlay NonZero Intersection bordering (bordering ++ ring_edges (turned_border whole)) polygons) none tested)
      (uncrossed-around (tiles_of tiles) parts beside can.within whole some all))
      whole some all

  -- and where it finds something they wind around some point otherwise than once or not at all
  pub winds-otherwise : (found : List (List (List Point))) → found ≢ [] → IsOverlay NonZero Intersection bordering (bordering ++ ring_edges (turned_border whole)) found
      → AreParts (tiles_of tiles) → WindOtherwise (bordering_of (tiles_of tiles))
  winds-otherwise found any tested parts =
      let (point, winds) = some-winds NonZero Intersection bordering (bordering ++ ring_edges (turned_border whole)) found tested any in
      let (apart, otherwise) = finds-some bordering whole found some tested (uncrossed-around (tiles_of tiles) parts beside can.within whole some all) near point winds in
      (point, apart, otherwise)
    where
      near : (point : RationalPoint) → winding bordering point ≢ pos 0 → winding bordering point ≡ pos 1 → InWindow whole point
      near point apart once =
          elim (winds-within point whole bordering (λ test. rings-closed test (rings_of (bordering_of (tiles_of tiles)))) (in-whole (tiles_of tiles) parts beside can.within whole some all)) [
            | inl is ↦ is
            | inr none ↦ absurd (apart none)
          ]
