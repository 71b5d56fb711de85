-- The outer rings of polygons, alone.
use Rattle.std.proofs.Common.{◌≡◌, ℕ, suc, ◌+◌, ◌-◌, ◌<◌, ◌≤◌, List, [], ◌∷◌, ◌++◌, length, get_or, map, take, refl, sym, ap, ap₂, ◌∙◌, subst, append-nil, append_assoc, arith}
use Rattle.std.specs.List.{between, flat_map}
use Rattle.std.proofs.lemmas.List.{drop_more, drop_at, length-append, map_push}
use Rattle.std.proofs.Math.Seq.{take-append_seam}
use Rattle.overlay.specs.Contours.Rings.{ring_edges}
use Rattle.noding.specs.Offsets.{AreJoined, offsets}
use Rattle.plane.specs.Meet.Edges.{RationalPoint}
use Rattle.plane.specs.declared.edge.Edge.{Edge}
use Rattle.plane.specs.declared.point.Point.{Point}
use Rattle.overlay.specs.Rings.{AreEnds}
use Rattle.layers.specs.Around.{halved}
use Rattle.layers.specs.Parents.{AreOuters, middle_of, outer_of}
use Rattle.layers.specs.Shapes.{lists_of, shape_edges, start_of}
use Rattle.layers.specs.declared.around.half_point.HalfPoint.{HalfPoint}
use Rattle.std.proofs.lemmas.List.Concat.{flat_map-append}
use Rattle.noding.proofs.ChainLemmas.Standing.{length-offsets}
use Rattle.layers.proofs.ListLemmas.{between-none, lists_of-at, offsets-append}

-- ---- the outer ring at a place

-- a polygon without rings
pub outer-none : (rings : List (List Point)) (ends : List ℕ) (place : ℕ) → place < length ends → start_of ends place ≡ get_or ends place 0 → outer_of (get_or (lists_of rings 0 ends) place []) ≡ []
outer-none rings ends place within same =
    ap outer_of (lists_of-at rings 0 ends place within ∙ ap (λ (stop : ℕ). between (start_of ends place) stop rings) (sym same) ∙ between-none rings (start_of ends place))

outer-between : (rings : List (List Point)) (start stop : ℕ) → start < stop → start < length rings → outer_of (between start stop rings) ≡ get_or rings start []
outer-between rings start stop rising within =
    let more : stop - start ≡ suc (stop - (start + 1)) = omega arith in
    ap outer_of (ap₂ (λ (count : ℕ) (left : List (List Point)). take count left) more (drop_more rings start [] within))

-- another has its first ring
pub outer-first : (rings : List (List Point)) (ends : List ℕ) (place : ℕ) → place < length ends → start_of ends place < get_or ends place 0 → get_or ends place 0 ≤ length rings
    → outer_of (get_or (lists_of rings 0 ends) place []) ≡ get_or rings (start_of ends place) []
outer-first rings ends place within rising upto =
    ap outer_of (lists_of-at rings 0 ends place within) ∙ outer-between rings (start_of ends place) (get_or ends place 0) rising (omega (arith, rising, upto))

-- ---- lists that are joined, taken apart again

module _ {X : Type 0} where
  pub AreEnds-offsets : (start : ℕ) (lists : List (List X)) (count : ℕ) → start + length (flat_map (λ list. list) lists) ≤ count → AreEnds start (offsets start lists) count
  AreEnds-offsets start [] count fits = tt
  AreEnds-offsets start (list ∷ lists) count fits =
      let sum = length-append list (flat_map (λ (l : List X). l) lists) in
      (omega arith, omega (arith, sum, fits), AreEnds-offsets (start + length list) lists count (omega (arith, sum, fits)))

  between-middle : (before list rest : List X) (start : ℕ) → start ≡ length before → between start (start + length list) (before ++ (list ++ rest)) ≡ list
  between-middle before list rest start is =
      ap₂ (λ (n : ℕ) (items : List X). take n items) (let size : (start + length list) - start ≡ length list = omega arith in size) (drop_at before (list ++ rest) start (sym is))
      ∙ take-append_seam list rest

  lists-behind : (before : List X) (lists : List (List X)) (start : ℕ) → start ≡ length before → lists_of (before ++ flat_map (λ list. list) lists) start (offsets start lists) ≡ lists
  lists-behind before [] start is = refl
  lists-behind before (list ∷ lists) start is =
      let rest = flat_map (λ (l : List X). l) lists in
      ap₂ (λ (first : List X) (others : List (List X)). first ∷ others) (between-middle before list rest start is)
      (ap (λ (items : List X). lists_of items (start + length list) (offsets (start + length list) lists)) (sym (append_assoc before list rest))
      ∙ lists-behind (before ++ list) lists (start + length list) (let sum = length-append before list in omega (arith, is, sum)))

  -- they are the lists that they were
  pub lists_of-joined : (lists : List (List X)) (items : List X) (ends : List ℕ) → AreJoined lists items ends → lists_of items 0 ends ≡ lists
  lists_of-joined lists items ends (items_are, ends_are) = ap₂ (λ (all : List X) (stops : List ℕ). lists_of all 0 stops) items_are ends_are ∙ lists-behind [] lists 0 refl

-- ---- outer rings as shapes of their own

-- lists of one item each
module _ {X Y : Type 0} (f : X → Y) where
  pub flat_map-alone : (xs : List X) → flat_map (λ list. list) (map (λ x. f x ∷ []) xs) ≡ map f xs
  flat_map-alone [] = refl
  flat_map-alone (x ∷ xs) = ap (λ (rest : List Y). f x ∷ rest) (flat_map-alone xs)

-- one more
pub AreOuters-more : (polygons : List (List (List Point))) (polygon : List (List Point)) (points points' : List Point) (ring_ends ring_ends' shape_ends shape_ends' : List ℕ) (middles middles' : List HalfPoint) (middle : HalfPoint)
    → AreOuters polygons points ring_ends shape_ends middles → points' ≡ points ++ outer_of polygon → ring_ends' ≡ ring_ends ++ length points' ∷ [] → shape_ends' ≡ shape_ends ++ length ring_ends' ∷ []
    → halved middle ≡ middle_of (outer_of polygon) → middles' ≡ middles ++ middle ∷ [] → AreOuters (polygons ++ polygon ∷ []) points' ring_ends' shape_ends' middles'
AreOuters-more polygons polygon points points' ring_ends ring_ends' shape_ends shape_ends' middles middles' middle are points_are rings_are shapes_are middle_is middles_are =
    let outer = outer_of polygon in
    let outers = map outer_of polygons in
    let all = flat_map (λ (ring : List Point). ring) outers in
    let grown : map outer_of (polygons ++ polygon ∷ []) ≡ outers ++ outer ∷ [] = map_push outer_of polygons polygon in
    let joined : points' ≡ flat_map (λ (ring : List Point). ring) (outers ++ outer ∷ []) =
    points_are ∙ ap₂ (λ (first last : List Point). first ++ last) are.joined.0 (sym (append-nil outer)) ∙ sym (flat_map-append (λ (ring : List Point). ring) outers (outer ∷ [])) in
    let size : length points' ≡ length all + length outer = ap (λ (l : List Point). length l) (points_are ∙ ap (λ (first : List Point). first ++ outer) are.joined.0) ∙ length-append all outer in
    let rings : ring_ends' ≡ offsets 0 (outers ++ outer ∷ []) =
    rings_are ∙ ap₂ (λ (first : List ℕ) (end : ℕ). first ++ end ∷ []) are.joined.1 (size ∙ (let same : length all + length outer ≡ (0 + length all) + length outer = omega arith in same)) ∙ sym (offsets-append 0 outers (outer ∷ [])) in
    let singles = map (λ (p : List (List Point)). outer_of p ∷ []) polygons in
    let many : length ring_ends' ≡ (0 + length (flat_map (λ (list : List (List Point)). list) singles)) + 1 =
    ap (λ (l : List ℕ). length l) rings_are ∙ length-append ring_ends (length points' ∷ []) ∙ (let ends = ap (λ (l : List ℕ). length l) are.joined.1 in let one = length-offsets 0 outers in let other = ap (λ (l : List (List Point)). length l) (flat_map-alone outer_of polygons) in omega (arith, ends, one, other)) in
    let shapes : shape_ends' ≡ offsets 0 (singles ++ (outer ∷ []) ∷ []) =
    shapes_are ∙ ap₂ (λ (first : List ℕ) (end : ℕ). first ++ end ∷ []) are.alone many ∙ sym (offsets-append 0 singles ((outer ∷ []) ∷ [])) in
    record {
      joined = (joined ∙ ap (λ (l : List (List Point)). flat_map (λ (ring : List Point). ring) l) (sym grown), rings ∙ ap (λ (l : List (List Point)). offsets 0 l) (sym grown));
      alone = shapes ∙ ap (λ (l : List (List (List Point))). offsets 0 l) (sym (map_push (λ (p : List (List Point)). outer_of p ∷ []) polygons polygon));
      middles_are = ap (λ (l : List HalfPoint). map halved l) middles_are ∙ map_push halved middles middle
          ∙ ap₂ (λ (first : List RationalPoint) (last : RationalPoint). first ++ last ∷ []) are.middles_are middle_is ∙ sym (map_push (λ (p : List (List Point)). middle_of (outer_of p)) polygons polygon);
    }

alone-edges : (polygons : List (List (List Point))) → map shape_edges (map (λ polygon. outer_of polygon ∷ []) polygons) ≡ map (λ polygon. ring_edges (outer_of polygon)) polygons
alone-edges [] = refl
alone-edges (polygon ∷ polygons) = ap₂ (λ (first : List Edge) (others : List (List Edge)). first ∷ others) (append-nil (ring_edges (outer_of polygon))) (alone-edges polygons)

module _ (polygons : List (List (List Point))) (points : List Point) (ring_ends shape_ends : List ℕ) (middles : List HalfPoint) (are : AreOuters polygons points ring_ends shape_ends middles) where
  -- their edges, polygon by polygon
  pub outer-edges : map shape_edges (lists_of (lists_of points 0 ring_ends) 0 shape_ends) ≡ map (λ polygon. ring_edges (outer_of polygon)) polygons
  outer-edges =
      let rings = lists_of-joined (map outer_of polygons) points ring_ends are.joined in
      let shapes : lists_of (map outer_of polygons) 0 shape_ends ≡ map (λ (p : List (List Point)). outer_of p ∷ []) polygons =
      lists_of-joined (map (λ (p : List (List Point)). outer_of p ∷ []) polygons) (map outer_of polygons) shape_ends (sym (flat_map-alone outer_of polygons), are.alone) in
      ap (λ (l : List (List Point)). map shape_edges (lists_of l 0 shape_ends)) rings
      ∙ ap (λ (l : List (List (List Point))). map shape_edges l) shapes
      ∙ alone-edges polygons

  -- they stop where they can
  pub outer-ends : AreEnds 0 ring_ends (length points) × AreEnds 0 shape_ends (length ring_ends)
  outer-ends =
      let outers = map outer_of polygons in
      let singles = map (λ (p : List (List Point)). outer_of p ∷ []) polygons in
      let (points_are, ends_are) = are.joined in
      let size = ap (λ (l : List Point). length l) points_are in
      let ends = ap (λ (l : List ℕ). length l) ends_are in
      let one = length-offsets 0 outers in
      let other = ap (λ (l : List (List Point)). length l) (flat_map-alone outer_of polygons) in (
        subst (λ (stops : List ℕ). AreEnds 0 stops (length points)) (sym ends_are) (AreEnds-offsets 0 outers (length points) (omega (arith, size))),
        subst (λ (stops : List ℕ). AreEnds 0 stops (length ring_ends)) (sym are.alone) (AreEnds-offsets 0 singles (length ring_ends) (omega (arith, ends, one, other))),
      )

-- the same of lists that are the same
pub AreOuters-same : (polygons : List (List (List Point))) (points points' : List Point) (ring_ends ring_ends' shape_ends shape_ends' : List ℕ) (middles middles' : List HalfPoint) → AreOuters polygons points ring_ends shape_ends middles → points' ≡ points → ring_ends' ≡ ring_ends → shape_ends' ≡ shape_ends → middles' ≡ middles
    → AreOuters polygons points' ring_ends' shape_ends' middles'
AreOuters-same polygons points points' ring_ends ring_ends' shape_ends shape_ends' middles middles' are same_points same_rings same_shapes same_middles = record {
  joined = (same_points ∙ are.joined.0, same_rings ∙ are.joined.1);
  alone = same_shapes ∙ are.alone;
  middles_are = ap (λ (all : List HalfPoint). map halved all) same_middles ∙ are.middles_are;
}
