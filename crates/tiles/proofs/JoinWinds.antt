-- How polygons of several windows wind around a point, and what they are joined to.
use Rattle.std.proofs.Common.{Bool, true, false, not, cond, ◌&&◌, ◌||◌, ◌≡◌, ◌≢◌, ◌⊎◌, inl, inr, ⊎_elim, ℤ, pos, negsuc, ◌+ℤ◌, ◌*ℤ◌, ◌<ℤ◌, ◌≤ℤ◌, List, [], ◌∷◌, ◌++◌, refl, ap, ap₂, sym, ◌∙◌, arith}
use Rattle.std.specs.Prelude.{int_lt}
use Rattle.std.specs.List.{All, AllPairs, Contains, filter}
use Rattle.std.proofs.lemmas.Int.{by_lt_z, ints}
use Rattle.std.proofs.lemmas.List.Elements.{All-head, All-tail, All-weaker, Contains-append_cases, Contains-append_left}
use Rattle.i_tree.proofs.RootLemmas.Lists.{AllPairs-head, AllPairs-tail}
use Rattle.plane.specs.declared.edge.Edge.{Edge}
use Rattle.plane.specs.declared.point.Point.{Point}
use Rattle.plane.specs.Meet.Edges.{RationalPoint}
use Rattle.noding.specs.Local.{CrossBeside}
use Rattle.noding.specs.Windings.{count, winding}
use Rattle.noding.proofs.SnapLemmas.Windings.{winding-added, winding-append}
use Rattle.overlay.specs.declared.fill.rules.FillRule.TheVariants.{NonZero, Positive}
use Rattle.overlay.specs.declared.fill.rules.Operation.TheVariants.{Intersection, Union}
use Rattle.overlay.specs.Contours.Rings.{ring_edges}
use Rattle.overlay.specs.Fill.Rules.{is_inside, is_result}
use Rattle.overlay.specs.Overlay.{IsOverlay, polygon_edges}
use Rattle.overlay.proofs.Callers.{exact-everywhere}
use Rattle.tiles.specs.Join.{AreApart, AreParts, Tile, all_of, bordering_of, inner_of}
use Rattle.tiles.specs.Part.{IsPart, at_border, comes_to_border}
use Rattle.tiles.specs.Tile.{turned_border}
use Rattle.tiles.specs.Window.{HasPoints, InWindow}
use Rattle.tiles.specs.declared.window.Window.{Window}
use Rattle.tiles.proofs.Border.{border-winds, borders-nothing}
use Rattle.tiles.proofs.JoinUncrossed.{edges-append}

never : true ≡ false → ⊥
never h = cc

-- ---- numbers

-- a number that isn't inside is 0
inside-not : (z : ℤ) → is_inside NonZero z ≡ false → z ≡ pos 0
inside-not z = by (int_lt (pos 0) z) (int_lt z (pos 0)) refl refl
  where
    by : (s t : Bool) → int_lt (pos 0) z ≡ s → int_lt z (pos 0) ≡ t → (s || t) ≡ false → z ≡ pos 0
    by false false e f none = omega (arith, ints, e, f)
    by true t e f none = absurd (never none)
    by false true e f none = absurd (never none)

-- where nothing is in both, one of them is 0
not-both : (w v : ℤ) → count (is_result NonZero Intersection w v) ≡ pos 0 → (w ≡ pos 0) ⊎ (v ≡ pos 0)
not-both w v = by (is_inside NonZero w) (is_inside NonZero v) refl refl
  where
    by : (s t : Bool) → is_inside NonZero w ≡ s → is_inside NonZero v ≡ t → count (s && t) ≡ pos 0 → (w ≡ pos 0) ⊎ (v ≡ pos 0)
    by false t e f none = inl (inside-not w e)
    by true false e f none = inr (inside-not v f)
    by true true e f none = absurd (omega (arith, ints, none))

-- and where one of them is, nothing is in both
one-none : (w v : ℤ) → (w ≡ pos 0) ⊎ (v ≡ pos 0) → count (is_result NonZero Intersection w v) ≡ pos 0
one-none w v (inl none) = ap (λ (z : ℤ). count (is_result NonZero Intersection z v)) none
one-none w v (inr none) = ap (λ (z : ℤ). count (is_result NonZero Intersection w z)) none ∙ by (is_inside NonZero w)
  where
    by : (test : Bool) → count (test && false) ≡ pos 0
    by true = refl
    by false = refl

-- what winds once or not at all is united to itself
united-once : (w v : ℤ) → v ≡ pos 0 → (w ≡ pos 0) ⊎ (w ≡ pos 1) → count (is_result Positive Union w v) ≡ w
united-once w v none (inl not_at_all) = ap₂ (λ (a b : ℤ). count (is_result Positive Union a b)) not_at_all none ∙ sym not_at_all
united-once w v none (inr once) = ap₂ (λ (a b : ℤ). count (is_result Positive Union a b)) once none ∙ sym once

-- nothing winds around nothing
pub nothing-winds : (point : RationalPoint) → winding [] point ≡ pos 0
nothing-winds point = winding-added [] point

-- ---- polygons at borders

-- Some edges cross nowhere at a point with fractions.
abbrev pub AreUncrossed : List Edge → Type 0
AreUncrossed edges = (one other : Edge) (x y : ℤ) → Contains edges one → Contains edges other → ¬ (CrossBeside one other x y)

-- a border clockwise winds less than not at all around its points
turned-winds : (whole : Window) → HasPoints whole → (point : RationalPoint) → (winding (ring_edges (turned_border whole)) point ≡ pos 0) ⊎ (winding (ring_edges (turned_border whole)) point ≡ negsuc 0)
turned-winds whole some point =
    let sum = borders-nothing whole point in
    ⊎_elim
    (λ inside. let once = inside.1 in inr (omega (arith, ints, once, sum)))
    (λ beside. let none = beside.1 in inl (omega (arith, ints, none, sum)))
    (border-winds whole some point)

module _ (edges sides : List Edge) (polygons : List (List (List Point))) (is : IsOverlay NonZero Intersection edges (edges ++ sides) polygons) (uncrossed : AreUncrossed (edges ++ sides)) where
  -- edges twice and sides are edges and sides
  among : (edge : Edge) → Contains (edges ++ (edges ++ sides)) edge → Contains (edges ++ sides) edge
  among edge held = ⊎_elim (λ first. Contains-append_left edges sides edge first) (λ second. second) (Contains-append_cases edges (edges ++ sides) edge held)

  -- so the test is exact
  pub tested : (point : RationalPoint) → winding (polygon_edges polygons) point ≡ count (is_result NonZero Intersection (winding edges point) (winding (edges ++ sides) point))
  tested = exact-everywhere NonZero Intersection edges (edges ++ sides) polygons is (λ one other x y first second. uncrossed one other x y (among one first) (among other second))

-- where the test finds nothing they wind once or not at all
pub finds-nothing : (edges : List Edge) (whole : Window) → HasPoints whole → IsOverlay NonZero Intersection edges (edges ++ ring_edges (turned_border whole)) [] → AreUncrossed (edges ++ ring_edges (turned_border whole))
    → (point : RationalPoint) → (winding edges point ≡ pos 0) ⊎ (winding edges point ≡ pos 1)
finds-nothing edges whole some is uncrossed point =
    let sides = ring_edges (turned_border whole) in
    let w = winding edges point in
    let none = sym (tested edges sides [] is uncrossed point) ∙ nothing-winds point in
    let sum = winding-append edges sides point in
    elim (not-both w (winding (edges ++ sides) point) none) [
      | inl not_at_all ↦ inl not_at_all
      | inr cancels ↦
          elim (turned-winds whole some point) [
            | inl beside ↦ inl (omega (arith, ints, sum, cancels, beside))
            | inr inside ↦ inr (omega (arith, ints, sum, cancels, inside))
          ]
    ]

-- and where it finds something they wind otherwise there
pub finds-some : (edges : List Edge) (whole : Window) (polygons : List (List (List Point))) → HasPoints whole → IsOverlay NonZero Intersection edges (edges ++ ring_edges (turned_border whole)) polygons
    → AreUncrossed (edges ++ ring_edges (turned_border whole)) → ((point : RationalPoint) → (winding edges point ≢ pos 0) → (winding edges point ≡ pos 1) → InWindow whole point)
    → (point : RationalPoint) → winding (polygon_edges polygons) point ≢ pos 0 → (winding edges point ≢ pos 0) × (winding edges point ≢ pos 1)
finds-some edges whole polygons some is uncrossed near point found =
    let sides = ring_edges (turned_border whole) in
    let exact = tested edges sides polygons is uncrossed point in
    let sum = winding-append edges sides point in
    let apart : winding edges point ≢ pos 0 = λ none. found (exact ∙ one-none (winding edges point) (winding (edges ++ sides) point) (inl none)) in (
      apart,
      λ once. found (exact ∙ one-none (winding edges point) (winding (edges ++ sides) point) (inr (cancelled once (near point apart once)))),
    )
  where
    cancelled : winding edges point ≡ pos 1 → InWindow whole point → winding (edges ++ ring_edges (turned_border whole)) point ≡ pos 0
    cancelled once within =
        let sum = winding-append edges (ring_edges (turned_border whole)) point in
        let both = borders-nothing whole point in
        elim (border-winds whole some point) [
          | inl inside ↦ let around = inside.1 in omega (arith, ints, sum, both, around, once)
          | inr beside ↦ absurd (beside.0 within)
        ]

-- what is united winds as they do
pub unites : (edges : List Edge) (united : List (List (List Point))) → IsOverlay Positive Union edges [] united → AreUncrossed edges → (point : RationalPoint) → (winding edges point ≡ pos 0) ⊎ (winding edges point ≡ pos 1)
    → winding (polygon_edges united) point ≡ winding edges point
unites edges united is uncrossed point once =
    exact-everywhere Positive Union edges [] united is (λ one other x y first second. uncrossed one other x y (alone one first) (alone other second)) point
    ∙ united-once (winding edges point) (winding [] point) (nothing-winds point) once
  where
    alone : (edge : Edge) → Contains (edges ++ []) edge → Contains edges edge
    alone edge held = ⊎_elim (λ first. first) (λ (k, within, at). absurd (omega (arith, within))) (Contains-append_cases edges [] edge held)

-- ---- sums

module _ (point : RationalPoint) where
  abbrev around : List (List (List Point)) → ℤ
  around polygons = winding (polygon_edges polygons) point

  pub around-append : (polygons others : List (List (List Point))) → around (polygons ++ others) ≡ (around polygons +ℤ around others)
  around-append polygons others = ap (λ (edges : List Edge). winding edges point) (edges-append polygons others) ∙ winding-append (polygon_edges polygons) (polygon_edges others) point

  -- those that pass a test and those that don't are all
  around-parted : (test : List (List Point) → Bool) (polygons : List (List (List Point))) → (around (filter test polygons) +ℤ around (filter (λ polygon. not (test polygon)) polygons)) ≡ around polygons
  around-parted test [] = let none = nothing-winds point in omega (arith, ints, none)
  around-parted test (polygon ∷ polygons) = by (filter test polygons) (filter (λ (one : List (List Point)). not (test one)) polygons) (around-parted test polygons) (test polygon)
    where
      by : (passed others : List (List (List Point))) → (around passed +ℤ around others) ≡ around polygons → (t : Bool)
          → (around (cond t (polygon ∷ passed) passed) +ℤ around (cond (not t) (polygon ∷ others) others)) ≡ around (polygon ∷ polygons)
      by passed others rest true =
          let sum = around-append (polygon ∷ []) polygons in
          let more = around-append (polygon ∷ []) passed in
          omega (arith, ints, rest, sum, more)
      by passed others rest false =
          let sum = around-append (polygon ∷ []) polygons in
          let more = around-append (polygon ∷ []) others in
          omega (arith, ints, rest, sum, more)

  -- those at borders and the others are all
  pub around-tiles : (tiles : List Tile) → (around (bordering_of tiles) +ℤ around (inner_of tiles)) ≡ around (all_of tiles)
  around-tiles [] = let none = nothing-winds point in omega (arith, ints, none)
  around-tiles (tile ∷ tiles) =
      let inner = filter (λ (polygon : List (List Point)). not (comes_to_border tile.0 polygon)) tile.1 in
      let here = around-parted (comes_to_border tile.0) tile.1 in
      let rest = around-tiles tiles in
      let a = around-append (at_border tile.0 tile.1) (bordering_of tiles) in
      let b = around-append inner (inner_of tiles) in
      let c = around-append tile.1 (all_of tiles) in
      omega (arith, ints, here, rest, a, b, c)

  -- ---- windows with no common point

  -- a point lies in a window or it doesn't
  pub in-or-not : (window : Window) → InWindow window point ⊎ ¬ (InWindow window point)
  in-or-not window =
      by_lt_z point.x (pos point.n *ℤ window.left)
      (λ left. inr (λ is. never_both _ _ left is.from_left))
      (λ from. by_lt_z point.x (pos point.n *ℤ window.right)
      (λ before. by_lt_z point.y (pos point.n *ℤ window.low)
      (λ below. inr (λ is. never_both _ _ below is.from_low))
      (λ over. by_lt_z point.y (pos point.n *ℤ window.high)
      (λ under. inl (record { from_left = from; before_right = before; from_low = over; below_high = under }))
      (λ above. inr (λ is. never_both _ _ is.below_high above))))
      (λ past. inr (λ is. never_both _ _ is.before_right past)))
    where
      never_both : (a b : ℤ) → a <ℤ b → b ≤ℤ a → ⊥
      never_both a b less upto = omega (arith, ints, less, upto)

  -- around a point of none of the windows nothing winds
  pub around-none : (tiles : List Tile) → AreParts tiles → All (λ tile. ¬ (InWindow tile.0 point)) tiles → around (all_of tiles) ≡ pos 0
  around-none [] parts none = nothing-winds point
  around-none (tile ∷ tiles) parts none =
      let sum = around-append tile.1 (all_of tiles) in
      let here = (All-head (λ (some : Tile). IsPart some.0 some.1) tile tiles parts).outside point (All-head (λ (some : Tile). ¬ (InWindow some.0 point)) tile tiles none) in
      let rest = around-none tiles (All-tail (λ (some : Tile). IsPart some.0 some.1) tile tiles parts) (All-tail (λ (some : Tile). ¬ (InWindow some.0 point)) tile tiles none) in
      omega (arith, ints, sum, here, rest)

  -- and around no point more than once
  pub around-once : (tiles : List Tile) → AreParts tiles → AllPairs (λ one other. AreApart one.0 other.0) tiles → (around (all_of tiles) ≡ pos 0) ⊎ (around (all_of tiles) ≡ pos 1)
  around-once [] parts apart = inl (nothing-winds point)
  around-once (tile ∷ tiles) parts apart =
      let sum = around-append tile.1 (all_of tiles) in
      let part = All-head (λ (some : Tile). IsPart some.0 some.1) tile tiles parts in
      let others = All-tail (λ (some : Tile). IsPart some.0 some.1) tile tiles parts in
      let from = AllPairs-head (λ (one other : Tile). AreApart one.0 other.0) tile tiles apart in
      elim (in-or-not tile.0) [
        | inl within ↦
            let rest = around-none tiles others (All-weaker (λ (other : Tile). AreApart tile.0 other.0) (λ (other : Tile). ¬ (InWindow other.0 point)) (λ other none. none point within) tiles from) in
            elim (part.once point) [
              | inl none ↦ inl (omega (arith, ints, sum, rest, none))
              | inr once ↦ inr (omega (arith, ints, sum, rest, once))
            ]
        | inr out ↦
            let here = part.outside point out in
            elim (around-once tiles others (AllPairs-tail (λ (one other : Tile). AreApart one.0 other.0) tile tiles apart)) [
              | inl none ↦ inl (omega (arith, ints, sum, here, none))
              | inr once ↦ inr (omega (arith, ints, sum, here, once))
            ]
      ]
