-- Rings that are directed, one after another.
use Rattle.std.proofs.Common.{◌≡◌, ℕ, ◌+◌, ◌-◌, ◌<◌, ◌≤◌, Bool, true, false, eqb, List, [], ◌∷◌, ◌++◌, get_or, length, map, take, drop, refl, ap, sym, ◌∙◌, append-nil, arith}
use Rattle.std.specs.List.{between}
use Rattle.std.proofs.lemmas.Bool.{eqb-false, eqb-true}
use Rattle.std.proofs.lemmas.List.{length-drop, length-take, map-append, map_more}
use Rattle.std.proofs.lemmas.List.Concat.{flat_map-append}
use Rattle.plane.specs.declared.point.Point.{Point}
use Rattle.overlay.specs.Polygons.{rings_of}
use Rattle.tiles.proofs.JoinLists.{between-more}
use Rattle.validity.specs.Given.{directed, turned}

-- one ring more: the first one is an outer one
directed-more : (rings : List (List Point)) (ring : List Point) → directed (rings ++ ring ∷ []) ≡ directed rings ++ turned (eqb (length rings) 0) ring ∷ []
directed-more [] ring = refl
directed-more (outer ∷ holes) ring =
    ap (λ (list : List (List Point)). turned true outer ∷ list) (map-append (turned false) holes (ring ∷ []))
    ∙ ap (λ (is_outer : Bool). (turned true outer ∷ map (turned false) holes) ++ turned is_outer ring ∷ []) (sym (some-apart (eqb (length (outer ∷ holes)) 0) refl))
  where
    some-apart : (t : Bool) → eqb (length (outer ∷ holes)) 0 ≡ t → eqb (length (outer ∷ holes)) 0 ≡ false
    some-apart false e = e
    some-apart true e = absurd (let none = eqb-true (length (outer ∷ holes)) 0 e in omega (arith, none))

same-test : (a b c d : ℕ) → (a ≡ b → c ≡ d) → (c ≡ d → a ≡ b) → eqb a b ≡ eqb c d
same-test a b c d forth back = by (eqb a b) (eqb c d) refl refl
  where
    by : (s t : Bool) → eqb a b ≡ s → eqb c d ≡ t → s ≡ t
    by true true e f = refl
    by false false e f = refl
    by true false e f = absurd (eqb-false c d f (forth (eqb-true a b e)))
    by false true e f = absurd (eqb-false a b e (back (eqb-true c d f)))

-- the ring at a place behind those from another place on
pub directed-step : (rings : List (List Point)) (first place : ℕ) → first ≤ place → place < length rings
    → directed (between first (place + 1) rings) ≡ directed (between first place rings) ++ turned (eqb place first) (get_or rings place []) ∷ []
directed-step rings first place onwards within =
    let size = length-take (place - first) (drop first rings) in
    let rest = length-drop first rings in
    ap directed (between-more rings first place [] onwards within)
    ∙ directed-more (between first place rings) (get_or rings place [])
    ∙ ap (λ (is_outer : Bool). directed (between first place rings) ++ turned is_outer (get_or rings place []) ∷ [])
    (same-test (length (between first place rings)) 0 place first (λ none. omega (arith, none, size, rest, onwards, within)) (λ same. omega (arith, same, size, rest)))

-- the rings of one polygon more
pub polygons-step : (polygons : List (List (List Point))) (place : ℕ) → place < length polygons
    → rings_of (map directed (take (place + 1) polygons)) ≡ rings_of (map directed (take place polygons)) ++ directed (get_or polygons place [])
polygons-step polygons place within =
    ap (λ (list : List (List (List Point))). rings_of list) (map_more directed polygons place [] within)
    ∙ flat_map-append (λ (polygon : List (List Point)). polygon) (map directed (take place polygons)) (directed (get_or polygons place []) ∷ [])
    ∙ ap (λ (rings : List (List Point)). rings_of (map directed (take place polygons)) ++ rings) (append-nil (directed (get_or polygons place [])))
