-- Of all polygons' edges those of one.
use Rattle.std.proofs.Common.{ℕ, zero, suc, ◌<◌, List, [], ◌∷◌, get_or, length, map, sym, subst, arith}
use Rattle.std.specs.List.{Contains, flat_map}
use Rattle.std.proofs.lemmas.List.Concat.{flat_map-append}
use Rattle.std.proofs.lemmas.List.Elements.{Contains-append_left, Contains-append_right}
use Rattle.plane.specs.declared.edge.Edge.{Edge}
use Rattle.plane.specs.declared.point.Point.{Point}
use Rattle.overlay.specs.Contours.Rings.{ring_edges}
use Rattle.overlay.specs.Overlay.{polygon_edges}
use Rattle.overlay.specs.Polygons.{rings_of}
use Rattle.tiles.proofs.JoinWinds.{AreUncrossed}
use Rattle.validity.specs.Given.{directed}

-- they are among all
own-among : (polygons : List (List (List Point))) (k : ℕ) (edge : Edge) → k < length polygons → Contains (flat_map ring_edges (directed (get_or polygons k []))) edge → Contains (polygon_edges (map directed polygons)) edge
own-among [] k edge within held = absurd (omega (arith, within))
own-among (polygon ∷ polygons) zero edge within held =
    subst (λ (edges : List Edge). Contains edges edge) (sym (flat_map-append ring_edges (directed polygon) (rings_of (map directed polygons))))
    (Contains-append_left (flat_map ring_edges (directed polygon)) (polygon_edges (map directed polygons)) edge held)
own-among (polygon ∷ polygons) (suc k) edge within held =
    subst (λ (edges : List Edge). Contains edges edge) (sym (flat_map-append ring_edges (directed polygon) (rings_of (map directed polygons))))
    (Contains-append_right (flat_map ring_edges (directed polygon)) (polygon_edges (map directed polygons)) edge (own-among polygons k edge (omega (arith, within)) held))

-- so none of one polygon cross at a point with fractions where none of all do
pub own-uncrossed : (polygons : List (List (List Point))) (k : ℕ) → k < length polygons → AreUncrossed (polygon_edges (map directed polygons)) → AreUncrossed (flat_map ring_edges (directed (get_or polygons k [])))
own-uncrossed polygons k within none one other x y held held_too = none one other x y (own-among polygons k one within held) (own-among polygons k other within held_too)
