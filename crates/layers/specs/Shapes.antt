-- Shapes, each of which is some rings, and groups of shapes.
use Rattle.std.specs.Prelude.{ℕ, ◌<◌, List, [], ◌∷◌, All, get_or, length, map}
use Rattle.std.specs.List.{between, flat_map}
use Rattle.plane.specs.declared.edge.Edge.{Edge}
use Rattle.plane.specs.declared.point.Point.{Point}
use Rattle.overlay.specs.Contours.Rings.{ring_edges}
use Rattle.overlay.specs.Rings.{AreEnds}
use Rattle.layers.specs.declared.shapes.Shapes.{Shapes}
use Rattle.layers.specs.declared.shapes.Groups.{Groups}

-- The lists that stop at these ends: each has the items from where the one before it stops, up to where it stops.
abbrev pub lists_of : {X : Type 0} → List X → ℕ → List ℕ → List (List X)
lists_of items start [] = []
lists_of items start (end ∷ ends) = between start end items ∷ lists_of items end ends

-- Where the list at this place starts: where the one before it stops.
abbrev pub start_of : List ℕ → ℕ → ℕ
start_of ends place = get_or (0 ∷ ends) place 0

-- Each ring stops where it begins or later, and none behind the points; and so do the shapes among the rings.
abbrev pub HasShapes : Shapes → Type 0
HasShapes shapes = AreEnds 0 shapes.ring_ends.now (length shapes.points.now) × AreEnds 0 shapes.shape_ends.now (length shapes.ring_ends.now)

-- All rings.
abbrev pub all_rings : Shapes → List (List Point)
all_rings shapes = lists_of shapes.points.now 0 shapes.ring_ends.now

-- The rings of each shape.
abbrev pub shapes_of : Shapes → List (List (List Point))
shapes_of shapes = lists_of (all_rings shapes) 0 shapes.shape_ends.now

-- The points of all rings of a shape, one ring after another.
abbrev pub shape_points : List (List Point) → List Point
shape_points rings = flat_map (λ ring. ring) rings

-- The edges of all rings of a shape.
abbrev pub shape_edges : List (List Point) → List Edge
shape_edges rings = flat_map ring_edges rings

-- The edges of each shape.
abbrev pub edges_of_each : Shapes → List (List Edge)
edges_of_each shapes = map shape_edges (shapes_of shapes)

-- Each group stops where it begins or later, and none behind the places.
abbrev pub HasGroups : Groups → Type 0
HasGroups groups = AreEnds 0 groups.ends.now (length groups.places.now)

-- Each place is that of one of so many shapes.
abbrev pub AreNamed : ℕ → Groups → Type 0
AreNamed count groups = All (λ place. place < count) groups.places.now

-- The places of the shapes of each group.
abbrev pub groups_of : Groups → List (List ℕ)
groups_of groups = lists_of groups.places.now 0 groups.ends.now

-- The rings of the shapes at these places, one shape after another.
abbrev pub rings_at : Shapes → List ℕ → List (List Point)
rings_at shapes places = flat_map (λ place. get_or (shapes_of shapes) place []) places

-- For each group the edges of its shapes, one shape after another.
abbrev pub edges_of_groups : Shapes → Groups → List (List Edge)
edges_of_groups shapes groups = map (λ places. shape_edges (rings_at shapes places)) (groups_of groups)
