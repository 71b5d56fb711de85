-- What is written, as it is read again.
use Rattle.std.specs.Prelude.{◌≡◌, ℕ, ◌+◌, ◌^◌, ◌<◌, Bool, true, false, List, [], ◌∷◌, length, map, Ok}
use Rattle.std.specs.List.{AllByRecursion}
use Rattle.grid.specs.declared.position.Position.{Position}
use Rattle.wkb.specs.declared.structure.RingAt.{RingAt}
use Rattle.wkb.specs.Format.{layout_of}
use Rattle.wkb.specs.Coordinates.{positions_of}

-- A ring that was read: whether it is a hole, and its positions.
abbrev pub ring_read : List ℕ → RingAt → Bool × List Position
ring_read bytes ring = (ring.is_hole, positions_of bytes ring)

-- The bytes are a shape of these rings.
abbrev pub IsReadAs : ℕ → List ℕ → List (Bool × List Position) → Type 0
IsReadAs most_nested bytes rings = (places : List RingAt) × (layout_of most_nested bytes ≡ Ok places) × (map (ring_read bytes) places ≡ rings)

-- The rings of a polygon: the first is the outer one, and those behind it are holes.
abbrev pub marks : Bool → List (List Position) → List (Bool × List Position)
marks is_hole [] = []
marks is_hole (ring ∷ others) = (is_hole, ring) ∷ marks true others

-- The rings of a polygon, of which the first is no hole.
abbrev pub rings_of : List (List Position) → List (Bool × List Position)
rings_of rings = marks false rings

-- What has room in the format.
abbrev pub IsPosition : Position → Type 0
IsPosition position = (position.x < 2 ^ 64) × (position.y < 2 ^ 64)

abbrev pub IsRing : List Position → Type 0
IsRing positions = (length positions + 1 < 2 ^ 32) × AllByRecursion IsPosition positions

-- A polygon that has room in the format.
abbrev pub IsPolygon : List (List Position) → Type 0
IsPolygon rings = (length rings < 2 ^ 32) × AllByRecursion IsRing rings

-- Polygons that have.
abbrev pub ArePolygons : List (List (List Position)) → Type 0
ArePolygons polygons = (length polygons < 2 ^ 32) × AllByRecursion IsPolygon polygons
