-- Polygons as well-known binary, as they are written.
use Rattle.std.specs.Prelude.{◌≡◌, ℕ, ◌+◌, ◌-◌, ◌<◌, ◌≤◌, zero, suc, List, [], ◌∷◌, ◌++◌, length, map, slice_index, slice_range, ◌==◌, if◌then◌else◌}
use Rattle.std.specs.List.{flat_map, range_with_len}
use Rattle.std.specs.Int.{w32, w64, to_le_bytes}
use Rattle.grid.specs.declared.position.Position.{Position}
use Rattle.grid.specs.declared.units.Grid.{Grid}
use Rattle.grid.specs.Grid.{IsWrittenAt}
use Rattle.plane.specs.declared.point.Point.{Point}
use Rattle.wkb.specs.declared.writing.Form.{Form}
use Rattle.wkb.specs.declared.writing.Form.TheVariants.{MultiPolygon, EachPolygon}

-- A number of four bytes, the lowest of them first.
abbrev pub four : ℕ → List ℕ
four number = to_le_bytes w32 number

-- A double, the lowest byte first.
abbrev pub eight : ℕ → List ℕ
eight double = to_le_bytes w64 double

-- A position: x, and then y.
unfoldable pub place : Position → List ℕ
place position = eight position.x ++ eight position.y

-- A ring that has positions ends with its first one again.
abbrev pub closed : List Position → List Position
closed [] = []
closed (first ∷ others) = first ∷ others ++ first ∷ []

unfoldable pub ring : List Position → List ℕ
ring positions = four (length (closed positions)) ++ flat_map place (closed positions)

-- The order of the bytes, the type, and the reference system where one is told, behind a type with PostGIS's flag for it.
unfoldable pub head : ℕ → ℕ → List ℕ
head kind srid = 1 ∷ (if srid == 0 then four kind else four (536870912 + kind) ++ four srid)

-- The bytes of a polygon.
unfoldable pub polygon : ℕ → List (List Position) → List ℕ
polygon srid rings = head 3 srid ++ four (length rings) ++ flat_map ring rings

-- One multipolygon, or each polygon by itself, one after the other.
unfoldable pub written : Form → ℕ → List (List (List Position)) → List ℕ
written MultiPolygon srid polygons = head 6 srid ++ four (length polygons) ++ flat_map (polygon 0) polygons
written EachPolygon srid polygons = flat_map (polygon srid) polygons

-- ---- what is written, as positions and where each ring and each polygon stops

-- Where a piece starts: where the one before it stops.
abbrev pub start_of : List ℕ → ℕ → ℕ
start_of ends zero = 0
start_of ends (suc index) = slice_index ends index

-- Each piece stops where it starts or later, and none behind the limit.
abbrev pub AreEnds : List ℕ → ℕ → Type 0
AreEnds ends limit = (index : ℕ) → index < length ends → (start_of ends index ≤ slice_index ends index) × (slice_index ends index ≤ limit)

unfoldable pub ring_of : List Position → List ℕ → ℕ → List Position
ring_of positions ring_ends index = slice_range positions (start_of ring_ends index) (slice_index ring_ends index)

unfoldable pub polygon_of : List Position → List ℕ → List ℕ → ℕ → List (List Position)
polygon_of positions ring_ends polygon_ends index =
    let start = start_of polygon_ends index in
    map (ring_of positions ring_ends) (range_with_len start (slice_index polygon_ends index - start))

-- All polygons, from where each stops.
unfoldable pub polygons_of : List Position → List ℕ → List ℕ → List (List (List Position))
polygons_of positions ring_ends polygon_ends = map (polygon_of positions ring_ends polygon_ends) (range_with_len 0 (length polygon_ends))

-- The points of a grid are written as the positions that they are.
pub record IsWritten (grid : Grid) (points : List Point) (ring_ends polygon_ends : List ℕ) (form : Form) (srid : ℕ) (bytes : List ℕ) : Type 0 where
  pub positions : List Position
  pub count : length positions ≡ length points
  pub each : (k : ℕ) → k < length points → IsWrittenAt grid points positions k
  pub text : bytes ≡ written form srid (polygons_of positions ring_ends polygon_ends)
