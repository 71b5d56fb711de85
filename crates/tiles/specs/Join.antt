-- Polygons of several windows, joined.
use Rattle.std.specs.Int.{int_max, int_min}
use Rattle.std.specs.List.{between, flat_map}
use Rattle.std.specs.Prelude.{◌≡◌, ◌≢◌, ◌⊎◌, ◌++◌, ◌≤ℤ◌, ℕ, Bool, cond, not, List, [], ◌∷◌, All, AllPairs, codes, filter, get_or, length, pos, zip}
use Rattle.plane.specs.declared.point.Point.{Point}
use Rattle.plane.specs.Meet.Edges.{RationalPoint}
use Rattle.noding.specs.Windings.{winding}
use Rattle.overlay.specs.declared.fill.rules.FillRule.TheVariants.{Positive}
use Rattle.overlay.specs.declared.fill.rules.Operation.TheVariants.{Union}
use Rattle.overlay.specs.Overlay.{IsOverlay, polygon_edges}
use Rattle.overlay.specs.Polygons.{rings_of}
use Rattle.overlay.specs.Rings.{AreEnds, HasEnds}
use Rattle.overlay.specs.declared.rings.Rings.{Rings}
use Rattle.tiles.specs.Part.{IsPart, at_border, comes_to_border}
use Rattle.tiles.specs.Window.{HasPoints, InWindow, IsWithin}
use Rattle.tiles.specs.declared.join_fault.JoinFault.{JoinFault}
use Rattle.tiles.specs.declared.join_fault.JoinFault.TheVariants.{Lengths, Empty, Overlap, Outside, Covered, OutOfMemory}
use Rattle.tiles.specs.declared.joined.given.Tiles.{Tiles}
use Rattle.tiles.specs.declared.window.Window.{Window}

-- ---- what is given

-- A window, and polygons in it.
abbrev pub Tile : Type 0
Tile = Window × List (List (List Point))

-- The lists that stop at these ends: each has the items from where the one before it stops, up to where it stops.
abbrev pub lists_of : {X : Type 0} → List X → ℕ → List ℕ → List (List X)
lists_of items start [] = []
lists_of items start (end ∷ ends) = between start end items ∷ lists_of items end ends

-- Where the list at this place starts: where the one before it stops.
abbrev pub start_at : List ℕ → ℕ → ℕ
start_at ends place = get_or (0 ∷ ends) place 0

-- Each list stops where it begins or later, and the last behind all of so many items.
abbrev pub StopAll : List ℕ → ℕ → Type 0
StopAll ends count = AreEnds 0 ends count × (start_at ends (length ends) ≡ count)

-- All rings.
abbrev pub all_rings : Rings → List (List Point)
all_rings rings = lists_of rings.points.now 0 rings.ends.now

-- All polygons.
abbrev pub polygons_of : Tiles → List (List (List Point))
polygons_of tiles = lists_of (all_rings tiles.rings) 0 tiles.polygon_ends.now

-- Each window, and its polygons.
abbrev pub tiles_of : Tiles → List Tile
tiles_of tiles = zip tiles.windows.now (lists_of (polygons_of tiles) 0 tiles.tile_ends.now)

-- Rings, polygons and tiles stop where they can. Each ring is of a polygon, each polygon of a tile, and each tile of a window.
pub record HasTiles (tiles : Tiles) : Type 0 where
  pub rings : HasEnds tiles.rings
  pub polygons : StopAll tiles.polygon_ends.now (length tiles.rings.ends.now)
  pub tiles_are : StopAll tiles.tile_ends.now (length tiles.polygon_ends.now)
  pub as_many : length tiles.tile_ends.now ≡ length tiles.windows.now

-- No point lies in both windows.
abbrev pub AreApart : Window → Window → Type 0
AreApart one other = (point : RationalPoint) → InWindow one point → ¬ (InWindow other point)

-- The other window lies in the one.
pub record IsIn (whole window : Window) : Type 0 where
  pub left : whole.left ≤ℤ window.left
  pub low : whole.low ≤ℤ window.low
  pub right : window.right ≤ℤ whole.right
  pub high : window.high ≤ℤ whole.high

-- The points of a tile's polygons.
abbrev pub tile_points : Tile → List Point
tile_points tile = flat_map (λ ring. ring) (rings_of tile.1)

-- They all lie in its window, or on its sides.
abbrev pub LiesWithin : Tile → Type 0
LiesWithin tile = All (IsWithin tile.0) (tile_points tile)

-- Tiles that can be joined, if those of their polygons that come to a border cover no point twice.
pub record CanJoin (tiles : Tiles) : Type 0 where
  pub lengths : HasTiles tiles
  pub some : All HasPoints tiles.windows.now
  pub apart : AllPairs AreApart tiles.windows.now
  pub within : All LiesWithin (tiles_of tiles)

-- ---- what comes of it

-- The polygons that come to the border of their window.
abbrev pub bordering_of : List Tile → List (List (List Point))
bordering_of tiles = flat_map (λ tile. at_border tile.0 tile.1) tiles

-- The others.
abbrev pub inner_of : List Tile → List (List (List Point))
inner_of tiles = flat_map (λ tile. filter (λ polygon. not (comes_to_border tile.0 polygon)) tile.1) tiles

-- All polygons.
abbrev pub all_of : List Tile → List (List (List Point))
all_of tiles = flat_map (λ tile. tile.1) tiles

-- The polygons of each window are a part.
abbrev pub AreParts : List Tile → Type 0
AreParts tiles = All (λ tile. IsPart tile.0 tile.1) tiles

-- Tiles as one set of polygons: what those that come to a border are united to, and the others as they are.
pub record IsJoined (tiles : List Tile) (polygons : List (List (List Point))) : Type 0 where
  pub united : List (List (List Point))
  pub are : polygons ≡ united ++ inner_of tiles
  pub is : IsOverlay Positive Union (polygon_edges (bordering_of tiles)) [] united
  -- Where those of each window are a part, those at borders wind once around a point or not at all,
  pub once : AreParts tiles → (point : RationalPoint) → (winding (polygon_edges (bordering_of tiles)) point ≡ pos 0) ⊎ (winding (polygon_edges (bordering_of tiles)) point ≡ pos 1)
  -- these wind around each point as all polygons of the tiles do together,
  pub winds : AreParts tiles → (point : RationalPoint) → winding (polygon_edges polygons) point ≡ winding (polygon_edges (all_of tiles)) point
  -- and are a part of each window that has all windows in it. So they wind around no point twice.
  pub part : AreParts tiles → (whole : Window) → All (λ tile. IsIn whole tile.0) tiles → IsPart whole polygons

-- ---- faults

-- The polygons wind around some point other than once or not at all.
abbrev pub WindOtherwise : List (List (List Point)) → Type 0
WindOtherwise polygons = (point : RationalPoint) × (winding (polygon_edges polygons) point ≢ pos 0) × (winding (polygon_edges polygons) point ≢ pos 1)

-- Why tiles weren't joined: the first of these.
abbrev pub IsJoinFault : Tiles → JoinFault → Type 0
IsJoinFault tiles Lengths = ¬ (HasTiles tiles)
IsJoinFault tiles Empty = HasTiles tiles × (¬ (All HasPoints tiles.windows.now))
IsJoinFault tiles Overlap = HasTiles tiles × All HasPoints tiles.windows.now × (¬ (AllPairs AreApart tiles.windows.now))
IsJoinFault tiles Outside = HasTiles tiles × All HasPoints tiles.windows.now × AllPairs AreApart tiles.windows.now × (¬ (All LiesWithin (tiles_of tiles)))
-- where polygons are no part their edges may be moved before it is found out
IsJoinFault tiles Covered = CanJoin tiles × (AreParts (tiles_of tiles) → WindOtherwise (bordering_of (tiles_of tiles)))
IsJoinFault tiles OutOfMemory = CanJoin tiles

-- what a fault prints
abbrev pub fault_text : JoinFault → List ℕ
fault_text Lengths = codes "rings, polygons or windows don't stop where they can"
fault_text Empty = codes "no point lies in a window"
fault_text Overlap = codes "two windows have a common point"
fault_text Outside = codes "a polygon leaves its window"
fault_text Covered = codes "polygons at a border don't cover each point once or not at all"
fault_text OutOfMemory = codes "memory was refused"

-- ---- for private contracts

-- The one window lies beyond a side of the other one.
abbrev pub AreBeside : Window → Window → Type 0
AreBeside one other = (one.right ≤ℤ other.left) ⊎ ((other.right ≤ℤ one.left) ⊎ ((one.high ≤ℤ other.low) ⊎ (other.high ≤ℤ one.low)))

-- The least window that has both in it.
abbrev pub around_both : Window → Window → Window
around_both one other = record {
  left = int_min one.left other.left;
  low = int_min one.low other.low;
  right = int_max one.right other.right;
  high = int_max one.high other.high;
}

abbrev pub no_tile : Tile
no_tile = (record { left = pos 0; low = pos 0; right = pos 0; high = pos 0 }, [])

-- The polygons of a tile that come to its border, or the others.
abbrev pub those_of : Bool → Tile → List (List (List Point))
those_of bordering tile = filter (λ polygon. cond bordering (comes_to_border tile.0 polygon) (not (comes_to_border tile.0 polygon))) tile.1

abbrev pub those : Bool → List Tile → List (List (List Point))
those bordering tiles = flat_map (those_of bordering) tiles
