-- Groups of shapes, and the rings of several shapes in one list.
use Rattle.std.specs.Prelude.{◌≡◌, ◌++◌, ℕ, ◌<◌, List, All, length}
use Rattle.std.specs.List.{flat_map}
use Rattle.plane.specs.declared.edge.Edge.{Edge}
use Rattle.plane.specs.declared.point.Point.{Point}
use Rattle.noding.specs.Offsets.{offsets}
use Rattle.layers.specs.declared.gathered.Group.{Group}
use Rattle.layers.specs.Shapes.{HasShapes, rings_at, shape_edges}

-- The ends of the shapes are right, and each place is that of one of them.
abbrev pub HasGroup : Group → Type 0
HasGroup group = HasShapes group.shapes × All (λ place. place < length group.shapes.shape_ends.now) group.places.now

-- The rings of the group's shapes, one shape after another.
abbrev pub group_rings : Group → List (List Point)
group_rings group = rings_at group.shapes group.places.now

-- The edges of all rings of the group.
abbrev pub group_edges : Group → List Edge
group_edges group = shape_edges (group_rings group)

-- Lists stand behind what stood there: their items, and where each stops among these.
pub record AreGathered {X : Type 0} (lists : List (List X)) (items items' : List X) (ends ends' : List ℕ) : Type 0 where
  pub items_are : items' ≡ items ++ flat_map (λ list. list) lists
  pub ends_are : ends' ≡ ends ++ offsets (length items) lists
