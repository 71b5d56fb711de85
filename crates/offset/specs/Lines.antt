-- Lines that grow: the points that some point of a path and some point of a shape add up to, and the rings around these.
use Rattle.std.specs.List.{flat_map}
use Rattle.std.specs.Prelude.{◌⊎◌, List, [], ◌∷◌, ◌++◌, All, Contains, map}
use Rattle.plane.specs.declared.edge.Edge.{Edge}
use Rattle.plane.specs.declared.point.Point.{Point}
use Rattle.plane.specs.Ends.{edge_between, end_of, reversed, start_of}
use Rattle.plane.specs.Meet.Edges.{IsOf, RationalPoint}
use Rattle.plane.specs.Meet.Kinds.{IsAt}
use Rattle.noding.specs.Windings.{pieces}
use Rattle.overlay.specs.declared.fill.rules.FillRule.TheVariants.{NonZero}
use Rattle.offset.specs.Minkowski.{IsAround, IsWound}
use Rattle.offset.specs.Raw.{furthest, moved_edge}
use Rattle.offset.specs.Shape.{sides}
use Rattle.offset.specs.Sum.{IsOfSumWith}

-- The point is of a path: it is one of the path's points, or lies on the way from one to the next.
abbrev pub IsOfPath : List Point → RationalPoint → Type 0
IsOfPath path point = ((at : Point) × Contains path at × IsAt point at.x at.y) ⊎ ((edge : Edge) × Contains (pieces path) edge × IsOf edge point)

-- It is of one of the paths.
abbrev pub IsOfPaths : List (List Point) → RationalPoint → Type 0
IsOfPaths paths point = (path : List Point) × Contains paths path × IsOfPath path point

-- The sides of the shape, moved to a point.
abbrev pub shape_at : List Point → Point → List Edge
shape_at corners point = map (moved_edge point) (sides corners)

-- The parallelogram along an edge: the edge moved by the corner that lies furthest to the right of it, and back moved by the one
-- that lies furthest to the left.
abbrev pub along : List Point → Edge → List Edge
along corners edge =
    moved_edge (furthest corners edge) edge
    ∷ moved_edge (end_of edge) (edge_between (furthest corners edge) (furthest corners (reversed edge)))
    ∷ moved_edge (furthest corners (reversed edge)) (reversed edge)
    ∷ moved_edge (start_of edge) (edge_between (furthest corners (reversed edge)) (furthest corners edge))
    ∷ []

-- The shape at each point of a path, and the parallelograms along its edges.
abbrev pub raw_of_path : List Point → List Point → List Edge
raw_of_path corners path = flat_map (shape_at corners) path ++ flat_map (along corners) (pieces path)

-- Those of paths, one path after another.
abbrev pub raw_of_paths : List Point → List (List Point) → List Edge
raw_of_paths corners paths = flat_map (raw_of_path corners) paths

-- The polygons are what paths become when they grow by the shape.
pub record AreGrownLines (paths : List (List Point)) (corners : List Point) (polygons : List (List (List Point))) : Type 0 where
  -- they are around what the shapes and parallelograms wind around, and that is the sum of the paths and the shape
  pub wound : IsWound NonZero (raw_of_paths corners paths) polygons
  pub sum : IsAround (λ point. IsOfSumWith (λ from. IsOfPaths paths from) corners point) (raw_of_paths corners paths) polygons
