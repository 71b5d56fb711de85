-- What raw curves are made of.
use Rattle.std.specs.Prelude.{List, [], ◌∷◌}
use Rattle.plane.specs.declared.edge.Edge.{Edge}
use Rattle.plane.specs.declared.point.Point.{Point}
use Rattle.plane.specs.Ends.{edge_between, end_of, reversed, start_of}
use Rattle.offset.specs.Raw.{moved, moved_edge}

-- The sides of a triangle, from its first corner round.
abbrev pub triangle : Point → Point → Point → List Edge
triangle a b c = edge_between a b ∷ edge_between b c ∷ edge_between c a ∷ []

-- The parallelogram between an edge and the edge moved by a point that lies strictly to the right of its way.
abbrev pub band : Edge → Point → List Edge
band edge by = moved_edge by edge ∷ edge_between (moved by (end_of edge)) (end_of edge) ∷ reversed edge ∷ edge_between (start_of edge) (moved by (start_of edge)) ∷ []

-- The triangle between a point and a side of the shape moved to it.
abbrev pub part_of_fan : Point → Edge → List Edge
part_of_fan at side = triangle at (moved at (start_of side)) (moved at (end_of side))
