-- The ends of an edge, and the edge that has these.
use Rattle.plane.specs.declared.edge.Edge.{Edge}
use Rattle.plane.specs.declared.point.Point.{Point}

-- The point at which it starts.
abbrev pub start_of : Edge → Point
start_of edge = record { x = edge.x0; y = edge.y0 }

-- The point at which it ends.
abbrev pub end_of : Edge → Point
end_of edge = record { x = edge.x1; y = edge.y1 }

-- The edge from the one point to the other.
abbrev pub edge_between : Point → Point → Edge
edge_between from to = record { x0 = from.x; y0 = from.y; x1 = to.x; y1 = to.y }

-- The edge from its end to its start.
abbrev pub reversed : Edge → Edge
reversed edge = edge_between (end_of edge) (start_of edge)
