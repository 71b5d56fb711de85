-- Corners of a shape by the place of the side that ends there.
use Rattle.std.specs.Prelude.{◌≡◌, ℕ, List, get_or}
use Rattle.plane.specs.declared.edge.Edge.{Edge}
use Rattle.plane.specs.declared.point.Point.{Point}
use Rattle.plane.specs.Ends.{start_of}
use Rattle.offset.specs.Raw.{furthest, nowhere}
use Rattle.offset.specs.Shape.{neighbours, sides}

-- The side at this place and the next one.
abbrev pub sides_at : List Point → ℕ → Edge × Edge
sides_at corners place = get_or (neighbours (sides corners)) place (nowhere, nowhere)

-- The corner between them, or the origin where there is no such side.
abbrev pub corner_behind : List Point → ℕ → Point
corner_behind corners place = start_of (sides_at corners place).1

-- That corner is the one that lies furthest to the right of the edge.
abbrev pub IsOfFurthest : List Point → Edge → ℕ → Type 0
IsOfFurthest corners edge place = corner_behind corners place ≡ furthest corners edge
