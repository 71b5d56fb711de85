-- Twice the area of a ring of positions, in squares of leasts.
use Rattle.std.specs.Prelude.{ℤ, List, [], ◌∷◌, ◌++◌, pos, ◌+ℤ◌, ◌-ℤ◌, ◌*ℤ◌}
use Rattle.grid.specs.Doubles.{in_leasts}
use Rattle.grid.specs.declared.position.Position.{Position}

-- What the edge from the one position to the other adds: the cross product of the two.
abbrev pub cross_of : Position → Position → ℤ
cross_of from to = (in_leasts from.x *ℤ in_leasts to.y) -ℤ (in_leasts to.x *ℤ in_leasts from.y)

-- The sum over the edges of the path that goes from the position through all of the list.
abbrev pub sum_along : Position → List Position → ℤ
sum_along from [] = pos 0
sum_along from (to ∷ rest) = cross_of from to +ℤ sum_along to rest

-- The shoelace formula: the sum over the edges from each position to the next, and from the last to the first.
abbrev pub twice_area : List Position → ℤ
twice_area [] = pos 0
twice_area (first ∷ rest) = sum_along first (rest ++ (first ∷ []))
