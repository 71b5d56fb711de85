use Rattle.std.proofs.Common.{◌≡◌, ◌*ℤ◌, pos, take}
use Rattle.std.specs.List.{AllZip}
use Rattle.layers.proofs.points.half_points_of.Given as goal

-- the points so far
abbrev pub invariant-loop-point : goal.invariant-loop-point
invariant-loop-point g l = AllZip (λ point half. (half.twice_x ≡ pos 2 *ℤ point.x) × (half.twice_y ≡ pos 2 *ℤ point.y)) (take l.point-index l.fn.points) l.halves.items
