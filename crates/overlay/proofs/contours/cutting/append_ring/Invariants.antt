use Rattle.std.proofs.Common.{◌≡◌, ◌++◌, map, take}
use Rattle.overlay.specs.Contours.Order.{point_at}
use Rattle.overlay.proofs.contours.cutting.append_ring.Given as goal

-- the points of the corners so far are appended
abbrev pub invariant-loop-corner : goal.invariant-loop-corner
invariant-loop-corner g l = l.points.items ≡ l.fn.points.items ++ map (point_at l.fn.sorted) (take l.corner-index l.fn.corners)
