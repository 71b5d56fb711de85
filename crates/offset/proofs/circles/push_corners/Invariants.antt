use Rattle.std.proofs.Common.{◌≡◌, ◌<◌, ℕ, get_or, length, pos}
use Rattle.plane.specs.declared.point.Point.{Point}
use Rattle.offset.specs.Circle.{IsCorner, IsWithinCircle}
use Rattle.offset.proofs.circles.push_corners.Given as goal

-- the corners so far
abbrev pub invariant-loop-index : goal.invariant-loop-index
invariant-loop-index g l = record {
  count : length l.corners.items ≡ l.index;
  each : (k : ℕ) (d : Point) → k < l.index → IsCorner l.radius l.parts k (get_or l.corners.items k d) × IsWithinCircle (pos l.radius) (get_or l.corners.items k d);
}
