use Rattle.std.proofs.Common.{◌<◌, ◌-◌, ◌≤ℤ◌, ℕ, get_or, pos}
use Rattle.plane.specs.declared.point.Point.{Point}
use Rattle.plane.specs.Ends.{edge_between}
use Rattle.overlay.specs.Areas.{swept}
use Rattle.offset.proofs.shape.go_round_once.Given as goal

-- it holds so far
abbrev pub invariant-loop-index : goal.invariant-loop-index
invariant-loop-index l =
    (index : ℕ) (d : Point) → 1 < index → index < l.index
    → swept (edge_between (get_or l.corners 0 d) (get_or l.corners (index - 1) d)) ≤ℤ pos 0
    → swept (edge_between (get_or l.corners 0 d) (get_or l.corners index d)) ≤ℤ pos 0
