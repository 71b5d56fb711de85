use Rattle.std.proofs.Common.{ℕ, List, drop}
use Rattle.plane.specs.declared.point.Point.{Point}
use Rattle.wkb.specs.Reading.{AppendsRings}
use Rattle.wkb.proofs.shape.append_rings.Given as goal

abbrev pub invariant-loop-ring : goal.invariant-loop-ring
invariant-loop-ring g l = (points : List Point) (ends : List ℕ) → AppendsRings l.grid l.bytes (drop l.ring-index l.ring-items) l.points.items points l.ends.items ends
    → AppendsRings l.grid l.bytes l.ring-items l.fn.points.items points l.fn.ends.items ends
