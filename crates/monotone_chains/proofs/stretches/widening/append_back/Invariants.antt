use Rattle.std.proofs.Common.{◌≡◌, ◌++◌, Bor, map}
use Rattle.plane.specs.declared.point.Point.{Point}
use Rattle.monotone_chains.proofs.stretches.widening.append_back.Given as goal

-- the points so far are appended
abbrev pub invariant-loop-point : goal.invariant-loop-point
invariant-loop-point g l = l.points.items ≡ l.fn.points.items ++ map (λ (point : Bor Point). point.now) l.yielded
