use Rattle.std.proofs.Common.{◌+ℤ◌, ◌<ℤ◌, take}
use Rattle.std.specs.List.{All}
use Rattle.plane.specs.Lines.{height_over, margin_of}
use Rattle.monotone_chains.proofs.stretches.lines.all_above.Given as goal

-- the points so far lie further
abbrev pub invariant-loop-point : goal.invariant-loop-point
invariant-loop-point l = All (λ point. (l.top +ℤ margin_of l.line) <ℤ height_over l.line point) (take l.point-index l.part.inner.now)
