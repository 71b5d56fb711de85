use Rattle.std.proofs.Common.{◌^◌, ◌≤ℤ◌, take}
use Rattle.std.specs.List.{All}
use Rattle.plane.specs.Meet.Crosses.{IsWithin}
use Rattle.plane.specs.Lines.{height_over}
use Rattle.monotone_chains.proofs.stretches.lines.greatest_over.Given as goal

-- no point so far lies further
abbrev pub invariant-loop-point : goal.invariant-loop-point
invariant-loop-point l =
    IsWithin (2 ^ 65) l.most
    × (height_over l.line l.part.from ≤ℤ l.most)
    × (height_over l.line l.part.to ≤ℤ l.most)
    × All (λ point. height_over l.line point ≤ℤ l.most) (take l.point-index l.part.inner.now)
