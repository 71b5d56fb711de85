use Rattle.std.proofs.Common.{take}
use Rattle.std.specs.List.{All}
use Rattle.monotone_chains.specs.Stretches.Spans.{HasHeights}
use Rattle.monotone_chains.specs.declared.stretches.spans.Heights.{Heights}
use Rattle.monotone_chains.proofs.stretches.spans.heights_of.Given as goal

-- the y so far lie between these
abbrev pub invariant-loop-point : goal.invariant-loop-point
invariant-loop-point l =
    let heights : Heights = record { low = l.low; high = l.high } in
    HasHeights heights l.part.from × HasHeights heights l.part.to × All (HasHeights heights) (take l.point-index l.part.inner.now)
