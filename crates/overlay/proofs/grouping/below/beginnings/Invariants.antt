use Rattle.std.proofs.Common.{◌≡◌, ◌++◌, drop}
use Rattle.overlay.specs.Grouping.{begins_of, firsts_of}
use Rattle.overlay.proofs.grouping.below.beginnings.Given as goal

-- those that are told and those of the holes left are all
abbrev pub invariant-loop-hole : goal.invariant-loop-hole
invariant-loop-hole g l = l.xs.items ++ begins_of (firsts_of (drop l.hole-index l.holes)) ≡ begins_of (firsts_of l.holes)
