use Rattle.overlay.proofs.GroupingLemmas.Homes.{HaveSettled}
use Rattle.overlay.proofs.grouping.homes.settle_holes.Given as goal

-- so many have their homes
abbrev pub invariant-loop-hole : goal.invariant-loop-hole
invariant-loop-hole l = HaveSettled l.are_outer l.holes l.hole-index l.homes
