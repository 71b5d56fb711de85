use Rattle.std.proofs.Common.{◌≡◌, ◌++◌, drop}
use Rattle.overlay.specs.Grouping.{placed_from}
use Rattle.overlay.proofs.grouping.order.placed_rings.Given as goal

-- the rings that are there and those left are all
abbrev pub invariant-loop-place : goal.invariant-loop-place
invariant-loop-place g l = l.rings.items ++ placed_from l.are_outer l.homes l.place l.start (drop l.place l.ends) ≡ placed_from l.are_outer l.homes 0 0 l.ends
