use Rattle.std.specs.List.{All}
use Rattle.overlay.specs.Grouping.{AreFirstsUpto, IsUntold, firsts_of}
use Rattle.overlay.specs.Rings.{rings_of}
use Rattle.overlay.proofs.grouping.holes.holes.Given as goal

-- those of the rings so far
abbrev pub invariant-loop-ring : goal.invariant-loop-ring
invariant-loop-ring g l = AreFirstsUpto (rings_of l.points 0 l.ends) l.ring (firsts_of l.holes.items) × All IsUntold l.holes.items
