use Rattle.std.proofs.Common.{map, take}
use Rattle.overlay.specs.Rings.{rings_of}
use Rattle.layers.specs.Gathered.{AreGathered}
use Rattle.layers.specs.LineParts.{real_ring}
use Rattle.layers.proofs.lines.breaking.append_rings.Given as goal

-- the edges of the rings so far are appended, and where they stop
abbrev pub invariant-loop-ring : goal.invariant-loop-ring
invariant-loop-ring g l = AreGathered (map real_ring (take l.ring (rings_of l.fn.rings.points.now 0 l.fn.rings.ends.now))) l.fn.edges.items l.edges.items l.fn.ends.items l.ends.items
