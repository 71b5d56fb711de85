use Rattle.std.proofs.Common.{◌≡◌, take}
use Rattle.std.specs.List.{flat_map}
use Rattle.overlay.specs.Contours.Rings.{ring_edges}
use Rattle.overlay.specs.Rings.{rings_of}
use Rattle.overlay.proofs.rings.edges_of.Given as goal

-- the edges of the rings so far
abbrev pub invariant-loop-ring : goal.invariant-loop-ring
invariant-loop-ring g l = l.edges.items ≡ flat_map ring_edges (take l.ring (rings_of l.fn.rings.points.now 0 l.fn.rings.ends.now))
