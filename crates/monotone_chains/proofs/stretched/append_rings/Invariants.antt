use Rattle.std.proofs.Common.{take}
use Rattle.std.specs.List.{flat_map}
use Rattle.overlay.specs.Contours.Rings.{ring_edges}
use Rattle.overlay.specs.Rings.{real_edges, rings_of}
use Rattle.monotone_chains.specs.Stretches.Cut.{AppendsParts}
use Rattle.monotone_chains.proofs.stretched.append_rings.Given as goal

-- the parts are of the rings so far
abbrev pub invariant-loop-ring : goal.invariant-loop-ring
invariant-loop-ring g l = AppendsParts (real_edges (flat_map ring_edges (take l.ring (rings_of l.fn.rings.points.now 0 l.fn.rings.ends.now)))) l.fn.parts.items l.parts.items
