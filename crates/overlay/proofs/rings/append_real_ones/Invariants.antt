use Rattle.std.proofs.Common.{◌≡◌, ◌++◌}
use Rattle.noding.specs.Windings.{pieces}
use Rattle.overlay.specs.Rings.{real_edges}
use Rattle.overlay.proofs.rings.append_real_ones.Given as goal

-- the edges that are there and the real pieces of what is left of the ring are those before and the real pieces of the ring
abbrev pub invariant-loop-pair : goal.invariant-loop-pair
invariant-loop-pair g l = (l.pair-iterator.size ≡ 2) × ((l.edges.items ++ real_edges (pieces l.pair-iterator.rest.now)) ≡ (l.fn.edges.items ++ real_edges (pieces l.ring)))
