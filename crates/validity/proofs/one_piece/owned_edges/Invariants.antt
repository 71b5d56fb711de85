use Rattle.std.proofs.Common.{◌<◌, [], get_or}
use Rattle.std.specs.Prelude.{◌↔◌}
use Rattle.std.specs.List.{Contains}
use Rattle.overlay.specs.Contours.Rings.{real_edges, ring_edges}
use Rattle.validity.specs.Given.{rings_at}
use Rattle.validity.specs.declared.one_piece.OwnedEdge.{OwnedEdge}
use Rattle.validity.proofs.one_piece.owned_edges.Given as goal

-- those of the rings before this one are there
abbrev pub invariant-loop-ring : goal.invariant-loop-ring
invariant-loop-ring g l = (owned : OwnedEdge) → Contains l.owned.items owned ↔ ((owned.ring < l.ring) × Contains (real_edges (ring_edges (get_or (rings_at l.rings) owned.ring []))) owned.edge)
