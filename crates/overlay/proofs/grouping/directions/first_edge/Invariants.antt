use Rattle.std.proofs.Common.{◌≡◌, drop}
use Rattle.overlay.specs.Contours.Outlines.{ring_point}
use Rattle.overlay.specs.Contours.Rings.{ring_edges}
use Rattle.overlay.specs.Grouping.{edges_from}
use Rattle.overlay.specs.Polygons.{first_sloped}
use Rattle.std.specs.Prelude.{None}
use Rattle.overlay.proofs.grouping.directions.first_edge.Given as goal

-- of the best one so far and the edges left the first one is that of all
abbrev pub invariant-loop-place : goal.invariant-loop-place
invariant-loop-place l = first_sloped l.best (edges_from (drop l.place l.ring) (ring_point l.ring 0)) ≡ first_sloped None (ring_edges l.ring)
