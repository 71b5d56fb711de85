use Rattle.std.proofs.Common.{◌≡◌, ◌++◌, List, map, take}
use Rattle.std.specs.List.{AllZip, flat_map}
use Rattle.plane.specs.declared.point.Point.{Point}
use Rattle.overlay.specs.Contours.Rings.{ring_edges}
use Rattle.monotone_chains.specs.Stretches.{GoesAlong, but_last}
use Rattle.monotone_chains.specs.Stretches.Cut.{way}
use Rattle.monotone_chains.proofs.stretches.widening.append_ring.Given as goal

-- the ways of the edges so far are appended
abbrev pub invariant-loop-place : goal.invariant-loop-place
invariant-loop-place g l =
    (ways : List (List Point)) × AllZip (GoesAlong (map way l.parts)) (take l.place (ring_edges l.ring)) ways × (l.points.items ≡ l.fn.points.items ++ flat_map but_last ways)
