use Rattle.std.proofs.Common.{◌≡◌, ◌++◌, List, take}
use Rattle.std.specs.List.{AllZip}
use Rattle.plane.specs.declared.point.Point.{Point}
use Rattle.noding.specs.Local.{IsNodeChain}
use Rattle.noding.specs.Stops.{Split}
use Rattle.overlay.specs.Joined.{weighed_pieces}
use Rattle.overlay.proofs.JoinedLemmas.Points.{edges_of}
use Rattle.overlay.proofs.boundary.pieces.append_weighed.Given as goal

-- the stretches so far have their chains, whose pieces are appended with the weights of these, and their stops are behind
abbrev pub invariant-loop-place : goal.invariant-loop-place
invariant-loop-place g l =
    Split l.place l.next l.fn.stops
    × ((chains : List (List Point)) × AllZip (IsNodeChain (edges_of l.fn.stretches)) (take l.place (edges_of l.fn.stretches)) chains
    × (l.out.items ≡ l.fn.out.items ++ weighed_pieces (take l.place l.fn.stretches) chains))
