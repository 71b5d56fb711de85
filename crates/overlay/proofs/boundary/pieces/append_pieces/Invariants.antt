use Rattle.std.proofs.Common.{◌≡◌, ◌++◌, ◌+◌, ◌≤◌, List, length, take}
use Rattle.std.specs.List.{AllZip, flat_map}
use Rattle.plane.specs.declared.point.Point.{Point}
use Rattle.overlay.specs.Boundary.{chain_pieces}
use Rattle.noding.specs.Local.{IsNodeChain}
use Rattle.noding.specs.Windings.{pieces}
use Rattle.noding.specs.Stops.{Split}
use Rattle.overlay.proofs.boundary.pieces.append_pieces.Given as goal

-- the edges so far have their chains, whose pieces are appended, and their stops are behind
abbrev pub invariant-loop-place : goal.invariant-loop-place
invariant-loop-place g l =
    Split l.place l.next l.fn.stops
    × ((chains : List (List Point)) × AllZip (IsNodeChain l.fn.edges) (take l.place l.fn.edges) chains
    × (l.out.items ≡ l.fn.out.items ++ chain_pieces l.fn.count chains)
    × (length (flat_map pieces chains) ≤ length chains + l.next))
