use Rattle.std.proofs.Common.{◌≡◌, ◌++◌, List, length, take}
use Rattle.std.specs.List.{AllZip, flat_map}
use Rattle.plane.specs.declared.point.Point.{Point}
use Rattle.noding.specs.Offsets.{offsets}
use Rattle.noding.specs.Stops.{IsRun, Split}
use Rattle.noding.proofs.chains.push_chains.Given as goal

-- the edges so far have their chains, and their stops are behind
abbrev pub invariant-loop-place : goal.invariant-loop-place
invariant-loop-place g l =
    Split l.place l.next l.fn.stops
    × ((chains : List (List Point)) × AllZip (IsRun l.fn.edges l.fn.stops) (take l.place l.fn.edges) chains
    × (l.points.items ≡ l.fn.points.items ++ flat_map (λ chain. chain) chains)
    × (l.ends.items ≡ l.fn.ends.items ++ offsets (length l.fn.points.items) chains))
