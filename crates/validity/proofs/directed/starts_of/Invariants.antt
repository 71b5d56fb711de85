use Rattle.std.proofs.Common.{◌≡◌, map, take}
use Rattle.plane.specs.Ends.{start_of}
use Rattle.validity.proofs.directed.starts_of.Given as goal

-- the starts of the edges so far are there
abbrev pub invariant-loop-edge : goal.invariant-loop-edge
invariant-loop-edge g l = l.starts.items ≡ map start_of (take l.edge-index l.edges)
