use Rattle.std.proofs.Common.{◌≡◌, map, take}
use Rattle.noding.specs.Columns.Ends.{upright_alone}
use Rattle.noding.proofs.columns.ends.uprights_alone.Given as goal

-- those so far
abbrev pub invariant-loop-edge : goal.invariant-loop-edge
invariant-loop-edge g l = l.uprights.items ≡ map upright_alone (take l.edge-index l.fn.edges)
