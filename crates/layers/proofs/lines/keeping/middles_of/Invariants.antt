use Rattle.std.proofs.Common.{◌≡◌, map, take}
use Rattle.layers.specs.Around.{halved}
use Rattle.layers.specs.Lines.{middle}
use Rattle.layers.proofs.lines.keeping.middles_of.Given as goal

abbrev pub invariant-loop-edge : goal.invariant-loop-edge
invariant-loop-edge g l = map halved l.middles.items ≡ map middle (take l.edge-index l.edges)
