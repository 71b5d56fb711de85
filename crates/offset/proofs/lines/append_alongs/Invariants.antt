use Rattle.std.proofs.Common.{◌≡◌, ◌++◌, take}
use Rattle.std.specs.List.{flat_map}
use Rattle.noding.specs.Windings.{pieces}
use Rattle.offset.specs.Lines.{along}
use Rattle.offset.proofs.lines.append_alongs.Given as goal

-- those of the edges so far
abbrev pub invariant-loop-index : goal.invariant-loop-index
invariant-loop-index g l = l.edges.items ≡ (l.fn.edges.items ++ flat_map (along l.shape) (take l.index (pieces l.path)))
