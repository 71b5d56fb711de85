use Rattle.std.proofs.Common.{◌≡◌, take}
use Rattle.std.specs.List.{flat_map}
use Rattle.overlay.specs.Rings.{rings_of}
use Rattle.offset.specs.Lines.{raw_of_path}
use Rattle.offset.proofs.lines.raw_of_lines.Given as goal

-- those of the paths so far
abbrev pub invariant-loop-line : goal.invariant-loop-line
invariant-loop-line g l = l.raw.items ≡ flat_map (raw_of_path l.shape) (take l.line (rings_of l.points 0 l.ends))
