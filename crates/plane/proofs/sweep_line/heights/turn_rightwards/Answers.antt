use Rattle.std.proofs.Common.{rules}
use Rattle.plane.proofs.SweepLineLemmas.Rightwards.{rightwards-chosen}
use Rattle.plane.proofs.sweep_line.heights.turn_rightwards.Goals as goal

pub returns : goal.returns
returns c = rightwards-chosen c.args.edge c.select.result (search rules) (search rules)
