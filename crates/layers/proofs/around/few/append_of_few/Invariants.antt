use Rattle.std.proofs.Common.{◌-◌, ◌≤◌, length, take}
use Rattle.plane.specs.Pairs.Points.{Gains}
use Rattle.layers.specs.Chains.{LiesInChains}
use Rattle.layers.proofs.AroundLemmas.Runs.{IsCut}
use Rattle.layers.proofs.around.few.append_of_few.Given as goal

abbrev pub invariant-loop-start : goal.invariant-loop-start
invariant-loop-start g l = record {
  within : l.start ≤ length l.chains;
  cut : IsCut l.chains l.start;
  gained : Gains (LiesInChains l.rule l.border l.group (take l.start l.chains)) l.fn.pairs.items l.pairs.items;
}

abbrev pub decreases-loop-start : goal.decreases-loop-start
decreases-loop-start g l = length l.chains - l.start
