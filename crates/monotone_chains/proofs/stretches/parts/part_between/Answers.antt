use Rattle.std.proofs.Common.{sym}
use Rattle.monotone_chains.proofs.StretchLemmas.CutWays.{between-ends}
use Rattle.monotone_chains.proofs.stretches.parts.part_between.Goals as goal

pub returns : goal.returns
returns c = sym (between-ends c.args.from c.args.upto c.args.points.now _ c.requires.0 c.requires.1)
