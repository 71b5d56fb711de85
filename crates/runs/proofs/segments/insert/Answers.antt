use Rattle.std.proofs.Common.{rules}
use Rattle.runs.proofs.RunLemmas.SegSteps.{serves_inserted}
use Rattle.runs.proofs.segments.insert.Goals as goal

pub returns-in-Ok-clause-serves : goal.returns-in-Ok-clause-serves
returns-in-Ok-clause-serves g c =
    serves_inserted g.V.ExpiredVal.expiration g.met.E.Ord.total g.R.LayoutNumber.whole c.args.tree.now.buckets c.args.tree.now.members c.args.tree.now.latest c.args.range c.args.val c.insert_by_range.new.self.members c.insert_by_range.new.self.latest
    (search rules) c.in-Ok.ensures.ok c.in-Ok.ensures.latest
