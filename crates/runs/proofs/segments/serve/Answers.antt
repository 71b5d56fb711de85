use Rattle.runs.proofs.RunLemmas.SegSteps.{serves_cleared}
use Rattle.runs.proofs.segments.serve.Goals as goal

pub returns-in-Clear-clause-serves : goal.returns-in-Clear-clause-serves
returns-in-Clear-clause-serves g c =
    rw c.in-Clear.is
    (serves_cleared g.V.ExpiredVal.expiration g.met.E.Ord.total g.R.LayoutNumber.whole c.args.tree.now.buckets c.args.tree.now.members c.args.tree.now.latest c.clear.new.self.members c.clear.new.self.latest
    c.clear.ensures.empty c.clear.ensures.latest)
