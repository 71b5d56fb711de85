use Rattle.std.proofs.Common.{length, ap, arith}
use Rattle.i_tree.proofs.SetLemmas.Positions.{AreApart-viewed, length-numbered}
use Rattle.i_tree.proofs.set.list.SetListSetCollection.len.Goals as goal

pub returns-clause-value : goal.returns-clause-value
returns-clause-value g c =
    omega (arith, c.len.ensures, c.self.inside.values.ok.0, ap (λ list. length list.values) c.self.view_is, length-numbered c.args.self.now.values)

pub returns-clause-handles : goal.returns-clause-handles
returns-clause-handles g c = AreApart-viewed c.self.view_is c.self.invariant
