use Rattle.std.proofs.Common.{◌≡◌, length, ap, arith}
use Rattle.std.proofs.lemmas.Bool.{ltb-true, ltb-false}
use Rattle.i_tree.proofs.RootLemmas.Lists.{MatchBool-by}
use Rattle.i_tree.proofs.SetLemmas.Positions.{AreApart-viewed, HasHandle-inside, LacksHandle-outside}
use Rattle.i_tree.proofs.set.list.SetListSetCollection.has_index.Goals as goal

pub returns-clause-cases : goal.returns-clause-cases
returns-clause-cases g c =
    let values = c.args.self.now.values in
    let long : c.len.result ≡ length values = omega (arith, c.len.ensures, c.self.inside.values.ok.0, ap (λ list. length list.values) c.self.view_is) in
    MatchBool-by _ _ _
    (λ lower. HasHandle-inside values c.args.index (omega (arith, long, ltb-true _ _ lower)))
    (λ upper. LacksHandle-outside values c.args.index (omega (arith, long, ltb-false _ _ upper)))

pub returns-clause-handles : goal.returns-clause-handles
returns-clause-handles g c = AreApart-viewed c.self.view_is c.self.invariant
