use Rattle.std.proofs.Common.{◌≤◌, length, arith}
use Rattle.std.proofs.lemmas.Result.{IfOk-weaker}
use Rattle.i_tree.proofs.RbLemmas.Shape.SubtreeHandles.{MatchBool-weaker}
use Rattle.plane.proofs.PairsLemmas.Upto.{all_gained}
use Rattle.plane.proofs.pairs.pairs_within_budget.Goals as goal

pub returns-clause-ok : goal.returns-clause-ok
returns-clause-ok g c =
    let after = c.gain_pairs.new.out.items in
    let fits : length after ≤ 18446744073709551615 = omega arith in
    let gained = all_gained g.T.Meets.Meeting c.args.items.now 18446744073709551615 c.args.out.now.items after fits in
    IfOk-weaker c.gain_pairs.result _ _ (λ told. MatchBool-weaker told _ _ _ _ gained (λ none. none)) c.gain_pairs.ensures.ok
