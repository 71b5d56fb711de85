use Rattle.std.proofs.Common.{◌≡◌, Bool, refl, subst, arith}
use Rattle.std.specs.Fn.{FnReturnsAt}
use Rattle.std.proofs.lemmas.Fn.{says_at}
use Rattle.std.proofs.lemmas.List.Elements.{at_read}
use Rattle.i_tree.specs.Root.BinarySearch.{Surrounds}
use Rattle.i_tree.proofs.RootLemmas.BinarySearch.{Surrounds-one}
use Rattle.i_tree.proofs.binary_search.count_passing.Goals as goal

pub returns-clause-splits : goal.returns-clause-splits
returns-clause-splits g c =
    let items = c.args.items.now in
    let start = c.loop-window.window.start in
    let passed = c.passes.result in
    let may_answer = λ (item : g.row.X.Denot) (answer : Bool). FnReturnsAt g.P.Fn c.args.passes item answer in
    let inside = c.loop-window.invariant in
    let one : c.loop-window.window.size ≡ 1 = omega (arith, inside.some, c.loop-window-test.false) in
    Surrounds-one may_answer items start (subst (Surrounds may_answer items start) one inside) c.from.result passed
    (at_read items (λ item. may_answer item passed) start c.index-items-window.result (omega (arith, inside.some, inside.within)) c.index-items-window.is (says_at g.P.Fn c.passes.ensures refl))
    c.from.ensures
