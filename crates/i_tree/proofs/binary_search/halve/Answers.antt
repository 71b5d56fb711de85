use Rattle.std.proofs.Common.{◌/◌, ◌+◌, refl, arith}
use Rattle.std.specs.Fn.{FnReturnsAt}
use Rattle.std.proofs.lemmas.Fn.{says_at}
use Rattle.std.proofs.lemmas.List.Elements.{at_read}
use Rattle.i_tree.proofs.RootLemmas.BinarySearch.{Surrounds-half}
use Rattle.i_tree.proofs.binary_search.halve.Goals as goal

pub returns-clause-around : goal.returns-clause-around
returns-clause-around g c =
    let items = c.args.items.now in
    let window = c.args.window in
    let half = window.size / 2 in
    let passed = c.passes.result in
    Surrounds-half (λ item answer. FnReturnsAt g.P.Fn c.args.passes.now item answer) items window.start window.size half c.requires.around (omega arith) (omega arith) c.select.result passed
    (at_read items (λ item. FnReturnsAt g.P.Fn c.args.passes.now item passed) (window.start + half) c.index-items-middle.result (omega (arith, c.requires.around.within)) c.index-items-middle.is (says_at g.P.Fn c.passes.ensures refl))
    c.select.ensures.first c.select.ensures.other
