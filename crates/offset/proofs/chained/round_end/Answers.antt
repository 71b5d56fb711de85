use Rattle.std.proofs.Common.{◌≡◌, ◌+◌, arith, rules, subst}
use Rattle.std.proofs.lemmas.List.Edits.{length-between}
use Rattle.std.specs.List.{between}
use Rattle.offset.proofs.ChainedLemmas.{Lead, lead-more, lead-round}
use Rattle.offset.proofs.chained.round_end.Goals as goal

pub returns-then-eq-clause-round : goal.returns-then-eq-clause-round
returns-then-eq-clause-round c =
    let edges = c.args.edges.now in
    let index = c.loop-index.index in
    let order = c.loop-index.auto.index in
    let back : c.end_of-at.result ≡ c.start_of-first.result = search rules in
    let all = lead-more c.start_of-first.result edges c.args.from index _ c.loop-index.at c.end_of-at.result order c.loop-index-test.true c.loop-index.invariant c.if-not-goes_on.ensures c.end_of-at.ensures in
    let within = c.loop-index-test.true in
    let size = length-between edges c.args.from (index + 1) (omega (arith, within)) in
    lead-round c.start_of-first.result (between c.args.from (index + 1) edges) (omega (arith, size, order)) (subst (Lead c.start_of-first.result (between c.args.from (index + 1) edges)) back all)

pub loop-index-preserved : goal.loop-index-preserved
loop-index-preserved c =
    lead-more c.start_of-first.result c.args.edges.now c.args.from c.loop-index.index _ c.loop-index.at c.end_of-at.result c.loop-index.auto.index c.loop-index-test.true c.loop-index.invariant c.if-not-goes_on.ensures c.end_of-at.ensures
