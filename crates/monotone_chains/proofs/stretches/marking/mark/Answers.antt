use Rattle.std.proofs.Common.{take}
use Rattle.std.proofs.lemmas.List.Elements.{All-more, All-weaker}
use Rattle.monotone_chains.specs.Stretches.Cut.{IsSettled}
use Rattle.monotone_chains.proofs.StretchLemmas.CutCallers.{IsSettled-kept}
use Rattle.monotone_chains.proofs.stretches.marking.mark.Goals as goal

pub loop-pair-preserved : goal.loop-pair-preserved
loop-pair-preserved c =
    let parts = c.args.parts.now in
    let pairs = c.args.pairs.now in
    let i = c.loop-pair.pair-index in
    All-more (IsSettled parts c.settle.new.busy) pairs i (0, 0) c.loop-pair-test.true
    (All-weaker (IsSettled parts c.loop-pair.busy) (IsSettled parts c.settle.new.busy) (λ pair is. IsSettled-kept parts c.loop-pair.busy c.settle.new.busy pair c.settle.ensures.keeps is)
    (take i pairs) c.loop-pair.invariant)
    c.settle.ensures.settled
