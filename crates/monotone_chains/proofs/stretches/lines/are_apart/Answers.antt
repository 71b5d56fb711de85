use Rattle.monotone_chains.specs.Stretches.{AreApart}
use Rattle.monotone_chains.specs.Stretches.Cut.{way}
use Rattle.monotone_chains.proofs.StretchLemmas.Apart.{AreApart-exchanged}
use Rattle.monotone_chains.proofs.StretchLemmas.CutTests.{OnTrue-weaker}
use Rattle.monotone_chains.proofs.stretches.lines.are_apart.Goals as goal

pub returns : goal.returns
returns c =
    let one = way c.args.one in
    let other = way c.args.other in
    OnTrue-weaker c.lies_beside-2.result (AreApart other one) (AreApart one other) (AreApart-exchanged other one) c.lies_beside-2.ensures
