use Rattle.std.proofs.Common.{◌-◌, arith}
use Rattle.std.proofs.lemmas.Result.{on_ok_weaker}
use Rattle.monotone_chains.specs.Stretches.Cut.{way}
use Rattle.monotone_chains.proofs.StretchLemmas.CutParts.{cut-three}
use Rattle.monotone_chains.proofs.StretchLemmas.CutWays.{length-way}
use Rattle.monotone_chains.proofs.stretches.cutting.cut_run.Goals as goal

pub returns : goal.returns
returns g c =
    let run = c.args.run in
    let edges = c.count_edges-edges.result in
    let count = c.count_edges-edges.ensures in
    let some = c.if-edges-lt-SHORTEST.false in
    let long = length-way run in
    on_ok_weaker c.cut_part-4.result
    (λ end. cut-three (way run) 1 (edges - 1) edges c.args.most c.args.parts.now.items c.cut_part-2.new.parts.items c.cut_part-3.new.parts.items c.cut_part-4.new.parts.items
    (omega (arith, some)) (omega arith) (omega (arith, count, long)) c.in_ok-cut_part.ensures c.in_ok-cut_part-2.ensures end) c.cut_part-4.ensures
