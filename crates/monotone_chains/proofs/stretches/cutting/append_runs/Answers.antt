use Rattle.std.proofs.Common.{arith}
use Rattle.monotone_chains.specs.Stretches.Cut.{way}
use Rattle.monotone_chains.proofs.StretchLemmas.CutParts.{AppendsParts-run}
use Rattle.monotone_chains.proofs.stretches.cutting.append_runs.Goals as goal

pub loop-next-preserved : goal.loop-next-preserved
loop-next-preserved g c =
    let later = c.run_end-end.ensures.some in
    let inside = c.run_end-end.ensures.within in record {
      within = omega (arith, inside);
      cut = AppendsParts-run c.loop-next.next c.run_end-end.result c.args.points.now (way c.part_between.result) c.args.parts.now.items c.loop-next.parts.items c.append_run.new.parts.items
          (omega (arith, later)) inside c.part_between.ensures c.loop-next.invariant.cut c.in_ok-append_run.ensures;
    }
