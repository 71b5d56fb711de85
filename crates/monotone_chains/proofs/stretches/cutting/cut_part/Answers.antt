use Rattle.std.proofs.Common.{◌+◌, arith}
use Rattle.std.specs.List.{between}
use Rattle.std.proofs.lemmas.List.Edits.{length-between}
use Rattle.monotone_chains.specs.Stretches.Cut.{way}
use Rattle.monotone_chains.proofs.StretchLemmas.CutParts.{cut-more, cut-none}
use Rattle.monotone_chains.proofs.StretchLemmas.CutWays.{length-way}
use Rattle.monotone_chains.proofs.stretches.cutting.cut_part.Goals as goal

pub loop-next-init : goal.loop-next-init
loop-next-init g c =
    let order = c.requires.order in
    let inside = c.requires.within in
    let points = way c.args.part in
    let long = length-way c.args.part in
    let size = length-between points c.args.from (c.args.from + 1) (omega (arith, order, inside, long)) in record {
      some = omega arith;
      within = omega (arith, order);
      cut = cut-none (between c.args.from (c.args.from + 1) points) c.args.most c.args.parts.now.items (omega (arith, size));
    }

pub loop-next-preserved : goal.loop-next-preserved
loop-next-preserved g c =
    let is = c.loop-next.invariant in
    let from = is.some in
    let end = c.part_end-end.ensures in
    let later = end.some in
    let within = end.within in
    let inside = c.requires.within in
    let long = length-way c.args.part in record {
      some = omega (arith, from, later);
      within = within;
      cut = cut-more (way c.args.part) c.args.from c.loop-next.next c.part_end-end.result c.args.most c.args.parts.now.items c.loop-next.parts.items c.push.new.self.items c.part_within.result
          c.requires.part from later (omega (arith, within, inside, long)) end.few c.part_within.ensures c.in_ok-push.ensures.items is.cut;
    }
