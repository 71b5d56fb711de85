use Rattle.std.proofs.Common.{◌∙◌}
use Rattle.monotone_chains.proofs.StretchLemmas.CutCallers.{AreCut-next, all-parts, bound-within}
use Rattle.monotone_chains.proofs.stretches.stretches_of.Goals as goal

pub refine-requires-2-clause-parts : goal.refine-requires-2-clause-parts
refine-requires-2-clause-parts g c =
    let (groups, round, is, stops) = c.in_ok-shorter.ensures.ok in
    all-parts c.args.parts.now c.deref-2.result.now groups c.args.count c.in_ok-shorter.shorter.count c.requires.count round.refined.cut (c.deref-2.ensures.value ∙ is) stops

pub refine-requires-2-clause-count : goal.refine-requires-2-clause-count
refine-requires-2-clause-count g c =
    let (groups, round, is, stops) = c.in_ok-shorter.ensures.ok in
    bound-within c.args.parts.now c.deref-2.result.now groups c.args.count c.in_ok-shorter.shorter.count c.requires.count round.refined.cut (c.deref-2.ensures.value ∙ is) stops

pub returns-clause-ok : goal.returns-clause-ok
returns-clause-ok g c =
    let (groups, round, is, stops) = c.in_ok-shorter.ensures.ok in
    AreCut-next c.args.parts.now c.in_ok-shorter.shorter.parts.items c.deref-2.result.now c.in_ok-clear.clear.parts.items groups c.args.count c.in_ok-shorter.shorter.count c.in_ok-clear.clear.count
    c.requires.count round.refined.cut is stops c.deref-2.ensures.value c.in_ok-clear.ensures.ok
