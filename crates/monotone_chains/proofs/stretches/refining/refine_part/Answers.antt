use Rattle.std.proofs.Common.{◌≡◌, List, length, subst, sym, ◌∙◌, rules}
use Rattle.std.specs.List.{All, AllZip}
use Rattle.std.proofs.lemmas.Result.{on_ok_weaker}
use Rattle.monotone_chains.specs.Stretches.Cut.{IsPart}
use Rattle.monotone_chains.specs.Stretches.Spans.{IsSpan}
use Rattle.monotone_chains.specs.declared.stretches.parts.Part.{Part}
use Rattle.monotone_chains.proofs.StretchLemmas.CutRefined.{cut-kept}
use Rattle.monotone_chains.proofs.StretchLemmas.CutSpans.{parts-behind, span-behind, spans-behind}
use Rattle.monotone_chains.proofs.stretches.refining.refine_part.Goals as goal

pub append_spans-requires : goal.append_spans-requires
append_spans-requires g c =
    let (group, cut, few, is) = c.in_ok-cut_part.ensures in
    let begins : c.len-start.result ≡ length c.args.refined.now.parts.items = search rules in
    subst (All IsPart) (sym (parts-behind c.args.refined.now.parts.items c.deref.result.now group c.len-start.result begins (c.deref.ensures.value ∙ is))) cut.each

pub returns-then-busy-clause-spans : goal.returns-then-busy-clause-spans
returns-then-busy-clause-spans g c =
    let (group, cut, few, is) = c.in_ok-cut_part.ensures in
    let begins : c.len-start.result ≡ length c.args.refined.now.parts.items = search rules in
    on_ok_weaker c.append_spans.result (λ appended.
    subst (λ (parts : List Part). AllZip IsSpan parts c.append_spans.new.spans.items) c.deref.ensures.value
    (spans-behind c.args.refined.now.parts.items c.deref.result.now group c.len-start.result c.args.refined.now.spans.items c.append_spans.new.spans.items begins (c.deref.ensures.value ∙ is)
    c.requires.so_far appended)) c.append_spans.ensures

pub returns-clause-ok : goal.returns-clause-ok
returns-clause-ok g c = cut-kept c.args.part c.args.most c.args.busy c.args.refined.now.parts.items c.push.new.self.items c.requires.part c.if-busy.false c.in_ok-push.ensures.items

pub returns-clause-spans : goal.returns-clause-spans
returns-clause-spans g c =
    span-behind c.args.refined.now.parts.items c.push.new.self.items c.args.part c.args.refined.now.spans.items c.push-2.new.self.items c.args.span
    c.in_ok-push.ensures.items c.in_ok-push-2.ensures.items c.requires.so_far c.requires.span
