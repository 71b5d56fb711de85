use Rattle.std.proofs.Common.{◌≡◌, ◌++◌, ◌∷◌, [], Bor, List, map, sym, ap, ◌∙◌, append_assoc, append-nil}
use Rattle.std.proofs.lemmas.List.{map-append}
use Rattle.std.proofs.lemmas.Iterator.Adapters.{YieldsList-from_rev_slice}
use Rattle.std.proofs.lemmas.Iterator.Consumers.{YieldsList-end}
use Rattle.plane.specs.declared.point.Point.{Point}
use Rattle.monotone_chains.proofs.stretches.widening.append_back.Goals as goal

pub loop-point-init : goal.loop-point-init
loop-point-init g c = sym (append-nil c.args.points.now.items)

pub loop-point-preserved : goal.loop-point-preserved
loop-point-preserved g c =
    c.in_ok-push.ensures.items
    ∙ ap (λ (list : List Point). list ++ c.in-Some.point.now ∷ []) c.loop-point.invariant
    ∙ append_assoc c.args.points.now.items (map (λ (point : Bor Point). point.now) c.loop-point.yielded) (c.in-Some.point.now ∷ [])
    ∙ ap (λ (list : List Point). c.args.points.now.items ++ list) (sym (map-append (λ (point : Bor Point). point.now) c.loop-point.yielded (c.in-Some.point ∷ [])))

pub returns : goal.returns
returns g c =
    let source = c.into_iter-point-iterator.ensures.into_iter_gives in
    let of = c.rev-point-items.ensures.source in
    let rest : c.into_iter-point-iterator.result.iter.rest.now ≡ c.args.inner.now = ap (λ items. items.iter.rest.now) source ∙ ap (λ items. items.rest.now) of ∙ c.iter.ensures.rest in
    let all = YieldsList-end (YieldsList-from_rev_slice c.args.inner.now rest) c.loop-point.yielded _ c.loop-point.yielded_by _ _ c.in-None.is c.next.ensures.steps in
    c.loop-point.invariant ∙ ap (λ (list : List Point). c.args.points.now.items ++ list) all.0
