use Rattle.std.proofs.Common.{◌<◌, ◌++◌, ℕ, List, length, ap, sym, ◌∙◌, arith}
use Rattle.std.proofs.lemmas.Bool.{eqb-false}
use Rattle.std.proofs.lemmas.List.{at_drop_all}
use Rattle.overlay.specs.Grouping.{ends_from}
use Rattle.overlay.specs.declared.grouping.order.PlacedRing.{PlacedRing}
use Rattle.overlay.proofs.GroupingLemmas.Grouped.{ends-polygons}
use Rattle.overlay.proofs.grouping.appending.append_polygon_ends.Goals as goal

pub returns-clause-ok : goal.returns-clause-ok
returns-clause-ok g c =
    let (same, told, more) = c.loop-ring.invariant in
    let order = c.args.order.now in
    let some : 0 < length order = (let not_empty = eqb-false _ _ (sym c.is_empty.ensures ∙ c.if-is_empty.false) in omega (arith, not_empty)) in
    let past = c.loop-ring-test.false in
    c.in_ok-push-2.ensures.items
    ∙ ap (λ (ends : List ℕ). c.loop-ring.polygon_ends.items ++ ends) (sym (at_drop_all (λ (rings : List PlacedRing). ends_from c.loop-ring.end rings) _ c.loop-ring.ring-index (omega (arith, past))))
    ∙ same
    ∙ ap (λ (ends : List ℕ). c.args.polygon_ends.now.items ++ ends) (ends-polygons c.args.first order some)
