use Rattle.std.proofs.Common.{ℕ, Bool, List, length, ap, sym, subst, subst₂, ◌∙◌}
use Rattle.std.specs.List.{position}
use Rattle.std.specs.List.Sorted.{IsPermutation}
use Rattle.std.proofs.lemmas.List.Elements.{All-nil}
use Rattle.overlay.specs.Contours.Rings.{AreContours}
use Rattle.overlay.specs.Grouping.{AreHomes, ShareHomes, placed_polygons}
use Rattle.overlay.specs.Nesting.{AreNested}
use Rattle.overlay.specs.Polygons.{rings_of as rings_of_all}
use Rattle.overlay.specs.Rings.{edges_in, rings_of}
use Rattle.overlay.specs.declared.grouping.order.PlacedRing.{PlacedRing}
use Rattle.overlay.proofs.GroupingLemmas.Callers.{all-nested, found-outer, marks-size, no-contours, none-moved, order-contours, order-moved, order-polygons, order-within}
use Rattle.overlay.proofs.grouping.order_of.Goals as goal

pub homes-requires-clause-outer : goal.homes-requires-clause-outer
homes-requires-clause-outer g c =
    found-outer c.deref-2.result.now c.first_outer.result c.in-Some.outer (c.first_outer.ensures ∙ ap (λ (list : List Bool). position (λ is. is) list) (c.deref.ensures.value ∙ sym c.deref-2.ensures.value)) c.in-Some.is

pub rings_in_order-requires-clause-each : goal.rings_in_order-requires-clause-each
rings_in_order-requires-clause-each g c =
    ap (λ (list : List Bool). length list) c.deref-3.ensures.value ∙ marks-size c.args.points.now c.args.ends.now c.in_ok-are_outer.are_outer.items c.in_ok-are_outer.ensures

pub returns-in_default-clause-contours : goal.returns-in_default-clause-contours
returns-in_default-clause-contours g c =
    subst (λ (order : List PlacedRing). AreContours (edges_in c.args.points.now c.args.ends.now) (rings_of_all (placed_polygons c.args.points.now order))) (sym c.new.ensures.items)
    (no-contours (rings_of c.args.points.now 0 c.args.ends.now) c.requires.each c.requires.bounding c.in_ok-are_outer.are_outer.items c.in_ok-are_outer.ensures
    c.first_outer.result (c.first_outer.ensures ∙ ap (λ (list : List Bool). position (λ is. is) list) c.deref.ensures.value) c.in_default.not-Some)

pub returns-clause-within : goal.returns-clause-within
returns-clause-within g c = order-within c.args.points.now c.args.ends.now c.deref-3.result.now c.deref-4.result.now c.in_ok-rings_in_order.field-0.items c.in_ok-rings_in_order.ensures.all c.requires.ends

pub returns-clause-polygons : goal.returns-clause-polygons
returns-clause-polygons g c =
    let have : AreHomes c.deref-3.result.now c.deref-4.result.now =
    subst₂ (λ (list : List Bool) (homes : List ℕ). AreHomes list homes) (c.deref-2.ensures.value ∙ sym c.deref-3.ensures.value) (sym c.deref-4.ensures.value) c.in_ok-homes.ensures.ok in
    order-polygons c.args.points.now c.args.ends.now c.deref-3.result.now c.deref-4.result.now c.in_ok-rings_in_order.field-0.items c.in_ok-rings_in_order.ensures.all
    (c.deref-3.ensures.value ∙ c.in_ok-are_outer.ensures) have c.in_ok-rings_in_order.ensures.order

pub returns-clause-contours : goal.returns-clause-contours
returns-clause-contours g c = order-contours c.args.points.now c.args.ends.now c.deref-3.result.now c.deref-4.result.now c.in_ok-rings_in_order.field-0.items c.in_ok-rings_in_order.ensures.all c.requires.each

pub returns-in_default-clause-moved : goal.returns-in_default-clause-moved
returns-in_default-clause-moved g c =
    subst (λ (order : List PlacedRing). IsPermutation (rings_of_all (placed_polygons c.args.points.now order)) (rings_of c.args.points.now 0 c.args.ends.now)) (sym c.new.ensures.items)
    (none-moved (rings_of c.args.points.now 0 c.args.ends.now) c.requires.each c.requires.bounding c.in_ok-are_outer.are_outer.items c.in_ok-are_outer.ensures
    c.first_outer.result (c.first_outer.ensures ∙ ap (λ (list : List Bool). position (λ is. is) list) c.deref.ensures.value) c.in_default.not-Some)

pub returns-in_default-clause-nested : goal.returns-in_default-clause-nested
returns-in_default-clause-nested g c = subst (λ (order : List PlacedRing). AreNested (placed_polygons c.args.points.now order)) (sym c.new.ensures.items) (All-nil _)

pub returns-clause-moved : goal.returns-clause-moved
returns-clause-moved g c = order-moved c.args.points.now c.args.ends.now c.deref-3.result.now c.deref-4.result.now c.in_ok-rings_in_order.field-0.items c.in_ok-rings_in_order.ensures.all

pub returns-clause-nested : goal.returns-clause-nested
returns-clause-nested g c =
    let marks = c.deref-2.ensures.value ∙ sym c.deref-3.ensures.value in
    let have : AreHomes c.deref-3.result.now c.deref-4.result.now = subst₂ (λ (list : List Bool) (homes : List ℕ). AreHomes list homes) marks (sym c.deref-4.ensures.value) c.in_ok-homes.ensures.ok in
    let share : ShareHomes (rings_of c.args.points.now 0 c.args.ends.now) c.deref-3.result.now c.deref-4.result.now =
    subst₂ (λ (list : List Bool) (homes : List ℕ). ShareHomes (rings_of c.args.points.now 0 c.args.ends.now) list homes) marks (sym c.deref-4.ensures.value) c.in_ok-homes.ensures.share in
    all-nested c.args.points.now c.args.ends.now c.deref-3.result.now c.deref-4.result.now c.in_ok-rings_in_order.field-0.items c.in_ok-rings_in_order.ensures.all
    (c.deref-3.ensures.value ∙ c.in_ok-are_outer.ensures) have c.in_ok-rings_in_order.ensures.order share
