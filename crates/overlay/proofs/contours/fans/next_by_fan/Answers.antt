use Rattle.std.proofs.Common.{◌≡◌, ℕ, List, Some, ap, subst, sym, ◌∙◌}
use Rattle.std.specs.List.{Contains}
use Rattle.std.proofs.lemmas.List.Elements.{All-contains}
use Rattle.overlay.specs.Contours.Fans.{IsFan}
use Rattle.overlay.specs.Contours.Turns.{Leaves}
use Rattle.overlay.specs.declared.contours.fans.Fan.{Fan}
use Rattle.overlay.specs.declared.contours.fans.Spoke.{Spoke}
use Rattle.overlay.proofs.WindsLemmas.Told.{fan-takes, leftmost-takes}
use Rattle.overlay.proofs.contours.fans.next_by_fan.Goals as goal

pub returns-in_default-clause-takes : goal.returns-in_default-clause-takes
returns-in_default-clause-takes g c = λ are. leftmost-takes c.args.sorted.now c.args.used.now c.args.back c.args.at c.leftmost.result are c.leftmost.ensures

pub returns-then-not-is_told-clause-takes : goal.returns-then-not-is_told-clause-takes
returns-then-not-is_told-clause-takes g c =
    λ are. leftmost-takes c.args.sorted.now c.args.used.now c.args.back c.args.at c.leftmost-then-not-is_told.result are c.leftmost-then-not-is_told.ensures

pub returns-then-leaves-clause-takes : goal.returns-then-leaves-clause-takes
returns-then-leaves-clause-takes g c =
    let sorted = c.args.sorted.now in
    let fan = c.in-Some.fan in
    let (held, corner) = c.in-Some.ensures in
    let is : IsFan sorted c.deref-2.result.now fan =
    subst (λ (spokes : List Spoke). IsFan sorted spokes fan) (sym c.deref-2.ensures.value)
    (All-contains (IsFan sorted c.args.fans.now.spokes.items) c.args.fans.now.fans.items fan c.requires.fans (subst (λ (fans : List Fan). Contains fans fan) c.deref.ensures.value held)) in
    let (within, told) = c.if-not-is_told.ensures in
    λ are last k inside starts ends first unused.
    ap Some (c.place_of-place.ensures ∙ fan-takes sorted c.deref-2.result.now fan c.args.back c.args.at c.args.first c.first_around-turn.result are c.requires.order is corner c.requires.first within told last k inside starts ends first)

pub returns-then-leaves-2-clause-takes : goal.returns-then-leaves-2-clause-takes
returns-then-leaves-2-clause-takes g c =
    let sorted = c.args.sorted.now in
    let fan = c.in-Some.fan in
    let (held, corner) = c.in-Some.ensures in
    let is : IsFan sorted c.deref-2.result.now fan =
    subst (λ (spokes : List Spoke). IsFan sorted spokes fan) (sym c.deref-2.ensures.value)
    (All-contains (IsFan sorted c.args.fans.now.spokes.items) c.args.fans.now.fans.items fan c.requires.fans (subst (λ (fans : List Fan). Contains fans fan) c.deref.ensures.value held)) in
    let (within, told) = c.if-not-is_told.ensures in
    λ are last k inside starts ends first unused.
    absurd (c.if-leaves.ensures
    (subst (λ (place : ℕ). Leaves sorted c.args.used.now c.args.at place)
    (sym (c.place_of-place.ensures ∙ fan-takes sorted c.deref-2.result.now fan c.args.back c.args.at c.args.first c.first_around-turn.result are c.requires.order is corner c.requires.first within told last k inside starts ends first))
    (record { inside = first.inside; unused = unused; starts = first.starts })))

pub returns-clause-takes : goal.returns-clause-takes
returns-clause-takes g c =
    let sorted = c.args.sorted.now in
    let fan = c.in-Some.fan in
    let (held, corner) = c.in-Some.ensures in
    let is : IsFan sorted c.deref-2.result.now fan =
    subst (λ (spokes : List Spoke). IsFan sorted spokes fan) (sym c.deref-2.ensures.value)
    (All-contains (IsFan sorted c.args.fans.now.spokes.items) c.args.fans.now.fans.items fan c.requires.fans (subst (λ (fans : List Fan). Contains fans fan) c.deref.ensures.value held)) in
    let (within, told) = c.if-not-is_told.ensures in
    λ are last k inside starts ends first unused.
    absurd (c.if-leaves.ensures
    (subst (λ (place : ℕ). Leaves sorted c.args.used.now c.args.at place)
    (sym (c.place_of-place.ensures ∙ fan-takes sorted c.deref-2.result.now fan c.args.back c.args.at c.args.first c.first_around-turn.result are c.requires.order is corner c.requires.first within told last k inside starts ends first))
    (record { inside = first.inside; unused = unused; starts = first.starts })))
