use Rattle.std.proofs.Common.{◌∙◌, ◌<◌, ℕ, List, ap, get_or, length, subst, sym, arith}
use Rattle.std.proofs.lemmas.List.Elements.{Contains-get_or}
use Rattle.forest.specs.Circles.{HasNoCircle, Parts}
use Rattle.overlay.specs.OnePiece.{ComesFree, TouchesIn}
use Rattle.overlay.proofs.EachRing.{rings-size}
use Rattle.validity.specs.Contacts.{AreContacts}
use Rattle.validity.specs.Given.{rings_at}
use Rattle.validity.specs.declared.one_piece.Contact.{Contact}
use Rattle.validity.proofs.Circles.{circle-none, circle-some}
use Rattle.validity.proofs.Framed.{none-is, some-is}
use Rattle.validity.proofs.one_piece.first_circle.Goals as goal

pub graph_of-requires-clause-rings : goal.graph_of-requires-clause-rings
graph_of-requires-clause-rings g c = λ k d within.
    let are = subst (λ (list : List Contact). AreContacts (rings_at c.args.rings) list) (sym c.deref.ensures.value) c.in_ok-contacts.ensures.ok in
    let touch = (are.exact (get_or c.deref.result.now k d)).0 (Contains-get_or c.deref.result.now k d within) in
    let inside = touch.within in
    let size = rings-size c.args.rings.points.now 0 c.args.rings.ends.now in
    omega (arith, inside, size)

pub returns-in_default-clause-ok : goal.returns-in_default-clause-ok
returns-in_default-clause-ok g c =
    let are = subst (λ (list : List Contact). AreContacts (rings_at c.args.rings) list) (sym c.deref.ensures.value) c.in_ok-contacts.ensures.ok in
    let none = subst (λ (graph : List (ℕ × ℕ)). HasNoCircle graph) c.deref-2.ensures.value (none-is _ _ c.in_ok-place.field-0 c.in_default.is c.in_ok-place.ensures) in
    circle-none (rings_at c.args.rings) c.deref.result.now c.in_ok-graph.graph.items (length c.args.rings.ends.now) (sym (rings-size c.args.rings.points.now 0 c.args.rings.ends.now)) are c.in_ok-graph.ensures.graph none

pub returns-clause-ok : goal.returns-clause-ok
returns-clause-ok g c =
    let are = subst (λ (list : List Contact). AreContacts (rings_at c.args.rings) list) (sym c.deref.ensures.value) c.in_ok-contacts.ensures.ok in
    let place = c.in-Some.place in
    let (within, on) = some-is _ _ c.in_ok-place.field-0 place c.in-Some.is c.in_ok-place.ensures in
    let graph = c.in_ok-graph.ensures.graph in
    let size = graph.as_many in
    let same = ap (λ (list : List (ℕ × ℕ)). length list) c.deref-2.ensures.value in
    let inside : place < length c.deref.result.now = omega (arith, within, size, same) in
    let held = circle-some (rings_at c.args.rings) c.deref.result.now c.in_ok-graph.graph.items (length c.args.rings.ends.now) (sym (rings-size c.args.rings.points.now 0 c.args.rings.ends.now)) are graph c.index.result.now place inside
    (subst (λ (list : List (ℕ × ℕ)). ¬ (Parts list place)) c.deref-2.ensures.value on) in
    let read = c.index.ensures ∙ ap (λ (list : List Contact). get_or list place c.index.result.now) (sym c.deref.ensures.value) in (
      subst (λ (one : Contact). TouchesIn (rings_at c.args.rings) one.ring one.point) (sym read) ((are.exact (get_or c.deref.result.now place c.index.result.now)).0 (Contains-get_or c.deref.result.now place c.index.result.now inside)),
      subst (λ (one : Contact). ¬ (ComesFree (rings_at c.args.rings) one.ring one.point)) (sym read) held,
    )
