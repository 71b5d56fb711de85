use Rattle.std.proofs.Common.{◌∙◌, [], ◌<◌, ◌++◌, ℕ, List, ap, drop, length, map, sym, subst₂, arith}
use Rattle.std.specs.List.{All}
use Rattle.std.proofs.lemmas.List.{length-map}
use Rattle.std.proofs.lemmas.List.Filters.{dedup_is}
use Rattle.plane.specs.Gains.{GainsThese, IsOfSome}
use Rattle.validity.specs.contracts.one_piece.ContactOrd.TheImpl.Laws.{matches_eq-law}
use Rattle.validity.specs.Contacts.{IsContactAt, edge_of}
use Rattle.validity.specs.Given.{rings_at}
use Rattle.validity.specs.declared.one_piece.OwnedEdge.{OwnedEdge}
use Rattle.validity.proofs.Contacts.{contacts-made, contacts-told}
use Rattle.validity.proofs.one_piece.contacts_of.Goals as goal

pub contacts_at-requires : goal.contacts_at-requires
contacts_at-requires g c = λ k d within.
    let every = subst₂ (λ (before now : List (ℕ × ℕ)). All (λ pair. (pair.0 < pair.1) × (pair.1 < length c.deref-2.result.now)) (drop (length before) now)) c.new-pairs.ensures.items (sym c.deref-4.ensures.value) c.in_ok-meetings.ensures.within in
    let (rising, inside) = every k d within in
    let a = ap (λ list. length list) c.deref-2.ensures.value in
    let b = ap (λ list. length list) c.in_ok-edges.ensures in
    let e = length-map c.deref.result.now edge_of in
    let f = ap (λ (list : List OwnedEdge). length list) (c.deref-3.ensures.value ∙ sym c.deref.ensures.value) in
    (omega (arith, rising, inside, a, b, e, f), omega (arith, inside, a, b, e, f))

pub returns-clause-ok : goal.returns-clause-ok
returns-clause-ok g c =
    let (pairs, appended, found) = c.in_ok-meetings.ensures.ok in
    let same = c.deref-2.ensures.value ∙ c.in_ok-edges.ensures ∙ ap (λ (list : List OwnedEdge). map edge_of list) c.deref.ensures.value in
    let gained = subst₂ (λ (owned : List OwnedEdge) (list : List (ℕ × ℕ)). GainsThese (IsOfSome (IsContactAt owned) list) [] c.in_ok-contacts.contacts.items) c.deref-3.ensures.value
    (c.deref-4.ensures.value ∙ appended ∙ ap (λ (list : List (ℕ × ℕ)). list ++ pairs) c.new-pairs.ensures.items) c.in_ok-contacts.ensures in
    (contacts-made (rings_at c.args.rings) c.in_ok-contacts.contacts.items c.sort_unstable.new.self.items c.dedup.new.self.items matches_eq-law
    (contacts-told (rings_at c.args.rings) c.in_ok-owned.owned.items c.in_ok-owned.ensures c.deref-2.result.now same pairs found c.in_ok-contacts.contacts.items gained)
    c.sort_unstable.ensures.permutation c.sort_unstable.ensures.sorted (dedup_is _ _ _ c.dedup.ensures.filtered)).0

pub returns-clause-together : goal.returns-clause-together
returns-clause-together g c =
    let (pairs, appended, found) = c.in_ok-meetings.ensures.ok in
    let same = c.deref-2.ensures.value ∙ c.in_ok-edges.ensures ∙ ap (λ (list : List OwnedEdge). map edge_of list) c.deref.ensures.value in
    let gained = subst₂ (λ (owned : List OwnedEdge) (list : List (ℕ × ℕ)). GainsThese (IsOfSome (IsContactAt owned) list) [] c.in_ok-contacts.contacts.items) c.deref-3.ensures.value
    (c.deref-4.ensures.value ∙ appended ∙ ap (λ (list : List (ℕ × ℕ)). list ++ pairs) c.new-pairs.ensures.items) c.in_ok-contacts.ensures in
    (contacts-made (rings_at c.args.rings) c.in_ok-contacts.contacts.items c.sort_unstable.new.self.items c.dedup.new.self.items matches_eq-law
    (contacts-told (rings_at c.args.rings) c.in_ok-owned.owned.items c.in_ok-owned.ensures c.deref-2.result.now same pairs found c.in_ok-contacts.contacts.items gained)
    c.sort_unstable.ensures.permutation c.sort_unstable.ensures.sorted (dedup_is _ _ _ c.dedup.ensures.filtered)).1
