-- What contacts are told at pairs of edges, and that they are in order.
use Rattle.std.proofs.Common.{◌≡◌, ◌≢◌, ◌⊎◌, inl, inr, ⊎_elim, ℕ, ◌+◌, ◌<◌, Bool, true, List, [], ◌∷◌, ◌++◌, Some, Ordering, Less, Equal, Greater, get_or, length, map, option_map, refl, ap, ap₂, sym, subst, ◌∙◌, arith}
use Rattle.std.specs.Prelude.{◌↔◌}
use Rattle.std.specs.List.{AllPairs, Contains, dedup, slice_get}
use Rattle.std.specs.List.Sorted.{IsPermutation, IsSorted, IsStrictlySortedBy}
use Rattle.std.specs.Ordering.{MatchOrdering, eq_by_cmp, is_eq, nat_cmp, ordering_reverse, ordering_then}
use Rattle.std.proofs.lemmas.Cmp.{ranked}
use Rattle.std.proofs.lemmas.List.Kept.{AllPairs-cons, IsStrictlySortedBy-dedup}
use Rattle.std.proofs.lemmas.Map.Keys.{sorted_tail}
use Rattle.std.proofs.lemmas.Map.Views.{All-after_first}
use Rattle.std.proofs.lemmas.Option.{get_or_from_slice_get, same_Some, slice_get-map, slice_get_within}
use Rattle.plane.specs.contracts.point.PointOrd.TheImpl.{ghosts as point_order}
use Rattle.plane.specs.contracts.point.PointOrd.TheImpl.Laws.{total-law as point_total}
use Rattle.plane.specs.declared.edge.Edge.{Edge}
use Rattle.plane.specs.declared.point.Point.{Point}
use Rattle.plane.specs.Gains.{GainsThese, IsOfSome}
use Rattle.plane.specs.Meet.Edges.{Meet}
use Rattle.plane.specs.Meet.Kinds.{HasPoint, MeetSo}
use Rattle.plane.specs.declared.meet.kinds.Meeting.TheVariants.{Touch}
use Rattle.plane.specs.Pairs.Pairs.{ArePairs}
use Rattle.plane.proofs.PointLemmas.{point-same}
use Rattle.plane.proofs.GainsLemmas.{HaveSame-sorted, gained-all, gains-join, gains-one, gains-same, held-at, place-of}
use Rattle.overlay.specs.Contours.Rings.{real_edges, ring_edges}
use Rattle.overlay.specs.OnePiece.{TouchesIn}
use Rattle.validity.specs.contracts.one_piece.ContactOrd.TheImpl.{ghosts as contact_order}
use Rattle.validity.specs.contracts.one_piece.ContactOrd.TheImpl.Laws.{total-law as contact_total}
use Rattle.validity.specs.declared.one_piece.Contact.{Contact}
use Rattle.validity.specs.declared.one_piece.OwnedEdge.{OwnedEdge}
use Rattle.validity.specs.Contacts.{AreContacts, AreOwned, AreTogether, IsContactAt, IsContactOf, edge_of}
use Rattle.validity.proofs.Meetings.{by_order, touch-only, touch-swapped}

module _ (rings : List (List Point)) (owned : List OwnedEdge) (are : AreOwned rings owned) where
  -- a contact of two edges of rings
  touches : (one other : OwnedEdge) (contact : Contact) → Contains owned one → Contains owned other → IsContactOf one other contact → TouchesIn rings contact.ring contact.point
  touches one other contact held held_too is = by is.of
    where
      by : (contact.ring ≡ one.ring) ⊎ (contact.ring ≡ other.ring) → TouchesIn rings contact.ring contact.point
      by (inl same) =
          let (within, among) = (are one).0 held in
          let (within_too, among_too) = (are other).0 held_too in
          subst (λ (r : ℕ). TouchesIn rings r contact.point) (sym same) (record {
            other = other.ring;
            apart = λ equal. is.apart (sym equal);
            within = within;
            other_within = within_too;
            edge = one.edge;
            other_edge = other.edge;
            held = among;
            other_held = among_too;
            touch = is.touch;
            on = is.on;
            other_on = is.other_on;
          })
      by (inr same) =
          let (within, among) = (are one).0 held in
          let (within_too, among_too) = (are other).0 held_too in
          subst (λ (r : ℕ). TouchesIn rings r contact.point) (sym same) (record {
            other = one.ring;
            apart = is.apart;
            within = within_too;
            other_within = within;
            edge = other.edge;
            other_edge = one.edge;
            held = among_too;
            other_held = among;
            touch = touch-swapped one.edge other.edge is.touch;
            on = is.other_on;
            other_on = is.on;
          })

  module _ (edges : List Edge) (same : edges ≡ map edge_of owned) (pairs : List (ℕ × ℕ)) (found : ArePairs Meet edges pairs) where
    -- the edge at a place
    edge-at : (i : ℕ) (one : OwnedEdge) → slice_get owned i ≡ Some one → slice_get edges i ≡ Some one.edge
    edge-at i one stands = ap (λ (list : List Edge). slice_get list i) same ∙ slice_get-map edge_of owned i ∙ ap (λ found. option_map edge_of found) stands

    -- touches are told at some pair
    told : (contact : Contact) → TouchesIn rings contact.ring contact.point → IsOfSome (IsContactAt owned) pairs contact
    told contact touch =
        let one : OwnedEdge = record { edge = touch.edge; ring = contact.ring } in
        let other : OwnedEdge = record { edge = touch.other_edge; ring = touch.other } in
        let (i, first) = place-of owned one ((are one).1 (touch.within, touch.held)) in
        let (j, second) = place-of owned other ((are other).1 (touch.other_within, touch.other_held)) in
        let (at, both, alone, end) = touch.touch in
        by_order i j
        (λ below. (
          (i, j),
          (found.exact i j).1 (record { one = touch.edge; other = touch.other_edge; rising = below; first = edge-at i one first; second = edge-at j other second; meet = (at, both.0, both.1) }),
          record {
            one = one;
            other = other;
            first = first;
            second = second;
            is = record { apart = λ equal. touch.apart (sym equal); touch = touch.touch; on = touch.on; other_on = touch.other_on; of = inl refl };
          },
        ))
        (λ equal. absurd (touch.apart (ap (λ (o : OwnedEdge). o.ring) (same_Some _ _ (sym second ∙ ap (slice_get owned) (sym equal) ∙ first)))))
        (λ above. (
          (j, i),
          (found.exact j i).1 (record { one = touch.other_edge; other = touch.edge; rising = above; first = edge-at j other second; second = edge-at i one first; meet = (at, both.1, both.0) }),
          record {
            one = other;
            other = one;
            first = second;
            second = first;
            is = record { apart = touch.apart; touch = touch-swapped touch.edge touch.other_edge touch.touch; on = touch.other_on; other_on = touch.on; of = inr refl };
          },
        ))

    pub contacts-told : (contacts : List Contact) → GainsThese (IsOfSome (IsContactAt owned) pairs) [] contacts → (contact : Contact) → Contains contacts contact ↔ TouchesIn rings contact.ring contact.point
    contacts-told contacts gained contact =
        let all = gained-all (IsOfSome (IsContactAt owned) pairs) contacts gained contact in (
          λ held. from (all.0 held),
          λ touch. all.1 (told contact touch),
        )
      where
        from : IsOfSome (IsContactAt owned) pairs contact → TouchesIn rings contact.ring contact.point
        from (pair, among, at) = touches at.one at.other contact (held-at owned pair.0 at.one at.first) (held-at owned pair.1 at.other at.second) at.is

-- ---- the edges of one ring more

pub owned-next : (rings : List (List Point)) (k : ℕ) (now after : List OwnedEdge) → ((owned : OwnedEdge) → Contains now owned ↔ ((owned.ring < k) × Contains (real_edges (ring_edges (get_or rings owned.ring []))) owned.edge))
    → GainsThese (IsOfSome (λ edge owned. owned ≡ record { edge = edge; ring = k }) (real_edges (ring_edges (get_or rings k [])))) now after
    → (owned : OwnedEdge) → Contains after owned ↔ ((owned.ring < k + 1) × Contains (real_edges (ring_edges (get_or rings owned.ring []))) owned.edge)
owned-next rings k now after are gained owned = (
  λ held. ⊎_elim (λ before. let (less, among) = (are owned).0 before in (omega (arith, less), among)) last ((gained owned).0 held),
  λ (within, among). by_order owned.ring k (λ less. (gained owned).1 (inl ((are owned).1 (less, among)))) (λ same. (gained owned).1 (inr (owned.edge, subst (λ (n : ℕ). Contains (real_edges (ring_edges (get_or rings n []))) owned.edge) same among, ap (λ (n : ℕ). (let one : OwnedEdge = record { edge = owned.edge; ring = n } in one)) same)))
      (λ more. absurd (omega (arith, within, more))),
)
  where
    last : IsOfSome (λ edge owned. owned ≡ record { edge = edge; ring = k }) (real_edges (ring_edges (get_or rings k []))) owned
        → (owned.ring < k + 1) × Contains (real_edges (ring_edges (get_or rings owned.ring []))) owned.edge
    last (edge, among, is) =
        let ring = ap (λ (o : OwnedEdge). o.ring) is in (
          omega (arith, ring),
          subst (λ (o : OwnedEdge). Contains (real_edges (ring_edges (get_or rings o.ring []))) o.edge) (sym is) among,
        )

pub owned-none : (rings : List (List Point)) (now : List OwnedEdge) → now ≡ [] → (owned : OwnedEdge) → Contains now owned ↔ ((owned.ring < 0) × Contains (real_edges (ring_edges (get_or rings owned.ring []))) owned.edge)
owned-none rings now none owned = (
  λ held. absurd (nothing (subst (λ (list : List OwnedEdge). Contains list owned) none held)),
  λ (within, among). absurd (omega (arith, within)),
)
  where
    nothing : Contains {X = OwnedEdge} [] owned → ⊥
    nothing (k, within, at) = omega (arith, within)

pub owned-all : (rings : List (List Point)) (k : ℕ) (now : List OwnedEdge) → k ≡ length rings → ((owned : OwnedEdge) → Contains now owned ↔ ((owned.ring < k) × Contains (real_edges (ring_edges (get_or rings owned.ring []))) owned.edge))
    → AreOwned rings now
owned-all rings k now all are owned = (
  λ held. let (less, among) = (are owned).0 held in (omega (arith, less, all), among),
  λ (within, among). (are owned).1 (omega (arith, within, all), among),
)

-- ---- in order

abbrev compared : Contact → Contact → Ordering
compared a b = ordering_then (point_order.cmp a.point b.point) (nat_cmp a.ring b.ring)

never : {A : Type 0} → Less ≡ Greater → A
never h = absurd cc

nat-same : (x y : ℕ) (o : Ordering) → MatchOrdering o (x < y) (x ≡ y) (y < x) → is_eq o ≡ true → x ≡ y
nat-same x y Less said is = absurd cc
nat-same x y Equal said is = said
nat-same x y Greater said is = absurd cc

pub contact-same : (a b : Contact) → eq_by_cmp contact_order.cmp a b ≡ true → a ≡ b
contact-same a b is = by (point_order.cmp a.point b.point) refl is
  where
    by : (o : Ordering) → point_order.cmp a.point b.point ≡ o → is_eq (ordering_then o (nat_cmp a.ring b.ring)) ≡ true → a ≡ b
    by Less e is = absurd cc
    by Equal e is = ap₂ (λ (p : Point) (r : ℕ). (let one : Contact = record { point = p; ring = r } in one)) (point-same a.point b.point (ap is_eq e)) (nat-same a.ring b.ring (nat_cmp a.ring b.ring) (ranked a.ring b.ring (nat_cmp a.ring b.ring) refl) is)
    by Greater e is = absurd cc

pairs-strict : (list : List Contact) → IsStrictlySortedBy contact_order.cmp list → AllPairs (λ one later. contact_order.cmp one later ≡ Less) list
pairs-strict [] strict = λ i j d order within. absurd (omega (arith, within))
pairs-strict (first ∷ list) strict =
    AllPairs-cons (λ (one later : Contact). contact_order.cmp one later ≡ Less) first list (All-after_first contact_order.cmp first list strict) (pairs-strict list (sorted_tail contact_order.cmp first list strict))

-- none is below itself
pub strict-once : (list : List Contact) → IsStrictlySortedBy contact_order.cmp list → AllPairs (λ one later. one ≢ later) list
strict-once list strict i j d below within same =
    let less = pairs-strict list strict i j d below within in
    let itself : contact_order.cmp (get_or list i d) (get_or list i d) ≡ Less = subst (λ (c : Contact). contact_order.cmp (get_or list i d) c ≡ Less) (sym same) less in
    never (sym itself ∙ contact_total.antisymm (get_or list i d) (get_or list i d) ∙ ap ordering_reverse itself)

not-greater : (p q : Ordering) → ordering_then p q ≡ Less → (p ≡ Less) ⊎ (p ≡ Equal)
not-greater Less q is = inl refl
not-greater Equal q is = inr refl
not-greater Greater q is = absurd cc

equal-between : (p back : Ordering) → back ≡ ordering_reverse p → (p ≡ Less) ⊎ (p ≡ Equal) → (back ≡ Less) ⊎ (back ≡ Equal) → is_eq p ≡ true
equal-between Equal back is not_more not_less = refl
equal-between Less back is not_more (inl less) = absurd (let e : Less ≡ Greater = sym less ∙ is in cc)
equal-between Less back is not_more (inr less) = absurd (let e : Equal ≡ Greater = sym less ∙ is in cc)
equal-between Greater back is (inl more) not_less = absurd cc
equal-between Greater back is (inr more) not_less = absurd cc

-- what lies between two in one point is in it, too
pub strict-together : (list : List Contact) → IsStrictlySortedBy contact_order.cmp list → AreTogether list
strict-together list strict i j k one between other below below_too first second third same =
    point-same one.point between.point
    (equal-between (point_order.cmp one.point between.point) (point_order.cmp between.point one.point) (point_total.antisymm between.point one.point)
    (not-greater _ _ (less i j one between below first second))
    (subst (λ (p : Point). (point_order.cmp between.point p ≡ Less) ⊎ (point_order.cmp between.point p ≡ Equal)) (sym same) (not-greater _ _ (less j k between other below_too second third))))
  where
    less : (i j : ℕ) (one other : Contact) → i < j → slice_get list i ≡ Some one → slice_get list j ≡ Some other → compared one other ≡ Less
    less i j one other below first second =
        subst (λ (c : Contact). compared c other ≡ Less) (get_or_from_slice_get list i one one first)
        (subst (λ (c : Contact). compared (get_or list i one) c ≡ Less) (get_or_from_slice_get list j other one second) (pairs-strict list strict i j one below (slice_get_within list j other second)))

-- ---- one pair, and two contacts

-- what the edges at a pair gain
pub contact-at : (owned : List OwnedEdge) (pair : ℕ × ℕ) (one other : OwnedEdge) → slice_get owned pair.0 ≡ Some one → slice_get owned pair.1 ≡ Some other → (before after : List Contact) → GainsThese (IsContactOf one other) before after
    → GainsThese (IsContactAt owned pair) before after
contact-at owned pair one other first second before after gains =
    gains-same (IsContactOf one other) (IsContactAt owned pair) before after
    (λ contact is. record { one = one; other = other; first = first; second = second; is = is })
    (λ contact at. subst (λ (o : OwnedEdge). IsContactOf o other contact) (same_Some _ _ (sym at.first ∙ first)) (subst (λ (o : OwnedEdge). IsContactOf at.one o contact) (same_Some _ _ (sym at.second ∙ second)) at.is)) gains

-- the two contacts of edges that touch in a point
pub contacts-two : (one other : OwnedEdge) (point : Point) → one.ring ≢ other.ring → MeetSo one.edge other.edge Touch → HasPoint one.edge point.x point.y → HasPoint other.edge point.x point.y
    → (before after : List Contact) → after ≡ (before ++ (record { point = point; ring = one.ring }) ∷ []) ++ (record { point = point; ring = other.ring }) ∷ [] → GainsThese (IsContactOf one other) before after
contacts-two one other point apart touch on other_on before after same =
    subst (λ (list : List Contact). GainsThese (IsContactOf one other) before list) (sym same)
    (gains-same (λ contact. (contact ≡ first) ⊎ (contact ≡ second)) (IsContactOf one other) before ((before ++ first ∷ []) ++ second ∷ []) to from
    (gains-join (λ contact. contact ≡ first) (λ contact. contact ≡ second) before (before ++ first ∷ []) ((before ++ first ∷ []) ++ second ∷ []) (gains-one before first) (gains-one (before ++ first ∷ []) second)))
  where
    first : Contact
    first = record { point = point; ring = one.ring }

    second : Contact
    second = record { point = point; ring = other.ring }

    to : (contact : Contact) → (contact ≡ first) ⊎ (contact ≡ second) → IsContactOf one other contact
    to contact (inl is) = subst (λ (c : Contact). IsContactOf one other c) (sym is) (record { apart = apart; touch = touch; on = on; other_on = other_on; of = inl refl })
    to contact (inr is) = subst (λ (c : Contact). IsContactOf one other c) (sym is) (record { apart = apart; touch = touch; on = on; other_on = other_on; of = inr refl })

    from : (contact : Contact) → IsContactOf one other contact → (contact ≡ first) ⊎ (contact ≡ second)
    from contact is = by (touch-only one.edge other.edge contact.point point is.touch is.on is.other_on on other_on) is.of
      where
        by : contact.point ≡ point → (contact.ring ≡ one.ring) ⊎ (contact.ring ≡ other.ring) → (contact ≡ first) ⊎ (contact ≡ second)
        by here (inl ring) = inl (ap₂ (λ (p : Point) (r : ℕ). (let c : Contact = record { point = p; ring = r } in c)) here ring)
        by here (inr ring) = inr (ap₂ (λ (p : Point) (r : ℕ). (let c : Contact = record { point = p; ring = r } in c)) here ring)

-- contacts in order, each once
pub contacts-made : (rings : List (List Point)) (raw sorted contacts : List Contact) {same : Contact → Contact → Bool} (ties : (x y : Contact) → same x y ≡ eq_by_cmp contact_order.cmp x y)
    → ((contact : Contact) → Contains raw contact ↔ TouchesIn rings contact.ring contact.point) → IsPermutation raw sorted → IsSorted contact_order.cmp sorted → contacts ≡ dedup same sorted → AreContacts rings contacts × AreTogether contacts
contacts-made rings raw sorted contacts {same} ties told moved order is =
    let have = HaveSame-sorted contact_total contact-same ties raw sorted moved in
    let strict = IsStrictlySortedBy-dedup contact_total ties sorted order in
    subst (λ (list : List Contact). AreContacts rings list × AreTogether list) (sym is) (
      record {
        exact = λ contact. (λ held. (told contact).0 ((have contact).0 held), λ touch. (have contact).1 ((told contact).1 touch));
        once = strict-once (dedup same sorted) strict;
      },
      strict-together (dedup same sorted) strict,
    )
