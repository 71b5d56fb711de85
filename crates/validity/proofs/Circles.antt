-- Circles of contacts are circles of the graph.
use Rattle.std.proofs.Common.{◌≡◌, ◌≢◌, ℕ, zero, suc, ◌+◌, ◌<◌, ◌≤◌, Bool, true, false, cond, eqb, List, [], ◌∷◌, get_or, length, refl, ap, ap₂, sym, subst, ◌∙◌, arith}
use Rattle.std.specs.List.{Contains}
use Rattle.std.specs.Prelude.{nat_lt}
use Rattle.std.proofs.lemmas.Bool.{eqb-false, eqb-true}
use Rattle.std.proofs.lemmas.Bool.Decides.{nat_tests}
use Rattle.std.proofs.lemmas.List.{get_or_default}
use Rattle.forest.specs.Circles.{HasNoCircle, Parts, ends_at}
use Rattle.plane.specs.declared.point.Point.{Point}
use Rattle.overlay.specs.OnePiece.{ComesFree, IsThere, TouchAlongNoCircle, TouchesIn}
use Rattle.validity.specs.declared.one_piece.Contact.{Contact}
use Rattle.validity.proofs.Meetings.{by_order, touch-swapped}
use Rattle.validity.specs.Contacts.{AreContacts, IsGraphOf}

-- the side of the first edge, but for one, whose node this is
abbrev found_side : (ℕ → Bool) → List (ℕ × ℕ) → ℕ → ℕ → ℕ → Bool
found_side side [] k skipped node = false
found_side side (edge ∷ edges) k skipped node = cond (eqb k skipped) (found_side side edges (k + 1) skipped node) (cond (eqb edge.1 node) (side edge.0) (found_side side edges (k + 1) skipped node))

found-side : (side : ℕ → Bool) (edges : List (ℕ × ℕ)) (k skipped node j : ℕ) → j < length edges → k + j ≢ skipped → (ends_at edges j).1 ≡ node
    → (i : ℕ) × (i < length edges) × (k + i ≢ skipped) × ((ends_at edges i).1 ≡ node) × (found_side side edges k skipped node ≡ side (ends_at edges i).0)
found-side side [] k skipped node j within differs at = absurd (omega (arith, within))
found-side side (edge ∷ edges) k skipped node j within differs at = by (λ i. found-side side edges (k + 1) skipped node i) (eqb k skipped) (eqb edge.1 node) refl refl
  where
    -- it is behind the first one
    later : ((i : ℕ) → i < length edges → (k + 1) + i ≢ skipped → (ends_at edges i).1 ≡ node
        → (l : ℕ) × (l < length edges) × ((k + 1) + l ≢ skipped) × ((ends_at edges l).1 ≡ node) × (found_side side edges (k + 1) skipped node ≡ side (ends_at edges l).0))
        → (j : ℕ) → j < length (edge ∷ edges) → k + j ≢ skipped → (ends_at (edge ∷ edges) j).1 ≡ node → j ≢ 0
        → (i : ℕ) × (i < length (edge ∷ edges)) × (k + i ≢ skipped) × ((ends_at (edge ∷ edges) i).1 ≡ node) × (found_side side edges (k + 1) skipped node ≡ side (ends_at (edge ∷ edges) i).0)
    later again zero within differs at some = absurd (some refl)
    later again (suc j) within differs at some =
        let (i, i_within, i_differs, i_at, is) = again j (omega (arith, within)) (λ same. differs (omega (arith, same))) at in
        (suc i, omega (arith, i_within), λ same. i_differs (omega (arith, same)), i_at, is)

    first-not : k ≡ skipped → j ≢ 0
    first-not same none = differs (omega (arith, same, none))

    node-not : edge.1 ≢ node → j ≢ 0
    node-not apart none = apart (sym (ap (λ (n : ℕ). (ends_at (edge ∷ edges) n).1) none) ∙ at)

    by : ((i : ℕ) → i < length edges → (k + 1) + i ≢ skipped → (ends_at edges i).1 ≡ node
        → (l : ℕ) × (l < length edges) × ((k + 1) + l ≢ skipped) × ((ends_at edges l).1 ≡ node) × (found_side side edges (k + 1) skipped node ≡ side (ends_at edges l).0))
        → (s t : Bool) → eqb k skipped ≡ s → eqb edge.1 node ≡ t
        → (i : ℕ) × (i < length (edge ∷ edges)) × (k + i ≢ skipped) × ((ends_at (edge ∷ edges) i).1 ≡ node)
        × (cond s (found_side side edges (k + 1) skipped node) (cond t (side edge.0) (found_side side edges (k + 1) skipped node)) ≡ side (ends_at (edge ∷ edges) i).0)
    by again true t e f = later again j within differs at (first-not (eqb-true k skipped e))
    by again false true e f = (0, omega arith, λ same. eqb-false k skipped e (omega (arith, same)), eqb-true edge.1 node f, refl)
    by again false false e f = later again j within differs at (node-not (eqb-false edge.1 node f))

-- what stands at one place is one
touch-same : (contacts : List Contact) (one other : Contact) (i k : ℕ) → k < length contacts → get_or contacts i one ≡ one → get_or contacts k other ≡ other → i ≡ k → one ≡ other
touch-same contacts one other i k within first second same =
    sym (subst (λ (n : ℕ). get_or contacts n one ≡ one) same first) ∙ get_or_default contacts k one other within ∙ second

touch-there : (one other : Contact) → one ≡ other → IsThere other.ring other.point one.ring one.point
touch-there one other same = (ap (λ (t : Contact). t.ring) same, ap (λ (t : Contact). t.point) same)

-- the other ring touches it there, too
touch-exchanged : (rings : List (List Point)) (place : ℕ) (point : Point) (own : TouchesIn rings place point) → TouchesIn rings own.other point
touch-exchanged rings place point own = record {
  other = place;
  apart = λ equal. own.apart (sym equal);
  within = own.other_within;
  other_within = own.within;
  edge = own.other_edge;
  other_edge = own.edge;
  held = own.other_held;
  other_held = own.held;
  touch = touch-swapped own.edge own.other_edge own.touch;
  on = own.other_on;
  other_on = own.on;
}

module _ (rings : List (List Point)) (contacts : List Contact) (graph : List (ℕ × ℕ)) (count : ℕ) (many : count ≡ length rings) (are : AreContacts rings contacts) (is : IsGraphOf count contacts graph) where
  -- the place of a touch
  place-of : (ring : ℕ) (point : Point) → TouchesIn rings ring point → Contains contacts (record { point = point; ring = ring })
  place-of ring point touch = (are.exact (record { point = point; ring = ring })).1 touch

  pub circle-none : HasNoCircle graph → TouchAlongNoCircle rings
  circle-none none place point touch =
      let (k, within, at) = place-of place point touch in
      let size = is.as_many in
      let (side, alike, apart) = none k (omega (arith, within, size)) in
      let own = is.ring k _ within at in
      let across : (j : ℕ) (other : Contact) → j < length contacts → get_or contacts j other ≡ other → j ≢ k → side other.ring ≡ side (ends_at graph j).1 = (λ j other inside there differs. sym (ap side (is.ring j other inside there)) ∙ alike j (omega (arith, inside, size)) differs) in
      record {
        side = side;
        alike = λ one other in_point first second not_first not_second.
            let (i, i_within, i_at) = place-of one in_point first in
            let (j, j_within, j_at) = place-of other in_point second in
            across i _ i_within i_at (λ same. not_first (same-touch _ _ i k within i_at at same))
            ∙ ap side ((is.same i j _ _ i_within j_within i_at j_at).1 refl)
            ∙ sym (across j _ j_within j_at (λ same. not_second (same-touch _ _ j k within j_at at same)));
        across = λ other second differs same.
            let (j, j_within, j_at) = place-of other point second in
            apart (ap side own ∙ sym same ∙ across j _ j_within j_at (λ one. differs (same-touch _ _ j k within j_at at one).0) ∙ ap side ((is.same j k _ _ j_within within j_at at).1 refl));
      }
    where
      same-touch : (one other : Contact) (i k : ℕ) → k < length contacts → get_or contacts i one ≡ one → get_or contacts k other ≡ other → i ≡ k → IsThere other.ring other.point one.ring one.point
      same-touch one other i k within first second same = touch-there one other (touch-same contacts one other i k within first second same)

  module _ (d : Contact) where
    abbrev at_place : ℕ → Contact
    at_place k = get_or contacts k d

    stands : (k : ℕ) → k < length contacts → get_or contacts k (at_place k) ≡ at_place k
    stands k within = get_or_default contacts k (at_place k) d within

    touch-at : (k : ℕ) → k < length contacts → TouchesIn rings (at_place k).ring (at_place k).point
    touch-at k within = (are.exact (at_place k)).0 (k, within, stands k within)

    -- a touch stands at one place
    one-place : (i k : ℕ) → i < length contacts → k < length contacts → IsThere (at_place k).ring (at_place k).point (at_place i).ring (at_place i).point → i ≡ k
    one-place i k inside within there =
        by_order i k
        (λ below. absurd (are.once i k d below within (same-parts (at_place i) (at_place k) there)))
        (λ same. same)
        (λ above. absurd (are.once k i d above inside (sym (same-parts (at_place i) (at_place k) there))))
      where
        same-parts : (one other : Contact) → IsThere other.ring other.point one.ring one.point → one ≡ other
        same-parts one other (ring, point) = ap₂ (λ (p : Point) (r : ℕ). (let touch : Contact = record { point = p; ring = r } in touch)) point ring

    ring-of : (k : ℕ) → k < length contacts → (ends_at graph k).0 ≡ (at_place k).ring
    ring-of k within = is.ring k (at_place k) within (stands k within)

    same-point : (j k : ℕ) → j < length contacts → k < length contacts → (ends_at graph j).1 ≡ (ends_at graph k).1 → (at_place j).point ≡ (at_place k).point
    same-point j k inside within node = (is.same j k (at_place j) (at_place k) inside within (stands j inside) (stands k within)).0 node

    module _ (k : ℕ) (within : k < length contacts) (free : ComesFree rings (at_place k).ring (at_place k).point) where
      -- rings and nodes for points are apart
      side-below : (n : ℕ) → n < count → cond (nat_lt n count) (free.side n) (found_side free.side graph 0 k n) ≡ free.side n
      side-below n below = by (nat_lt n count) refl
        where
          by : (t : Bool) → nat_lt n count ≡ t → cond t (free.side n) (found_side free.side graph 0 k n) ≡ free.side n
          by true e = refl
          by false e = absurd (grind (arith, nat_tests))

      side-behind : (n : ℕ) → count ≤ n → cond (nat_lt n count) (free.side n) (found_side free.side graph 0 k n) ≡ found_side free.side graph 0 k n
      side-behind n from = by (nat_lt n count) refl
        where
          by : (t : Bool) → nat_lt n count ≡ t → cond t (free.side n) (found_side free.side graph 0 k n) ≡ found_side free.side graph 0 k n
          by false e = refl
          by true e = absurd (grind (arith, nat_tests))

      side-of_ring : (i : ℕ) → i < length contacts → cond (nat_lt (ends_at graph i).0 count) (free.side (ends_at graph i).0) (found_side free.side graph 0 k (ends_at graph i).0) ≡ free.side (at_place i).ring
      side-of_ring i inside =
          let own = ring-of i inside in
          let there = (touch-at i inside).within in
          side-below (ends_at graph i).0 (omega (arith, own, there, many)) ∙ ap free.side own

      -- another touch in the point of one
      side-of_node : (i j : ℕ) → i < length contacts → j < length contacts → j ≢ k → (ends_at graph j).1 ≡ (ends_at graph i).1
          → (l : ℕ) × (l < length contacts) × (l ≢ k) × ((at_place l).point ≡ (at_place i).point)
          × (cond (nat_lt (ends_at graph i).1 count) (free.side (ends_at graph i).1) (found_side free.side graph 0 k (ends_at graph i).1) ≡ free.side (at_place l).ring)
      side-of_node i j inside j_inside differs node =
          let size = is.as_many in
          let (l, l_inside, l_differs, l_node, found) = found-side free.side graph 0 k (ends_at graph i).1 j (omega (arith, j_inside, size)) (λ same. differs (omega (arith, same))) node in
          let l_in : l < length contacts = omega (arith, l_inside, size) in (
            l,
            l_in,
            λ same. l_differs (omega (arith, same)),
            same-point l i l_in inside l_node,
            side-behind (ends_at graph i).1 (is.behind i inside) ∙ found ∙ ap free.side (ring-of l l_in),
          )

      there-not : (i : ℕ) → i < length contacts → i ≢ k → ¬ (IsThere (at_place k).ring (at_place k).point (at_place i).ring (at_place i).point)
      there-not i inside differs there = differs (one-place i k inside within there)

      comes-parts : Parts graph k
      comes-parts = (
        λ n. cond (nat_lt n count) (free.side n) (found_side free.side graph 0 k n),
        λ i below differs.
            let size = is.as_many in
            let inside : i < length contacts = omega (arith, below, size) in
            let (l, l_inside, l_differs, point, side) = side-of_node i i inside inside differs refl in
            side-of_ring i inside
            ∙ free.alike (at_place i).ring (at_place l).ring (at_place i).point (touch-at i inside) (subst (λ (p : Point). TouchesIn rings (at_place l).ring p) point (touch-at l l_inside))
            (there-not i inside differs) (subst (λ (p : Point). ¬ (IsThere (at_place k).ring (at_place k).point (at_place l).ring p)) point (there-not l l_inside l_differs))
            ∙ sym side,
        λ same.
            let own = touch-at k within in
            let (j, j_inside, j_at) = place-of own.other (at_place k).point (touch-exchanged rings (at_place k).ring (at_place k).point own) in
            let node = (is.same j k _ (at_place k) j_inside within j_at (stands k within)).1 refl in
            let differs : j ≢ k = (λ equal. own.apart (touch-there _ (at_place k) (touch-same contacts _ (at_place k) j k within j_at (stands k within) equal)).0) in
            let (l, l_inside, l_differs, point, side) = side-of_node k j within j_inside differs node in
            free.across (at_place l).ring (subst (λ (p : Point). TouchesIn rings (at_place l).ring p) point (touch-at l l_inside)) (λ ring. there-not l l_inside l_differs (ring, point))
            (sym side ∙ sym same ∙ side-of_ring k within),
      )

    pub circle-some : (k : ℕ) → k < length contacts → ¬ (Parts graph k) → ¬ (ComesFree rings (at_place k).ring (at_place k).point)
    circle-some k within not free = not (comes-parts k within free)
