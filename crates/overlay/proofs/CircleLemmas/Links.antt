-- Rings of a polygon, without one of them, linked where they share points: from each point of a ring there is a walk to each point
-- of a ring of its class, along no edge of the one left out.
use Rattle.std.proofs.Common.{◌≡◌, ◌≢◌, ◌==◌, ◌<◌, ◌&&◌, ℕ, zero, suc, Bool, true, not, List, [], ◌∷◌, get_or, length, refl, arith}
use Rattle.std.specs.List.{All, Contains, filter, flat_map}
use Rattle.std.proofs.lemmas.Bool.{and_from, and_parts, both_ways, ne_eqb, not-true, not_from_false}
use Rattle.std.proofs.lemmas.Bool.Decides.{Decides-eqb}
use Rattle.std.proofs.lemmas.List.Elements.{All-contains, Contains-get_or, filter_passes}
use Rattle.i_tree.proofs.RootLemmas.Lists.{Contains-filter, Contains-here}
use Rattle.plane.specs.declared.point.Point.{Point}
use Rattle.overlay.specs.Contours.Rings.{IsRing, ring_edges}
use Rattle.overlay.specs.Fill.Filled.{AreDistinct}
use Rattle.overlay.proofs.CircleLemmas.Classes.{class-joins, class-linked, class_of}
use Rattle.overlay.proofs.CircleLemmas.Distinct.{rings-apart}
use Rattle.overlay.proofs.CircleLemmas.Round.{IsBeside}
use Rattle.overlay.proofs.CircleLemmas.Searches.{pairs, pairs-held, share, share-held, share-told}
use Rattle.overlay.proofs.CircleLemmas.Walks.{Reaches, Reaches-over, Reaches-wider, ring-reaches}
use Rattle.overlay.proofs.GroupingLemmas.Bags.{Contains-in_flat_map}

-- ---- numbers that differ

pub differ-told : (one other : ℕ) → not (one == other) ≡ true → one ≢ other
differ-told one other told same = both_ways (one == other) (not-true (one == other) told) ((Decides-eqb one other).1 same)

pub differ-held : (one other : ℕ) → one ≢ other → not (one == other) ≡ true
differ-held one other apart = not_from_false (one == other) (ne_eqb one other apart)

-- a ring that has a point is one of the rings
pub within-by : (rings : List (List Point)) (one : ℕ) (at : Point) → Contains (get_or rings one []) at → one < length rings
within-by [] one at (k, within, is) = absurd (omega (arith, within))
within-by (ring ∷ rings) zero at held = omega arith
within-by (ring ∷ rings) (suc one) at held = let later = within-by rings one at held in omega (arith, later)

some-point : (ring : List Point) → ring ≢ [] → (at : Point) × Contains ring at
some-point [] some = absurd (some refl)
some-point (at ∷ points) some = (at, Contains-here at points)

-- ---- the links

module _ (polygon : List (List Point)) (place : ℕ) where
  abbrev pub ring_at : ℕ → List Point
  ring_at one = get_or polygon one []

  abbrev is_link : ℕ × ℕ → Bool
  is_link link = (not (link.0 == place) && not (link.1 == place)) && share (ring_at link.0) (ring_at link.1)

  -- The pairs of rings but for that at the place that share a point.
  abbrev pub links : List (ℕ × ℕ)
  links = filter is_link (pairs (length polygon))

  -- Two such rings are of one class.
  pub sharing-alike : (one other : ℕ) (at : Point) → one ≢ place → other ≢ place → Contains (ring_at one) at → Contains (ring_at other) at
      → class_of links one ≡ class_of links other
  sharing-alike one other at apart apart_too held held_too =
      class-linked links (one, other)
      (Contains-filter is_link (pairs (length polygon)) (one, other)
      (and_from (not (one == place) && not (other == place)) (share (ring_at one) (ring_at other))
      (and_from (not (one == place)) (not (other == place)) (differ-held one place apart) (differ-held other place apart_too))
      (share-held (ring_at one) (ring_at other) at held held_too))
      (pairs-held (length polygon) one other (within-by polygon one at held) (within-by polygon other at held_too)))

  -- ---- walks from ring to ring

  abbrev pub IsOther : ℕ → Type 0
  IsOther one = (one < length polygon) × (one ≢ place)

  -- From each point of the one ring there is a walk to each of the other.
  abbrev pub Leads : ℕ → ℕ → Type 0
  Leads one other = (from to : Point) → Contains (ring_at one) from → Contains (ring_at other) to → Reaches (IsBeside polygon (ring_at place)) from to

  abbrev Joined : ℕ → ℕ → Type 0
  Joined one other = IsOther one → IsOther other × Leads one other

  module _ (each : All IsRing polygon) (distinct : AreDistinct (flat_map ring_edges polygon)) (inside : place < length polygon) where
    leads-itself : (one : ℕ) → IsOther one → Leads one one
    leads-itself one (within, apart) from to held held_too =
        Reaches-wider (Contains (ring_edges (ring_at one))) (IsBeside polygon (ring_at place))
        (λ edge among. (
          Contains-in_flat_map ring_edges polygon (ring_at one) edge (Contains-get_or polygon one [] within) among,
          rings-apart polygon distinct one place within inside apart edge among,
        ))
        from to (ring-reaches (ring_at one) from to held held_too)

    leads-over : (one mid other : ℕ) → mid < length polygon → Leads one mid → Leads mid other → Leads one other
    leads-over one mid other within first second from to held held_too =
        let (at, among) = some-point (ring_at mid) (each mid [] within).some in
        Reaches-over (IsBeside polygon (ring_at place)) from at to (first from at held among) (second at to among held_too)

    -- two that share a point
    leads-by : (one other : ℕ) (at : Point) → IsOther one → IsOther other → Contains (ring_at one) at → Contains (ring_at other) at → Leads one other
    leads-by one other at is is_too held held_too from to among among_too =
        Reaches-over (IsBeside polygon (ring_at place)) from at to (leads-itself one is from at among held) (leads-itself other is_too at to held_too among_too)

    linked-joins : (link : ℕ × ℕ) → Contains links link → Joined link.0 link.1 × Joined link.1 link.0
    linked-joins (one, other) among =
        let told = All-contains (λ (link : ℕ × ℕ). is_link link ≡ true) links (one, other) (filter_passes is_link (pairs (length polygon))) among in
        let (apart, sharing) = and_parts (not (one == place) && not (other == place)) (share (ring_at one) (ring_at other)) told in
        let (first, second) = and_parts (not (one == place)) (not (other == place)) apart in
        let (at, held, held_too) = share-told (ring_at one) (ring_at other) sharing in
        let is : IsOther one = (within-by polygon one at held, differ-told one place first) in
        let is_too : IsOther other = (within-by polygon other at held_too, differ-told other place second) in
        ((λ _. (is_too, leads-by one other at is is_too held held_too)), (λ _. (is, leads-by other one at is_too is held_too held)))

    -- So it is with rings of one class.
    pub class-leads : (one other : ℕ) → IsOther one → class_of links one ≡ class_of links other → Leads one other
    class-leads one other is same =
        (class-joins Joined
        (λ a is_one. (is_one, leads-itself a is_one))
        (λ a b c first second is_one. (let (is_mid, there) = first is_one in let (is_other, on) = second is_mid in (is_other, leads-over a b c is_mid.0 there on)))
        links linked-joins one other same is).1
