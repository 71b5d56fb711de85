-- The edges of a ring's outline meet only at common ends, where those of the ring do.
use Rattle.std.proofs.Common.{◌≡◌, ◌≢◌, ◌⊎◌, inl, inr, suc, ℕ, List, [], ◌∷◌, append-nil, ap, refl, sym, subst, ◌∙◌, arith}
use Rattle.std.specs.List.{Contains, flat_map}
use Rattle.std.proofs.lemmas.List.Elements.{All-cons, All-nil}
use Rattle.plane.specs.declared.edge.Edge.{Edge}
use Rattle.plane.specs.declared.point.Point.{Point}
use Rattle.plane.specs.Ends.{edge_between, end_of, start_of}
use Rattle.plane.specs.Meet.Edges.{IsOf, RationalPoint}
use Rattle.plane.specs.Meet.Kinds.{HasPoint, IsAt, IsEnd}
use Rattle.noding.specs.Meeting.{MeetAtEnds}
use Rattle.overlay.specs.Contours.Outlines.{IsStraight, outline}
use Rattle.overlay.specs.Contours.Rings.{IsRing, ring_edges}
use Rattle.overlay.specs.Fill.Filled.{AreDistinct, AreNoded}
use Rattle.overlay.proofs.AreaLemmas.Around.{one-ends}
use Rattle.overlay.proofs.AreaLemmas.Touching.{point-or}
use Rattle.overlay.proofs.CircleLemmas.Ends.{ends-at}
use Rattle.overlay.proofs.ContourLemmas.Bends.{IsRing-outline, Leads, leads-straight}
use Rattle.overlay.proofs.GroupingLemmas.Edges.{ring-ends}
use Rattle.overlay.proofs.TouchLemmas.Outlined.{ends-there, outline-by}
use Rattle.overlay.proofs.TouchLemmas.Shared.{IsOfRings, Reached, Turns, one-starts, reached-once, share-one, turns-apart}
use Rattle.overlay.proofs.UncrossedLemmas.Finer.{at-finer}
use Rattle.overlay.proofs.UncrossedLemmas.Split.{split-straight}

-- ---- the edges of a ring that an edge of its outline is made of, and the points it passes

-- There they go straight on, on a way that comes straight from the other point.
record Passes (edges : List Edge) (from at : Point) : Type 0 where
  there : Edge
  on : Edge
  among : Contains edges there
  among_too : Contains edges on
  ends : end_of there ≡ at
  starts : start_of on ≡ at
  straight : IsStraight (start_of there) at (end_of on)
  place : ℕ
  reached : Reached edges place from there

-- From the one point, where it turns, to the other the ring goes straight on, by the last point before that, over each
-- point of the ring between the two.
record Goes (ring : List Point) (from before to : Point) : Type 0 where
  turns : Turns (ring_edges ring) from
  place : ℕ
  reached : Reached (ring_edges ring) place from (edge_between before to)
  passes : (at : Point) → Contains ring at → HasPoint (edge_between from to) at.x at.y → at ≢ from → at ≢ to → Passes (ring_edges ring) from at

module _ (ring : List Point) (is : IsRing ring) (noded : AreNoded (ring_edges ring)) where
  abbrev edges : List Edge
  edges = ring_edges ring

  -- no point of the ring lies between the ends of one of its edges
  none-between : (from to : Point) → Contains edges (edge_between from to) → (at : Point) → Contains ring at → HasPoint (edge_between from to) at.x at.y → at ≢ from → at ≢ to → ⊥
  none-between from to held at among on away away_too =
      elim (ends-there ring is noded (edge_between from to) at held among on) [ inl start ↦ away start | inr end ↦ away_too end ]

  goes-begins : (before at after : Point) → Contains edges (edge_between before at) → Contains edges (edge_between at after) → ¬ (IsStraight before at after) → Goes ring at at after
  goes-begins before at after first second bent = record {
    turns = record { there = edge_between before at; on = edge_between at after; among = first; among_too = second; ends = refl; starts = refl; bent = bent };
    place = 0;
    reached = refl;
    passes = λ point among on away away_too. absurd (none-between at after second point among on away away_too);
  }

  goes-on : (kept before at after : Point) → Leads kept before at → IsStraight before at after → Contains edges (edge_between before at) → Contains edges (edge_between at after) → Goes ring kept before at → Goes ring kept at after
  goes-on kept before at after leads straight first second so_far = record {
    turns = so_far.turns;
    place = suc so_far.place;
    reached = (edge_between before at, first, refl, straight, so_far.reached);
    passes = further;
  }
    where
      further : (point : Point) → Contains ring point → HasPoint (edge_between kept after) point.x point.y → point ≢ kept → point ≢ after → Passes edges kept point
      further point among (spot, of, here) away away_too =
          elim (point-or point at) [
            | inl same ↦ record {
              there = edge_between before at;
              on = edge_between at after;
              among = first;
              among_too = second;
              ends = sym same;
              starts = sym same;
              straight = subst (λ (p : Point). IsStraight before p after) (sym same) straight;
              place = so_far.place;
              reached = so_far.reached;
            }
            | inr apart ↦ elim (split-straight kept at after (leads-straight kept before at after leads straight) spot of) [
              | inl has ↦ so_far.passes point among (has.finer, has.of, at-finer has.k spot has.finer point.x point.y has.is here) away apart
              | inr has ↦ absurd (none-between at after second point among (has.finer, has.of, at-finer has.k spot has.finer point.x point.y has.is here) apart away_too)
            ]
          ]

  -- So is each edge of an outline made.
  outline-goes : (over : Edge) → Contains (ring_edges (outline ring)) over → (last : Point) × Goes ring (start_of over) last (end_of over)
  outline-goes over held = outline-by ring (Goes ring) goes-begins goes-on over held

  -- ---- edges of the outline

  -- at both its ends the ring turns
  start-turns : (over : Edge) → Contains (ring_edges (outline ring)) over → Turns edges (start_of over)
  start-turns over held = (outline-goes over held).1.turns

  end-turns : (over : Edge) → Contains (ring_edges (outline ring)) over → Turns edges (end_of over)
  end-turns over held =
      let around = ends-at (outline ring) (IsRing-outline ring is) (end_of over) (ring-ends (outline ring) over held).1 in
      subst (Turns edges) around.starts (start-turns around.on around.held_too)

  -- and where it goes straight on it doesn't
  passes-apart : (from at : Point) → Passes edges from at → ¬ (Turns edges at)
  passes-apart from at passes turns =
      turns-apart ring is at turns passes.there passes.on passes.among passes.among_too (passes.ends ∙ sym passes.starts) passes.starts
      (subst (λ (p : Point). IsStraight (start_of passes.there) p (end_of passes.on)) (sym passes.ends) passes.straight)

  module _ (one other : Edge) (held : Contains (ring_edges (outline ring)) one) (held_too : Contains (ring_edges (outline ring)) other) (apart : one ≢ other) where
    -- a point of the ring on both lies between the ends of neither
    never-between : (at : Point) → Contains ring at → HasPoint one at.x at.y → HasPoint other at.x at.y → at ≢ start_of one → at ≢ end_of one → ⊥
    never-between at among on on_too off_start off_end =
        let passes = (outline-goes one held).1.passes at among on off_start off_end in
        by passes (point-or at (start_of other)) (point-or at (end_of other))
      where
        by : Passes edges (start_of one) at → (at ≡ start_of other) ⊎ (at ≢ start_of other) → (at ≡ end_of other) ⊎ (at ≢ end_of other) → ⊥
        by passes (inl same) end = passes-apart (start_of one) at passes (subst (Turns edges) (sym same) (start-turns other held_too))
        by passes (inr off) (inl same) = passes-apart (start_of one) at passes (subst (Turns edges) (sym same) (end-turns other held_too))
        by passes (inr off) (inr off_too) =
            let passes_too = (outline-goes other held_too).1.passes at among on_too off off_too in
            let same = one-ends ring is passes_too.there passes.there passes_too.among passes.among (passes_too.ends ∙ sym passes.ends) in
            apart
            (one-starts (outline ring) (IsRing-outline ring is) one other held held_too
            (reached-once ring is passes.place passes_too.place (start_of one) (start_of other) passes.there passes.among (start-turns one held) (start-turns other held_too) passes.reached
            (subst (λ (e : Edge). Reached edges passes_too.place (start_of other) e) same passes_too.reached)))

    -- So it is an end of the one.
    pub own-end : (spot : RationalPoint) (at : Point) → IsAt spot at.x at.y → Contains ring at → IsOf one spot → IsOf other spot → IsEnd one spot
    own-end spot at there among of of_too =
        elim (point-or at (start_of one)) [
          | inl same ↦ inl (subst (λ (p : Point). IsAt spot p.x p.y) same there)
          | inr off_start ↦ elim (point-or at (end_of one)) [
            | inl same ↦ inr (subst (λ (p : Point). IsAt spot p.x p.y) same there)
            | inr off_end ↦ absurd (never-between at among (spot, of, there) (spot, of_too, there) off_start off_end)
          ]
        ]

-- Where the edges of a ring meet only at common ends, and no two have the same ends, those of its outline meet only at
-- common ends.
pub outline-noded : (ring : List Point) → IsRing ring → AreNoded (ring_edges ring) → AreDistinct (ring_edges ring) → AreNoded (ring_edges (outline ring))
outline-noded ring is noded distinct one other spot held held_too of of_too = by (point-or (start_of one) (start_of other))
  where
    all : ring_edges ring ≡ flat_map ring_edges (ring ∷ [])
    all = sym (append-nil (ring_edges ring))

    whole_point : one ≢ other → IsOfRings ring ring spot
    whole_point apart =
        share-one (ring ∷ []) (All-cons IsRing ring [] is (All-nil IsRing)) (subst AreNoded all noded) (subst AreDistinct all distinct) 0 0 (omega arith) (omega arith) one other held held_too (λ same. apart) spot of of_too

    both : one ≢ other → IsOfRings ring ring spot → MeetAtEnds one other spot
    both apart (at, there, among, among_too) =
        inl (own-end ring is noded one other held held_too apart spot at there among of of_too, own-end ring is noded other one held_too held (λ same. apart (sym same)) spot at there among of_too of)

    by : (start_of one ≡ start_of other) ⊎ (start_of one ≢ start_of other) → MeetAtEnds one other spot
    by (inl same) = inr (inl (one-starts (outline ring) (IsRing-outline ring is) one other held held_too same))
    by (inr off) = (let apart : one ≢ other = λ same. off (ap (λ (e : Edge). start_of e) same) in both apart (whole_point apart))
