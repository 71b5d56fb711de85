-- An edge of an outline is made of edges of its ring, one behind the other, and where it passes a point of the ring that
-- goes straight on.
use Rattle.std.proofs.Common.{◌≡◌, ◌≢◌, ◌⊎◌, inl, inr, [], ◌∷◌, zero, suc, List, ap, refl, sym, subst, ◌∙◌, arith}
use Rattle.std.specs.List.{Contains}
use Rattle.i_tree.proofs.RootLemmas.Lists.{Contains-here, Contains-there}
use Rattle.plane.specs.declared.edge.Edge.{Edge}
use Rattle.plane.specs.declared.point.Point.{Point}
use Rattle.plane.specs.Ends.{edge_between, end_of, start_of}
use Rattle.plane.specs.Meet.Edges.{RationalPoint}
use Rattle.plane.specs.Meet.Kinds.{HasPoint, IsAt}
use Rattle.plane.proofs.MeetLemmas.Along.{whole_point}
use Rattle.plane.proofs.MeetLemmas.Along.{starts as starts-of}
use Rattle.noding.specs.Meeting.{MeetAtEnds}
use Rattle.overlay.specs.Contours.Outlines.{IsStraight, bends, next_or, outline}
use Rattle.overlay.specs.Contours.Rings.{IsRing, ring_edges}
use Rattle.overlay.specs.Fill.Filled.{AreNoded}
use Rattle.overlay.specs.Grouping.{edges_from}
use Rattle.overlay.proofs.AreaLemmas.Touching.{point-or}
use Rattle.overlay.proofs.CircleLemmas.Ends.{ends-at}
use Rattle.overlay.proofs.ContourLemmas.Bends.{Leads, bends-by, bends-either, last_from, leads-on, leads-straight, outline-is}
use Rattle.overlay.proofs.GroupingLemmas.Corners.{closing-among, way}
use Rattle.overlay.proofs.GroupingLemmas.Edges.{edges_from-first}
use Rattle.overlay.proofs.UncrossedLemmas.Finer.{at-finer, common-whole, one-point}
use Rattle.overlay.proofs.UncrossedLemmas.Split.{split-straight}

-- ---- what holds of the edges of an outline

-- It holds for some last point before the end.
abbrev Comes : (Point → Point → Point → Type 0) → Point → Point → Type 0
Comes P kept end = (last : Point) × P kept last end

module _ (edges : List Edge) (P : Point → Point → Point → Type 0)
    (begins : (before at after : Point) → Contains edges (edge_between before at) → Contains edges (edge_between at after) → ¬ (IsStraight before at after) → P at at after)
    (goes : (kept before at after : Point) → Leads kept before at → IsStraight before at after → Contains edges (edge_between before at) → Contains edges (edge_between at after) → P kept before at → P kept at after) where
  -- of the edge from the last point that is kept to the next one that is
  onwards : (kept before : Point) (points : List Point) (behind end : Point) → ((edge : Edge) → Contains (way before points behind) edge → Contains edges edge)
      → ((from : Point) → Leads from (last_from before points) behind → P from (last_from before points) behind → Comes P from end)
      → Leads kept before (next_or points behind) → P kept before (next_or points behind) → Comes P kept (next_or (bends before points behind) end)
  onwards kept before [] behind end among closing leads holds = closing kept leads holds
  onwards kept before (at ∷ points) behind end among closing leads holds =
      let after = next_or points behind in
      let first = edge_between before at in
      let next = edge_between at after in
      let rest = way at points behind in
      let inside : (edge : Edge) → Contains rest edge → Contains edges edge = λ edge held. among edge (Contains-there first rest edge held) in
      bends-by (λ list. Comes P kept (next_or list end)) before at points behind
      (λ straight. onwards kept at points behind end inside closing (leads-on kept before at after leads straight)
      (goes kept before at after leads straight (among first (Contains-here first rest)) (inside next (Contains-here next (edges_from points behind))) holds))
      (before, holds)

  -- of all edges over the bends
  all-bends : (before : Point) (points : List Point) (behind end : Point) → ((edge : Edge) → Contains (way before points behind) edge → Contains edges edge)
      → ((from : Point) → Leads from (last_from before points) behind → P from (last_from before points) behind → Comes P from end)
      → (over : Edge) → Contains (edges_from (bends before points behind) end) over → Comes P (start_of over) (end_of over)
  all-bends before [] behind end among closing over (k, within, is) = absurd (omega (arith, within))
  all-bends before (at ∷ points) behind end among closing over held =
      let after = next_or points behind in
      let first = edge_between before at in
      let next = edge_between at after in
      let rest = way at points behind in
      let inside : (edge : Edge) → Contains rest edge → Contains edges edge = λ edge there. among edge (Contains-there first rest edge there) in
      let later = all-bends at points behind end inside closing over in
      bends-either (λ list. Contains (edges_from list end) over → Comes P (start_of over) (end_of over)) before at points behind
      (λ straight. later)
      (λ bent. by later (onwards at at points behind end inside closing (inl refl)
      (begins before at after (among first (Contains-here first rest)) (inside next (Contains-here next (edges_from points behind))) bent)))
      held
    where
      by : (Contains (edges_from (bends at points behind) end) over → Comes P (start_of over) (end_of over)) → Comes P at (next_or (bends at points behind) end)
          → Contains (edges_from (at ∷ bends at points behind) end) over → Comes P (start_of over) (end_of over)
      by later first (zero, within, is) = subst (λ (e : Edge). Comes P (start_of e) (end_of e)) is first
      by later first (suc k, within, is) = later (k, omega (arith, within), is)

-- What holds of the edges of a ring that start where it turns, and goes on where it goes straight on, holds of the edges of
-- its outline: of where they start, the last point before their end, and that.
pub outline-by : (ring : List Point) (P : Point → Point → Point → Type 0)
    → ((before at after : Point) → Contains (ring_edges ring) (edge_between before at) → Contains (ring_edges ring) (edge_between at after) → ¬ (IsStraight before at after) → P at at after)
    → ((kept before at after : Point) → Leads kept before at → IsStraight before at after → Contains (ring_edges ring) (edge_between before at) → Contains (ring_edges ring) (edge_between at after) → P kept before at → P kept at after)
    → (over : Edge) → Contains (ring_edges (outline ring)) over → (last : Point) × P (start_of over) last (end_of over)
outline-by [] P begins goes over (k, within, is) = absurd (omega (arith, within))
outline-by (first ∷ others) P begins goes over held =
    go all (λ edge inside. all-bends round P begins goes last (first ∷ others) first (next_or all first) among
    (λ from leads holds. onwards round P begins goes from last (first ∷ others) first first among (λ from_too leads_too holds_too. (last, holds_too)) leads holds) edge inside)
    (subst (λ (kept : List Point). Contains (ring_edges kept) over) (outline-is first others) held)
  where
    last : Point
    last = last_from first others

    all : List Point
    all = bends last (first ∷ others) first

    round : List Edge
    round = ring_edges (first ∷ others)

    among : (edge : Edge) → Contains (way last (first ∷ others) first) edge → Contains round edge
    among edge inside = subst (λ (list : List Edge). Contains list edge) (sym (edges_from-first (first ∷ others))) (by inside)
      where
        by : Contains (way last (first ∷ others) first) edge → Contains (way first others first) edge
        by (zero, within, is) = subst (λ (e : Edge). Contains (way first others first) e) is (closing-among first others first)
        by (suc k, within, is) = (k, omega (arith, within), is)

    go : (kept : List Point) → ((edge : Edge) → Contains (edges_from kept (next_or kept first)) edge → Comes P (start_of edge) (end_of edge)) → Contains (ring_edges kept) over → Comes P (start_of over) (end_of over)
    go [] each (k, within, is) = absurd (omega (arith, within))
    go (next ∷ kept) each inside = each over (subst (λ (edges : List Edge). Contains edges over) (edges_from-first (next ∷ kept)) inside)

-- ---- points of the ring that such an edge passes

-- The ring goes straight on at the point, from one of the edges to another.
abbrev pub PassesStraight : List Edge → Point → Type 0
PassesStraight edges at = (a : Edge) × (b : Edge) × Contains edges a × Contains edges b × (end_of a ≡ at) × (start_of b ≡ at) × IsStraight (start_of a) at (end_of b)

module _ (ring : List Point) (is : IsRing ring) (noded : AreNoded (ring_edges ring)) where
  -- a point of the ring that is of one of its edges is an end of it
  pub ends-there : (edge : Edge) (at : Point) → Contains (ring_edges ring) edge → Contains ring at → HasPoint edge at.x at.y → (at ≡ start_of edge) ⊎ (at ≡ end_of edge)
  ends-there edge at held among on =
      let meets = ends-at ring is at among in
      let other = meets.on in
      let starts_there : HasPoint other at.x at.y = subst (λ (p : Point). HasPoint other p.x p.y) meets.starts (whole_point 1 (omega arith) other.x0 other.y0, starts-of other 1 (omega arith), record { x_is = refl; y_is = refl }) in
      let (n, some, of_one, of_other) = common-whole edge other at.x at.y on starts_there in
      let spot = whole_point n some at.x at.y in
      let here : IsAt spot at.x at.y = record { x_is = refl; y_is = refl } in
      by meets.on meets.starts spot here (noded edge other spot held meets.held_too of_one of_other)
    where
      by : (other : Edge) → start_of other ≡ at → (spot : RationalPoint) → IsAt spot at.x at.y → MeetAtEnds edge other spot → (at ≡ start_of edge) ⊎ (at ≡ end_of edge)
      by other starts_there spot here (inl (inl start, end)) = inl (one-point spot at (start_of edge) here start)
      by other starts_there spot here (inl (inr start, end)) = inr (one-point spot at (end_of edge) here start)
      by other starts_there spot here (inr (inl same)) = inl (sym (ap (λ (e : Edge). start_of e) same ∙ starts_there))
      by other starts_there spot here (inr (inr back)) = inr (sym (ap (λ (e : Edge). end_of e) back ∙ starts_there))

  -- Each point of the ring that the edge has, but its ends.
  abbrev PassesAll : Point → Point → Type 0
  PassesAll kept end = (at : Point) → Contains ring at → HasPoint (edge_between kept end) at.x at.y → at ≢ kept → at ≢ end → PassesStraight (ring_edges ring) at

  -- an edge of the ring has none
  passes-none : (from to : Point) → Contains (ring_edges ring) (edge_between from to) → PassesAll from to
  passes-none from to held at among on away away_too =
      absurd (elim (ends-there (edge_between from to) at held among on) [ inl start ↦ away start | inr end ↦ away_too end ])

  -- and where it goes straight on, no more than that point come
  passes-on : (kept before at after : Point) → Leads kept before at → IsStraight before at after → Contains (ring_edges ring) (edge_between before at) → Contains (ring_edges ring) (edge_between at after) → PassesAll kept at → PassesAll kept after
  passes-on kept before at after leads straight first second so_far point among (spot, of, here) away away_too =
      elim (point-or point at) [
        | inl same ↦ (edge_between before at, edge_between at after, first, second, sym same, sym same, subst (λ (p : Point). IsStraight before p after) (sym same) straight)
        | inr apart ↦ elim (split-straight kept at after (leads-straight kept before at after leads straight) spot of) [
          | inl has ↦ so_far point among (has.finer, has.of, at-finer has.k spot has.finer point.x point.y has.is here) away apart
          | inr has ↦ passes-none at after second point among (has.finer, has.of, at-finer has.k spot has.finer point.x point.y has.is here) apart away_too
        ]
      ]

  -- Where an edge of an outline has a point of the ring between its ends, the ring goes straight on there along it.
  pub passes-straight : (over : Edge) → Contains (ring_edges (outline ring)) over → (at : Point) → Contains ring at → HasPoint over at.x at.y → at ≢ start_of over → at ≢ end_of over → PassesStraight (ring_edges ring) at
  passes-straight over held =
      (outline-by ring (λ kept before at. PassesAll kept at) (λ before at after first second bent. passes-none at after second) passes-on over held).1
