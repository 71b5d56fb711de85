-- Around a ring without vertical edges all edges have the same winding number on their left.
use Rattle.std.proofs.Common.{◌≡◌, ◌≢◌, ◌⊎◌, inl, inr, [], ◌∷◌, zero, suc, ℤ, pos, ◌+ℤ◌, ◌<ℤ◌, false, cond, List, ap, refl, sym, subst, ◌∙◌, arith}
use Rattle.std.specs.Int.Signed.{lt_z}
use Rattle.std.specs.List.{All, AllPairs, Contains}
use Rattle.std.proofs.lemmas.Int.{by_lt_z}
use Rattle.std.proofs.lemmas.List.Elements.{All-contains, All-head, All-tail, All-weaker}
use Rattle.i_tree.proofs.RootLemmas.Lists.{AllPairs-head, AllPairs-tail, Contains-here, Contains-there}
use Rattle.plane.specs.declared.edge.Edge.{Edge}
use Rattle.plane.specs.declared.point.Point.{Point}
use Rattle.plane.specs.Ends.{edge_between, start_of, end_of}
use Rattle.overlay.specs.Contours.Outlines.{next_or}
use Rattle.overlay.specs.Contours.Rings.{IsRing, ring_edges}
use Rattle.overlay.specs.Contours.Turns.{ComesBefore}
use Rattle.overlay.specs.Fill.Filled.{AreDistinct, AreNoded}
use Rattle.overlay.specs.Grouping.{edges_from}
use Rattle.overlay.proofs.AreaLemmas.Fans.{along-own}
use Rattle.overlay.specs.Sides.{just_above, just_below, left_of, on_left}
use Rattle.overlay.proofs.AreaLemmas.Touching.{Touches}
use Rattle.overlay.proofs.AreaLemmas.Wedges.{IsNextAround, left-ending, left-starting, same-between, way_from}
use Rattle.overlay.proofs.ContourLemmas.Callers.{IsClosed-ring}
use Rattle.overlay.proofs.ContourLemmas.Turns.{ComesBefore-itself}
use Rattle.overlay.proofs.FillLemmas.Balance.{AreBalanced, balanced}
use Rattle.overlay.proofs.FillLemmas.Tests.{lt_false}
use Rattle.overlay.proofs.FillLemmas.Weights.{weight-right}
use Rattle.overlay.proofs.GroupingLemmas.Corners.{way}
use Rattle.overlay.proofs.GroupingLemmas.Edges.{edges_from-first}

-- ---- the edges of a ring that start or end at one point are one

starts-among : (points : List Point) (behind : Point) (edge : Edge) → Contains (edges_from points behind) edge → Contains points (start_of edge)
starts-among [] behind edge (k, within, is) = absurd (omega (arith, within))
starts-among (at ∷ points) behind edge (zero, within, is) = (0, omega arith, ap (λ (e : Edge). start_of e) is)
starts-among (at ∷ points) behind edge (suc k, within, is) = Contains-there at points (start_of edge) (starts-among points behind edge (k, omega (arith, within), is))

pub starts-once : (points : List Point) (behind : Point) → AllPairs (λ point later. point ≢ later) points → (one other : Edge) → Contains (edges_from points behind) one → Contains (edges_from points behind) other
    → start_of one ≡ start_of other → one ≡ other
starts-once [] behind once one other (k, within, is) second same = absurd (omega (arith, within))
starts-once (at ∷ points) behind once one other (zero, within, is) (zero, within', is') same = sym is ∙ is'
starts-once (at ∷ points) behind once one other (zero, within, is) (suc k, within', is') same =
    absurd (All-contains (λ (p : Point). at ≢ p) points (start_of other) (AllPairs-head (λ (point later : Point). point ≢ later) at points once) (starts-among points behind other (k, omega (arith, within'), is'))
    (ap (λ (e : Edge). start_of e) is ∙ same))
starts-once (at ∷ points) behind once one other (suc k, within, is) (zero, within', is') same =
    absurd (All-contains (λ (p : Point). at ≢ p) points (start_of one) (AllPairs-head (λ (point later : Point). point ≢ later) at points once) (starts-among points behind one (k, omega (arith, within), is))
    (ap (λ (e : Edge). start_of e) is' ∙ sym same))
starts-once (at ∷ points) behind once one other (suc k, within, is) (suc j, within', is') same =
    starts-once points behind (AllPairs-tail (λ (point later : Point). point ≢ later) at points once) one other (k, omega (arith, within), is) (j, omega (arith, within'), is') same

ends-among : (at : Point) (points : List Point) (behind : Point) (edge : Edge) → Contains (edges_from (at ∷ points) behind) edge → (end_of edge ≡ behind) ⊎ Contains points (end_of edge)
ends-among at [] behind edge (zero, within, is) = inl (sym (ap (λ (e : Edge). end_of e) is))
ends-among at [] behind edge (suc k, within, is) = absurd (omega (arith, within))
ends-among at (next ∷ points) behind edge (zero, within, is) = inr (0, omega arith, ap (λ (e : Edge). end_of e) is)
ends-among at (next ∷ points) behind edge (suc k, within, is) =
    elim (ends-among next points behind edge (k, omega (arith, within), is)) [ inl last ↦ inl last | inr held ↦ inr (Contains-there next points (end_of edge) held) ]

-- an edge behind the first one ends elsewhere than that
ends-apart : (next : Point) (points : List Point) (behind : Point) → AllPairs (λ point later. point ≢ later) (next ∷ points) → next ≢ behind → (edge : Edge) → Contains (edges_from (next ∷ points) behind) edge → next ≢ end_of edge
ends-apart next points behind once last edge among same =
    elim (ends-among next points behind edge among) [
      | inl is ↦ last (same ∙ is)
      | inr held ↦ All-contains (λ (p : Point). next ≢ p) points (end_of edge) (AllPairs-head (λ (point later : Point). point ≢ later) next points once) held same
    ]

pub ends-once : (at : Point) (points : List Point) (behind : Point) → AllPairs (λ point later. point ≢ later) points → All (λ point. point ≢ behind) points
    → (one other : Edge) → Contains (edges_from (at ∷ points) behind) one → Contains (edges_from (at ∷ points) behind) other → end_of one ≡ end_of other → one ≡ other
ends-once at points behind once last one other (zero, within, is) (zero, within', is') same = sym is ∙ is'
ends-once at [] behind once last one other (zero, within, is) (suc k, within', is') same = absurd (omega (arith, within'))
ends-once at [] behind once last one other (suc k, within, is) second same = absurd (omega (arith, within))
ends-once at (next ∷ points) behind once last one other (zero, within, is) (suc k, within', is') same =
    absurd (ends-apart next points behind once (All-head (λ (p : Point). p ≢ behind) next points last) other (k, omega (arith, within'), is') (ap (λ (e : Edge). end_of e) is ∙ same))
ends-once at (next ∷ points) behind once last one other (suc k, within, is) (zero, within', is') same =
    absurd (ends-apart next points behind once (All-head (λ (p : Point). p ≢ behind) next points last) one (k, omega (arith, within), is) (ap (λ (e : Edge). end_of e) is' ∙ sym same))
ends-once at (next ∷ points) behind once last one other (suc k, within, is) (suc j, within', is') same =
    ends-once next points behind (AllPairs-tail (λ (point later : Point). point ≢ later) next points once) (All-tail (λ (p : Point). p ≢ behind) next points last) one other (k, omega (arith, within), is) (j, omega (arith, within'), is') same

-- of a ring one edge ends at each point
pub one-ends : (ring : List Point) → IsRing ring → (one other : Edge) → Contains (ring_edges ring) one → Contains (ring_edges ring) other → end_of one ≡ end_of other → one ≡ other
one-ends [] is one other among among_too same = absurd (is.some refl)
one-ends (first ∷ others) is one other among among_too same =
    let shape = edges_from-first (first ∷ others) in
    let into : (edge : Edge) → Contains (ring_edges (first ∷ others)) edge → Contains (edges_from (first ∷ others) first) edge = λ edge held. subst (λ (list : List Edge). Contains list edge) shape held in
    ends-once first others first (AllPairs-tail (λ (point later : Point). point ≢ later) first others is.once)
    (All-weaker (λ (p : Point). first ≢ p) (λ p. p ≢ first) (λ p apart level. apart (sym level)) others (AllPairs-head (λ (point later : Point). point ≢ later) first others is.once))
    one other (into one among) (into other among_too) same

-- ---- one edge after the other

module _ (edges : List Edge) (noded : AreNoded edges) (distinct : AreDistinct edges) (sloped : All (λ edge. edge.x0 ≢ edge.x1) edges) (closed : AreBalanced edges)
    (starts : (one other : Edge) → Contains edges one → Contains edges other → start_of one ≡ start_of other → one ≡ other)
    (ends : (one other : Edge) → Contains edges one → Contains edges other → end_of one ≡ end_of other → one ≡ other) where
  -- on the left of one of them is what they wind there
  on-left : (edge : Edge) → Contains edges edge → on_left edges edge ≡ left_of edges edge
  on-left edge inside = by_lt_z edge.x0 edge.x1 (λ onwards. right edge inside onwards) (λ upto. left edge (lt_false edge.x0 edge.x1 upto))
    where
      right : (edge : Edge) → Contains edges edge → edge.x0 <ℤ edge.x1 → on_left edges edge ≡ left_of edges edge
      right edge inside onwards =
          ap (λ (z : ℤ). cond (lt_z edge.x0 edge.x1) (just_below edges edge +ℤ z) (just_below edges edge)) (sym (along-own edges edge distinct inside ∙ weight-right edge onwards))

      left : (edge : Edge) → lt_z edge.x0 edge.x1 ≡ false → on_left edges edge ≡ left_of edges edge
      left edge isnt =
          ap (λ t. cond t (just_below edges edge +ℤ pos 1) (just_below edges edge)) isnt ∙ sym (ap (λ t. cond t (just_above edges edge) (just_below edges edge)) isnt)

  module _ (before at after : Point) (among : Contains edges (edge_between before at)) (among_too : Contains edges (edge_between at after)) where
    abbrev there : Edge
    there = edge_between before at

    abbrev on : Edge
    on = edge_between at after

    -- these two alone touch the point between them
    alone : (edge : Edge) → Contains edges edge → Touches at edge → (edge ≡ there) ⊎ (edge ≡ on)
    alone edge inside (inl is) = inr (starts edge on inside among_too is)
    alone edge inside (inr is) = inl (ends edge there inside among is)

    -- so each is the next one from the other
    around : IsNextAround edges at there on
    around = record {
      among = among;
      among_too = among_too;
      touches = inr refl;
      touches_too = inl refl;
      apart = λ same. All-contains (λ (e : Edge). e.x0 ≢ e.x1) edges there sloped among (ap (λ (e : Edge). e.x0) same);
      first = λ edge inside touching other comes. elim (alone edge inside touching) [
        | inl same ↦ other same
        | inr same ↦ ComesBefore-itself (way_from at there) (way_from at on) (subst (λ (e : Edge). ComesBefore (way_from at there) (way_from at e) (way_from at on)) same comes)
      ];
    }

    -- and they have the same on their left
    turn-alike : on_left edges there ≡ on_left edges on
    turn-alike =
        on-left there among
        ∙ left-ending edges at there refl
        ∙ same-between edges noded distinct sloped edges closed (λ edge held. held) at there on around
        ∙ sym (left-starting edges at on (All-contains (λ (e : Edge). e.x0 ≢ e.x1) edges on sloped among_too) refl)
        ∙ sym (on-left on among_too)

  -- and all that follow
  alike-along : (before : Point) (points : List Point) (behind : Point) → ((edge : Edge) → Contains (way before points behind) edge → Contains edges edge)
      → (edge : Edge) → Contains (way before points behind) edge → on_left edges edge ≡ on_left edges (edge_between before (next_or points behind))
  alike-along before points behind all edge (zero, within, is) = ap (on_left edges) (sym is)
  alike-along before [] behind all edge (suc k, within, is) = absurd (omega (arith, within))
  alike-along before (at ∷ points) behind all edge (suc k, within, is) =
      let first = edge_between before at in
      let rest = way at points behind in
      let next = edge_between at (next_or points behind) in
      alike-along at points behind (λ other held. all other (Contains-there first rest other held)) edge (k, omega (arith, within), is)
      ∙ sym (turn-alike before at (next_or points behind) (all first (Contains-here first rest)) (all next (Contains-there first rest next (Contains-here next (edges_from points behind)))))

-- ---- rings

-- Around a ring without vertical edges all edges have the same winding number on their left.
pub one-left : (ring : List Point) → IsRing ring → AreNoded (ring_edges ring) → AreDistinct (ring_edges ring) → All (λ edge. edge.x0 ≢ edge.x1) (ring_edges ring)
    → (one other : Edge) → Contains (ring_edges ring) one → Contains (ring_edges ring) other → on_left (ring_edges ring) one ≡ on_left (ring_edges ring) other
one-left [] is noded distinct sloped one other among among_too = absurd (is.some refl)
one-left (first ∷ others) is noded distinct sloped one other among among_too =
    let all = ring_edges (first ∷ others) in
    let same = edges_from-first (first ∷ others) in
    let into : (edge : Edge) → Contains all edge → Contains (edges_from (first ∷ others) first) edge = λ edge held. subst (λ (list : List Edge). Contains list edge) same held in
    let out : (edge : Edge) → Contains (edges_from (first ∷ others) first) edge → Contains all edge = λ edge held. subst (λ (list : List Edge). Contains list edge) (sym same) held in
    let begins : (a b : Edge) → Contains all a → Contains all b → start_of a ≡ start_of b → a ≡ b = λ a b held held_too level. starts-once (first ∷ others) first is.once a b (into a held) (into b held_too) level in
    let closes : (a b : Edge) → Contains all a → Contains all b → end_of a ≡ end_of b → a ≡ b = one-ends (first ∷ others) is in
    let alike : (edge : Edge) → Contains all edge → on_left all edge ≡ on_left all (edge_between first (next_or others first)) =
    λ edge held. alike-along all noded distinct sloped (balanced all (IsClosed-ring (first ∷ others))) begins closes first others first out edge (into edge held) in
    alike one among ∙ sym (alike other among_too)
