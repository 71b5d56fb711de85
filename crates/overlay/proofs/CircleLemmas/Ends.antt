-- The two edges of a ring at one of its points: no other one of the ring ends there, and none starts there.
use Rattle.std.proofs.Common.{◌≡◌, ◌≢◌, ◌⊎◌, inl, inr, ◌+◌, ◌<◌, ℕ, pos, true, List, [], ◌∷◌, ap, drop, length, get_or, refl, sym, subst, ◌∙◌, arith}
use Rattle.std.specs.List.{Contains}
use Rattle.std.proofs.lemmas.List.{get_or_default}
use Rattle.std.proofs.lemmas.List.Elements.{All-weaker, Contains-get_or}
use Rattle.i_tree.proofs.RootLemmas.Lists.{AllPairs-head, AllPairs-tail}
use Rattle.plane.specs.declared.edge.Edge.{Edge}
use Rattle.plane.specs.declared.point.Point.{Point}
use Rattle.plane.specs.Ends.{edge_between, end_of, start_of}
use Rattle.overlay.specs.Contours.Outlines.{next_or, ring_point}
use Rattle.overlay.specs.Contours.Rings.{IsRing, ring_edges}
use Rattle.overlay.specs.Grouping.{edges_from}
use Rattle.overlay.proofs.AreaLemmas.Around.{ends-once, starts-once}
use Rattle.overlay.proofs.ContourLemmas.Counts.{counted, ends, found, is_at, is_at-itself, is_at-same, ring-closed, starts}
use Rattle.overlay.proofs.GroupingLemmas.Edges.{edge_at-of, edges_from-first}

-- ---- only one starts at a point, and only one ends there

into : (first : Point) (others : List Point) (edge : Edge) → Contains (ring_edges (first ∷ others)) edge → Contains (edges_from (first ∷ others) first) edge
into first others edge held = subst (λ (list : List Edge). Contains list edge) (edges_from-first (first ∷ others)) held

ring-starts-once : (ring : List Point) → IsRing ring → (one other : Edge) → Contains (ring_edges ring) one → Contains (ring_edges ring) other
    → start_of one ≡ start_of other → one ≡ other
ring-starts-once [] is one other held held_too same = absurd (is.some refl)
ring-starts-once (first ∷ others) is one other held held_too same =
    starts-once (first ∷ others) first is.once one other (into first others one held) (into first others other held_too) same

ring-ends-once : (ring : List Point) → IsRing ring → (one other : Edge) → Contains (ring_edges ring) one → Contains (ring_edges ring) other
    → end_of one ≡ end_of other → one ≡ other
ring-ends-once [] is one other held held_too same = absurd (is.some refl)
ring-ends-once (first ∷ others) is one other held held_too same =
    let Apart : Point → Point → Type 0 = λ point later. point ≢ later in
    ends-once first others first (AllPairs-tail Apart first others is.once)
    (All-weaker (λ (point : Point). first ≢ point) (λ point. point ≢ first) (λ point apart level. apart (sym level)) others (AllPairs-head Apart first others is.once))
    one other (into first others one held) (into first others other held_too) same

-- ---- and one does

-- The edge of a ring that ends at the point, and the one that starts there.
pub record EndsAt (ring : List Point) (at : Point) : Type 0 where
  pub there : Edge
  pub on : Edge
  pub held : Contains (ring_edges ring) there
  pub held_too : Contains (ring_edges ring) on
  pub ends : end_of there ≡ at
  pub starts : start_of on ≡ at
  pub alone : (edge : Edge) → Contains (ring_edges ring) edge → end_of edge ≡ at → edge ≡ there
  pub alone_too : (edge : Edge) → Contains (ring_edges ring) edge → start_of edge ≡ at → edge ≡ on

one-starts : (ring : List Point) (at : Point) → Contains ring at → (edge : Edge) × Contains (ring_edges ring) edge × (start_of edge ≡ at)
one-starts ring at (k, within, is) =
    let edge = edge_between (ring_point ring k) (next_or (drop (k + 1) ring) (ring_point ring 0)) in
    (edge, edge_at-of ring k within, get_or_default ring k (record { x = pos 0; y = pos 0 }) at within ∙ is)

one-ends : (ring : List Point) (at : Point) (on : Edge) → Contains (ring_edges ring) on → start_of on ≡ at → (edge : Edge) × Contains (ring_edges ring) edge × (end_of edge ≡ at)
one-ends ring at on (k, within, is) starts_there =
    by (found (λ (edge : Edge). is_at at (end_of edge)) (ring_edges ring))
  where
    some : 0 < starts (is_at at) (ring_edges ring)
    some =
        counted (λ (edge : Edge). is_at at (start_of edge)) (ring_edges ring) k on within
        (ap (λ (point : Point). is_at at point) (ap (λ (edge : Edge). start_of edge) is ∙ starts_there) ∙ is_at-itself at)

    by : ((i : ℕ) × (i < length (ring_edges ring)) × ((d : Edge) → is_at at (end_of (get_or (ring_edges ring) i d)) ≡ true)) ⊎ (ends (is_at at) (ring_edges ring) ≡ 0)
        → (edge : Edge) × Contains (ring_edges ring) edge × (end_of edge ≡ at)
    by (inl (i, inside, passes)) =
        (get_or (ring_edges ring) i on, Contains-get_or (ring_edges ring) i on inside, is_at-same at (end_of (get_or (ring_edges ring) i on)) (passes on))
    by (inr none) = (let same = ring-closed (is_at at) ring in let more = some in absurd (omega (arith, same, none, more)))

pub ends-at : (ring : List Point) → IsRing ring → (at : Point) → Contains ring at → EndsAt ring at
ends-at ring is at among =
    let (on, on_held, on_starts) = one-starts ring at among in
    let (there, there_held, there_ends) = one-ends ring at on on_held on_starts in
    record {
      there = there;
      on = on;
      held = there_held;
      held_too = on_held;
      ends = there_ends;
      starts = on_starts;
      alone = λ edge inside same. ring-ends-once ring is edge there inside there_held (same ∙ sym there_ends);
      alone_too = λ edge inside same. ring-starts-once ring is edge on inside on_held (same ∙ sym on_starts);
    }
