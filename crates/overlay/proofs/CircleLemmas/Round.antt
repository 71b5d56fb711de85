-- Where closed edges of a polygon go whole around its rings, none of its edges but those of a ring itself lead from one point of it
-- to another one.
use Rattle.std.proofs.Common.{◌≡◌, ◌≢◌, inl, inr, ◌+◌, ℕ, Bool, true, cond, List, [], ◌∷◌, ◌++◌, get_or, ap, ap₂, refl, sym, subst, ◌∙◌, arith}
use Rattle.std.specs.Bool.{Decides}
use Rattle.std.specs.List.{Contains, count_by, flat_map}
use Rattle.std.proofs.lemmas.Bool.Decides.{same_from_decides}
use Rattle.std.proofs.lemmas.List.Elements.{Contains-append_cases, Contains-get_or}
use Rattle.std.proofs.lemmas.List.Sums.{sum_by-append, sum_by-cons}
use Rattle.i_tree.proofs.RootLemmas.Lists.{Contains-here, Contains-there}
use Rattle.plane.specs.declared.edge.Edge.{Edge}
use Rattle.plane.specs.declared.point.Point.{Point}
use Rattle.plane.specs.Ends.{end_of, start_of}
use Rattle.overlay.specs.Contours.Rings.{IsRing, ring_edges}
use Rattle.overlay.specs.Joined.{is_same}
use Rattle.overlay.specs.OnePiece.{GoWhole}
use Rattle.overlay.proofs.CircleLemmas.Ends.{EndsAt, ends-at}
use Rattle.overlay.proofs.CircleLemmas.Walks.{Reaches, Walks-closed, ring-reaches}
use Rattle.overlay.proofs.ContourLemmas.Counts.{ends, found, is_at, is_at-itself, is_at-other, is_at-same, starts, unit}
use Rattle.overlay.proofs.GroupingLemmas.Bags.{Contains-in_flat_map}
use Rattle.overlay.proofs.WindsLemmas.Polygons.{is-same, same-edge}

-- ---- counts

module _ {X : Type 0} where
  -- two tests that agree on each item count as many
  count-agree : (test other : X → Bool) (xs : List X) → ((x : X) → Contains xs x → test x ≡ other x) → count_by test xs ≡ count_by other xs
  count-agree test other [] agree = refl
  count-agree test other (x ∷ xs) agree =
      sum_by-cons (λ (y : X). cond (test y) 1 0) x xs
      ∙ ap₂ (λ (m n : ℕ). m + n) (ap (λ (t : Bool). cond t 1 0) (agree x (Contains-here x xs))) (count-agree test other xs (λ y held. agree y (Contains-there x xs y held)))
      ∙ sym (sum_by-cons (λ (y : X). cond (other y) 1 0) x xs)

  -- a test that none passes counts none
  count-none : (test : X → Bool) (xs : List X) (none : X) → ((x : X) → Contains xs x → test x ≡ true → ⊥) → count_by test xs ≡ 0
  count-none test xs none fails = elim (found test xs) [
    | inl (k, within, is) ↦ absurd (fails (get_or xs k none) (Contains-get_or xs k none within) (is none))
    | inr is ↦ is
  ]

  count-append : (test : X → Bool) (xs ys : List X) → count_by test (xs ++ ys) ≡ count_by test xs + count_by test ys
  count-append test xs ys = sum_by-append (λ (x : X). cond (test x) 1 0) xs ys

at-decides : (at point : Point) → Decides (is_at at point) (point ≡ at)
at-decides at point = ((λ told. is_at-same at point told), (λ same. ap (λ (p : Point). is_at at p) same ∙ is_at-itself at))

-- ---- the edges of a ring at one of its points

module _ (ring : List Point) (is : IsRing ring) (at : Point) (among : Contains ring at) where
  abbrev two : EndsAt ring at
  two = ends-at ring is at among

  -- of some edges of the ring as many end at the point as are the one that does
  ends-there : (edges : List Edge) → ((edge : Edge) → Contains edges edge → Contains (ring_edges ring) edge) → count_by (is_same two.there) edges ≡ ends (is_at at) edges
  ends-there edges inside =
      count-agree (is_same two.there) (λ (edge : Edge). is_at at (end_of edge)) edges
      (λ edge held. same_from_decides (is_same two.there edge) (is_at at (end_of edge)) (
        (λ same. ap (λ (e : Edge). end_of e) (same-edge two.there edge same) ∙ two.ends),
        (λ there. ap (λ (e : Edge). is_same two.there e) (two.alone edge (inside edge held) there) ∙ is-same two.there),
      )
      (at-decides at (end_of edge)))

  starts-there : (edges : List Edge) → ((edge : Edge) → Contains edges edge → Contains (ring_edges ring) edge) → count_by (is_same two.on) edges ≡ starts (is_at at) edges
  starts-there edges inside =
      count-agree (is_same two.on) (λ (edge : Edge). is_at at (start_of edge)) edges
      (λ edge held. same_from_decides (is_same two.on edge) (is_at at (start_of edge)) (
        (λ same. ap (λ (e : Edge). start_of e) (same-edge two.on edge same) ∙ two.starts),
        (λ there. ap (λ (e : Edge). is_same two.on e) (two.alone_too edge (inside edge held) there) ∙ is-same two.on),
      )
      (at-decides at (start_of edge)))

-- of edges that aren't the ring's none is one of its
none-same : (ring : List Point) (one : Edge) → Contains (ring_edges ring) one
    → (edges : List Edge) → ((edge : Edge) → Contains edges edge → ¬ (Contains (ring_edges ring) edge)) → count_by (is_same one) edges ≡ 0
none-same ring one held edges outside =
    count-none (is_same one) edges one (λ edge inside same. outside edge inside (subst (λ (e : Edge). Contains (ring_edges ring) e) (sym (same-edge one edge same)) held))

-- ---- no way round

-- An edge of the polygon that isn't one of the ring.
abbrev pub IsBeside : List (List Point) → List Point → Edge → Type 0
IsBeside polygon ring edge = Contains (flat_map ring_edges polygon) edge × (¬ (Contains (ring_edges ring) edge))

-- Such edges walk from no point of the ring to another one.
pub no-round : (polygon : List (List Point)) → GoWhole polygon → (ring : List Point) → Contains polygon ring → IsRing ring
    → (at from : Point) → Contains ring at → Contains ring from → from ≢ at → ¬ (Reaches (IsBeside polygon ring) from at)
no-round polygon whole ring among is at from held held_too apart round =
    let own = ring-reaches ring at from held held_too in
    let two = ends-at ring is at held in
    let some = own.edges ++ round.edges in
    let closed = Walks-closed at from own.edges round.edges own.walks round.walks in
    let inside : (edge : Edge) → Contains some edge → Contains (flat_map ring_edges polygon) edge =
    λ edge given. elim (Contains-append_cases own.edges round.edges edge given) [
      | inl here ↦ Contains-in_flat_map ring_edges polygon ring edge among (own.takes edge here)
      | inr there ↦ (round.takes edge there).0
    ] in
    let same : count_by (is_same two.there) some ≡ count_by (is_same two.on) some = whole some closed inside ring among two.there two.on two.held two.held_too (two.ends ∙ sym two.starts) in
    let outside : (edge : Edge) → Contains round.edges edge → ¬ (Contains (ring_edges ring) edge) = λ edge given. (round.takes edge given).1 in
    let one_all = count-append (is_same two.there) own.edges round.edges in
    let one_none = none-same ring two.there two.held round.edges outside in
    let one_own = ends-there ring is at held own.edges own.takes in
    let other_all = count-append (is_same two.on) own.edges round.edges in
    let other_none = none-same ring two.on two.held_too round.edges outside in
    let other_own = starts-there ring is at held own.edges own.takes in
    let walked = own.walks (is_at at) in
    let here : unit (is_at at) at ≡ 1 = ap (λ (t : Bool). cond t 1 0) (is_at-itself at) in
    let there : unit (is_at at) from ≡ 0 = ap (λ (t : Bool). cond t 1 0) (is_at-other at from apart) in
    omega (arith, same, one_all, one_none, one_own, other_all, other_none, other_own, walked, here, there)
