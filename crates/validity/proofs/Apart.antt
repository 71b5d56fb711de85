-- A ring of three points or more that visits none twice: no two of its edges have the same ends, and none is a point.
use Rattle.std.proofs.Common.{◌≡◌, ◌≢◌, ◌⊎◌, inl, inr, ℕ, suc, ◌<◌, ◌≤◌, List, [], ◌∷◌, ◌++◌, get_or, length, map, refl, ap, sym, subst, ◌∙◌, arith}
use Rattle.std.specs.List.{All, AllPairs}
use Rattle.std.proofs.lemmas.List.{get_or-map, get_or_append_left, length-map}
use Rattle.std.proofs.Math.Seq.{get_or-append_seam}
use Rattle.plane.specs.declared.edge.Edge.{Edge}
use Rattle.plane.specs.declared.point.Point.{Point}
use Rattle.plane.specs.Ends.{end_of, start_of}
use Rattle.noding.specs.Windings.{pieces}
use Rattle.overlay.specs.Contours.Rings.{ring_edges}
use Rattle.overlay.specs.Fill.Filled.{AreDistinct, HaveSameEnds}
use Rattle.overlay.proofs.FillLemmas.Premises.{All-among}
use Rattle.validity.proofs.Meetings.{by_order}

-- the points at which pieces start, and at which they end
starts-along : (from : Point) (others : List Point) (last : Point) → map start_of (pieces (from ∷ (others ++ last ∷ []))) ≡ from ∷ others
starts-along from [] last = refl
starts-along from (next ∷ others) last = ap (λ (points : List Point). from ∷ points) (starts-along next others last)

ends-along : (from : Point) (others : List Point) (last : Point) → map end_of (pieces (from ∷ (others ++ last ∷ []))) ≡ others ++ last ∷ []
ends-along from [] last = refl
ends-along from (next ∷ others) last = ap (λ (points : List Point). next ∷ points) (ends-along next others last)

module _ (first : Point) (others : List Point) (once : AllPairs (λ point later. point ≢ later) (first ∷ others)) where
  abbrev ring : List Point
  ring = first ∷ others

  abbrev edges : List Edge
  edges = ring_edges ring

  size : length edges ≡ length ring
  size = sym (length-map edges start_of) ∙ ap (λ (points : List Point). length points) (starts-along first others first)

  start-at : (k : ℕ) (e : Edge) (d : Point) → k < length ring → start_of (get_or edges k e) ≡ get_or ring k d
  start-at k e d within = sym (get_or-map start_of edges k e d (omega (arith, size, within))) ∙ ap (λ (points : List Point). get_or points k d) (starts-along first others first)

  end-at : (k : ℕ) (e : Edge) (d : Point) → k < length ring → end_of (get_or edges k e) ≡ get_or (others ++ first ∷ []) k d
  end-at k e d within = sym (get_or-map end_of edges k e d (omega (arith, size, within))) ∙ ap (λ (points : List Point). get_or points k d) (ends-along first others first)

  -- an edge ends at the next point, and the last one at the first point
  ends-next : (k : ℕ) (e : Edge) (d : Point) → k < length others → end_of (get_or edges k e) ≡ get_or ring (suc k) d
  ends-next k e d within = end-at k e d (omega (arith, within)) ∙ get_or_append_left others (first ∷ []) d k within

  ends-first : (k : ℕ) (e : Edge) → k ≡ length others → end_of (get_or edges k e) ≡ first
  ends-first k e is = end-at k e first (omega (arith, is)) ∙ ap (λ (n : ℕ). get_or (others ++ first ∷ []) n first) is ∙ get_or-append_seam others first [] first

  -- points at two places are the same only if these are
  one-place : (i j : ℕ) (d : Point) → i < length ring → j < length ring → get_or ring i d ≡ get_or ring j d → i ≡ j
  one-place i j d inside within same =
      by_order i j (λ below. absurd (once i j d below within same)) (λ level. level) (λ above. absurd (once j i d above inside (sym same)))

  next-place : (k : ℕ) → k < length ring → (k < length others) ⊎ (k ≡ length others)
  next-place k within = by_order k (length others) (λ below. inl below) (λ level. inr level) (λ above. absurd (omega (arith, within, above)))

  -- of two edges the later one doesn't go back along the other
  never-back : 3 ≤ length ring → (i j : ℕ) (e : Edge) → i < j → j < length ring → start_of (get_or edges i e) ≡ end_of (get_or edges j e) → end_of (get_or edges i e) ≡ start_of (get_or edges j e) → ⊥
  never-back enough i j e below within back forth =
      let d = first in
      let inside : i < length others = omega (arith, below, within) in
      let onwards : suc i ≡ j = one-place (suc i) j d (omega (arith, inside)) within (sym (ends-next i e d inside) ∙ forth ∙ start-at j e d within) in
      let here = sym (start-at i e d (omega (arith, inside))) ∙ back in
      elim (next-place j within) [
        | inl more ↦ (let level : i ≡ suc j = one-place i (suc j) d (omega (arith, inside)) (omega (arith, more)) (here ∙ ends-next j e d more) in omega (arith, below, level))
        | inr last ↦ (let level : i ≡ 0 = one-place i 0 d (omega (arith, inside)) (omega arith) (here ∙ ends-first j e last) in omega (arith, enough, onwards, last, level))
      ]

  distinct-here : 3 ≤ length ring → AreDistinct edges
  distinct-here enough i j e below far same = by same
    where
      within : j < length ring
      within = omega (arith, size, far)

      by : HaveSameEnds (get_or edges i e) (get_or edges j e) → ⊥
      by (inl one) =
          once i j first below within (sym (start-at i e first (omega (arith, below, within))) ∙ ap start_of one ∙ start-at j e first within)
      by (inr back) = never-back enough i j e below within (ap start_of back) (ap end_of back)

  real-at : 3 ≤ length ring → (k : ℕ) (e : Edge) → k < length ring → start_of (get_or edges k e) ≡ end_of (get_or edges k e) → ⊥
  real-at enough k e within same =
      let here = sym (start-at k e first within) ∙ same in
      elim (next-place k within) [
        | inl more ↦ (let level : k ≡ suc k = one-place k (suc k) first within (omega (arith, more)) (here ∙ ends-next k e first more) in omega (arith, level))
        | inr last ↦ (let level : k ≡ 0 = one-place k 0 first within (omega arith) (here ∙ ends-first k e last) in omega (arith, enough, last, level))
      ]

  real-here : 3 ≤ length ring → All (λ edge. start_of edge ≢ end_of edge) edges
  real-here enough =
      All-among (λ (edge : Edge). start_of edge ≢ end_of edge) edges
      (λ edge (k, within, is). subst (λ (e : Edge). start_of e ≢ end_of e) is (real-at enough k edge (omega (arith, size, within))))

pub ring-distinct : (ring : List Point) → 3 ≤ length ring → AllPairs (λ point later. point ≢ later) ring → AreDistinct (ring_edges ring)
ring-distinct [] enough once = absurd (omega (arith, enough))
ring-distinct (first ∷ others) enough once = distinct-here first others once enough

pub ring-real : (ring : List Point) → 3 ≤ length ring → AllPairs (λ point later. point ≢ later) ring → All (λ edge. start_of edge ≢ end_of edge) (ring_edges ring)
ring-real [] enough once = absurd (omega (arith, enough))
ring-real (first ∷ others) enough once = real-here first others once enough
