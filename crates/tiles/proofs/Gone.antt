-- How far a ring is gone over.
use Rattle.std.proofs.Common.{◌≡◌, ◌≢◌, inl, inr, ℕ, ◌*◌, ◌+◌, ◌-◌, ◌<◌, ◌≤◌, pos, List, [], ◌∷◌, ◌++◌, length, get_or, take, drop, refl, ap, sym, ◌∙◌, subst, append_assoc, arith}
use Rattle.std.proofs.lemmas.List.{get_or_at, length_push, nil_from_length}
use Rattle.std.proofs.lemmas.List.Elements.{Contains-append_right}
use Rattle.std.specs.List.{Contains}
use Rattle.plane.specs.declared.edge.Edge.{Edge}
use Rattle.plane.specs.declared.point.Point.{Point}
use Rattle.plane.specs.Ends.{edge_between}
use Rattle.noding.specs.Windings.{pieces}
use Rattle.overlay.specs.Contours.Rings.{ring_edges}
use Rattle.tiles.specs.Pushing.{GoesOver, HasSides}
use Rattle.tiles.specs.declared.window.Window.{Window}
use Rattle.tiles.proofs.Beside.{IsAt}
use Rattle.tiles.proofs.Chains.{GoesSoFar, Reaches, goes-over, pieces-push}
use Rattle.tiles.proofs.Closing.{open-edges}

-- the point at which a ring starts
abbrev pub ring_start : List Point → Point
ring_start ring = get_or ring 0 (record { x = pos 0; y = pos 0 })

-- What is left of the ring begins with the point up to which it is gone over, and behind what was there before stands the chain
-- that goes over its edges up to there.
pub record GoneOver (wide : Window) (ring rest before items : List Point) : Type 0 where
  pub front : List Point
  pub at : Point
  pub more : List Point
  pub chain : List Point
  pub rest_is : rest ≡ at ∷ more
  pub ring_is : ring ≡ front ++ at ∷ more
  pub items_are : items ≡ before ++ chain
  pub so_far : GoesSoFar wide ring (ring_start ring) (pieces (front ++ at ∷ [])) (2 * length front) at chain

-- What was pushed behind what was there before, when an edge was gone over.
abbrev pub IsGrown : Window → Point → Point → ℕ → List Point → List Point → Type 0
IsGrown wide from to start items items' =
    (before chain : List Point) → items ≡ before ++ chain → length before ≡ start → (after : List Point) × GoesOver wide from to chain after × (items' ≡ before ++ after)

-- at first nothing is
pub gone-none : (wide : Window) (ring before items : List Point) → ring ≢ [] → items ≡ before ++ [] → GoneOver wide ring ring before items
gone-none wide [] before items some is = absurd (some refl)
gone-none wide (first ∷ others) before items some is = record {
  front = [];
  at = first;
  more = others;
  chain = [];
  rest_is = refl;
  ring_is = refl;
  items_are = is;
  so_far = inl (refl, refl, refl, refl);
}

module _ (wide : Window) (sides : HasSides wide) (ring rest before items items' : List Point) (gone : GoneOver wide ring rest before items) (start : ℕ) (begins : length before ≡ start) where
  at-held : Contains ring gone.at
  at-held = subst (λ (points : List Point). Contains points gone.at) (sym gone.ring_is) (Contains-append_right gone.front (gone.at ∷ gone.more) gone.at (0, omega arith, refl))

  -- one edge more
  pub gone-more : (from to : Point) (rest' window : List Point) (d : Point) → 2 ≤ length rest → window ≡ take 2 rest → rest' ≡ drop 1 rest → from ≡ get_or window 0 d → to ≡ get_or window 1 d → IsGrown wide from to start items items'
      → GoneOver wide ring rest' before items'
  gone-more from to rest' window d two is rest_is from_is to_is grown = by gone.more refl
    where
      by : (more : List Point) → gone.more ≡ more → GoneOver wide ring rest' before items'
      by [] none =
          let short = ap (λ (points : List Point). length points) (gone.rest_is ∙ ap (λ (points : List Point). gone.at ∷ points) none) in
          absurd (omega (arith, two, short))
      by (next ∷ later) more_is =
          let whole : rest ≡ gone.at ∷ next ∷ later = gone.rest_is ∙ ap (λ (points : List Point). gone.at ∷ points) more_is in
          let ring_is : ring ≡ gone.front ++ gone.at ∷ next ∷ later = gone.ring_is ∙ ap (λ (points : List Point). gone.front ++ gone.at ∷ points) more_is in
          let window_is : window ≡ gone.at ∷ next ∷ [] = is ∙ ap (λ (points : List Point). take 2 points) whole in
          let from_at : from ≡ gone.at = from_is ∙ ap (λ (points : List Point). get_or points 0 d) window_is in
          let to_at : to ≡ next = to_is ∙ ap (λ (points : List Point). get_or points 1 d) window_is in
          let (after, goes, after_is) = grown before gone.chain gone.items_are begins in
          let over : GoesOver wide gone.at next gone.chain after = subst (λ (p : Point). GoesOver wide p next gone.chain after) from_at (subst (λ (p : Point). GoesOver wide from p gone.chain after) to_at goes) in
          let next_held : Contains ring next = subst (λ (points : List Point). Contains points next) (sym ring_is) (Contains-append_right gone.front (gone.at ∷ next ∷ later) next (1, omega arith, refl)) in
          let (last, last_at, reaches) = goes-over wide sides ring (ring_start ring) (pieces (gone.front ++ gone.at ∷ [])) (2 * length gone.front) gone.at next at-held next_held gone.chain after gone.so_far over in
          let edges = pieces-push gone.front (gone.front ++ gone.at ∷ []) gone.at next refl in
          let long = length_push gone.front gone.at in
          let count : 2 * length gone.front + 2 ≡ 2 * length (gone.front ++ gone.at ∷ []) = omega (arith, long) in
          record {
            front = gone.front ++ gone.at ∷ [];
            at = next;
            more = later;
            chain = after;
            rest_is = rest_is ∙ ap (λ (points : List Point). drop 1 points) whole;
            ring_is = ring_is ∙ sym (append_assoc gone.front (gone.at ∷ []) (next ∷ later));
            items_are = after_is;
            so_far = inr (
              last,
              last_at,
              subst (λ (n : ℕ). Reaches wide ring (ring_start ring) (pieces ((gone.front ++ gone.at ∷ []) ++ next ∷ [])) n last after) count
                  (subst (λ (done : List Edge). Reaches wide ring (ring_start ring) done (2 * length gone.front + 2) last after) (sym edges) reaches),
            );
          }

  -- and the last one
  pub gone-all : (from to d : Point) → length rest < 2 → from ≡ get_or ring (length ring - 1) d → to ≡ get_or ring 0 d → IsGrown wide from to start items items'
      → (last : Point) × (chain : List Point) × (items' ≡ before ++ chain) × IsAt wide (ring_start ring) last × Reaches wide ring (ring_start ring) (ring_edges ring) (2 * length ring) last chain
  gone-all from to d short from_is to_is grown =
      let size = ap (λ (points : List Point). length points) gone.rest_is in
      let none : gone.more ≡ [] = nil_from_length gone.more (omega (arith, short, size)) in
      let ring_is : ring ≡ gone.front ++ gone.at ∷ [] = gone.ring_is ∙ ap (λ (points : List Point). gone.front ++ gone.at ∷ points) none in
      let long = ap (λ (points : List Point). length points) ring_is ∙ length_push gone.front gone.at in
      let place : length gone.front ≡ length ring - 1 = omega (arith, long) in
      let from_at : from ≡ gone.at = from_is ∙ ap (λ (points : List Point). get_or points (length ring - 1) d) ring_is ∙ get_or_at gone.front gone.at [] d (length ring - 1) place in
      let to_at : to ≡ ring_start ring = to_is ∙ first_same gone.front gone.at ring d ring_is in
      let (after, goes, after_is) = grown before gone.chain gone.items_are begins in
      let over : GoesOver wide gone.at (ring_start ring) gone.chain after =
      subst (λ (p : Point). GoesOver wide p (ring_start ring) gone.chain after) from_at (subst (λ (p : Point). GoesOver wide from p gone.chain after) to_at goes) in
      let start_held : Contains ring (ring_start ring) = first_held gone.front gone.at ring ring_is in
      let (last, last_at, reaches) = goes-over wide sides ring (ring_start ring) (pieces (gone.front ++ gone.at ∷ [])) (2 * length gone.front) gone.at (ring_start ring) at-held start_held gone.chain after gone.so_far over in
      let edges : pieces (gone.front ++ gone.at ∷ []) ++ edge_between gone.at (ring_start ring) ∷ [] ≡ ring_edges ring =
      ap (λ (points : List Point). pieces points ++ edge_between gone.at (ring_start ring) ∷ []) (sym ring_is) ∙ sym (open-edges gone.front ring gone.at (record { x = pos 0; y = pos 0 }) ring_is) in
      let count : 2 * length gone.front + 2 ≡ 2 * length ring = omega (arith, long) in (
        last,
        after,
        after_is,
        last_at,
        subst (λ (n : ℕ). Reaches wide ring (ring_start ring) (ring_edges ring) n last after) count
            (subst (λ (done : List Edge). Reaches wide ring (ring_start ring) done (2 * length gone.front + 2) last after) edges reaches),
      )
    where
      first_same : (front : List Point) (at : Point) (points : List Point) (d : Point) → points ≡ front ++ at ∷ [] → get_or points 0 d ≡ ring_start points
      first_same [] at points d is = ap (λ (list : List Point). get_or list 0 d) is ∙ ap ring_start (sym is)
      first_same (first ∷ front) at points d is = ap (λ (list : List Point). get_or list 0 d) is ∙ ap ring_start (sym is)

      first_held : (front : List Point) (at : Point) (points : List Point) → points ≡ front ++ at ∷ [] → Contains points (ring_start points)
      first_held [] at points is = subst (λ (list : List Point). Contains list (ring_start list)) (sym is) (0, omega arith, refl)
      first_held (first ∷ front) at points is = subst (λ (list : List Point). Contains list (ring_start list)) (sym is) (0, omega arith, refl)
