-- Closed edges with nothing on their right and one on their left bound an area above 0, and with one on their right and nothing
-- on their left one below 0.
use Rattle.std.proofs.Common.{◌≡◌, ◌≢◌, inl, inr, ℕ, ◌+◌, ◌/◌, ◌*◌, ◌<◌, ℤ, pos, negsuc, ◌+ℤ◌, ◌-ℤ◌, ◌*ℤ◌, ◌≤ℤ◌, ◌<ℤ◌, cond, List, [], ◌∷◌, ap, arith, sym, subst, ◌∙◌}
use Rattle.std.specs.List.{All, Contains}
use Rattle.std.proofs.lemmas.Int.{ints, by_lt_z}
use Rattle.std.proofs.lemmas.List.Elements.{All-contains, All-head, All-tail}
use borrow.Author.Differences.{up}
use Rattle.plane.specs.declared.edge.Edge.{Edge}
use Rattle.plane.specs.SweepLine.Heights.{rightwards, run}
use Rattle.plane.proofs.MeetLemmas.Identities.{number, times, identity}
use Rattle.plane.proofs.SweepLineLemmas.Gaps.{product_above}
use Rattle.overlay.specs.Areas.{swept}
use Rattle.overlay.specs.Fill.Counts.{is_over}
use Rattle.overlay.specs.Fill.Filled.{AreDistinct, AreNoded}
use Rattle.overlay.specs.Fill.Pieces.{total, weight}
use Rattle.noding.specs.Windings.{IsClosed}
use Rattle.overlay.specs.Sides.{just_below, on_left}
use Rattle.overlay.proofs.AreaLemmas.Multiple.{product, product-some, product-shared}
use Rattle.overlay.proofs.AreaLemmas.Ranges.{along, along-total, along-below, reach, in-reach}
use Rattle.overlay.proofs.AreaLemmas.Stretch.{Alternates, stretch-below, total-times}
use Rattle.overlay.proofs.AreaLemmas.Trapezoids.{trapezoid, trapezoid-weighed, total-swept, slice, slices}
use Rattle.overlay.proofs.FillLemmas.Balance.{AreBalanced, balanced}
use Rattle.overlay.proofs.FillLemmas.Premises.{All-among}
use Rattle.overlay.proofs.FillLemmas.Tests.{lt_true, lt_false}
use Rattle.overlay.proofs.FillLemmas.Totals.{total-same, total-sum}
use Rattle.overlay.proofs.FillLemmas.Weights.{weight-right, weight-left}
use Rattle.overlay.proofs.PieceLemmas.Made.{rightwards-onwards}
use Rattle.noding.proofs.SnapLemmas.Numbers.{up_is}

-- a sum of numbers above 0 isn't below 0, and it is above 0 where there is one of them
more_above : (a b : ℤ) → pos 0 <ℤ a → pos 0 ≤ℤ b → pos 0 <ℤ (a +ℤ b)
more_above a b first second = omega (arith, ints, first, second)

total-not_below : {X : Type 0} (f : X → ℤ) (xs : List X) → All (λ x. pos 0 <ℤ f x) xs → pos 0 ≤ℤ total f xs
total-not_below f [] all = omega (arith, ints)
total-not_below f (x ∷ xs) all =
    let more = more_above (f x) (total f xs) (All-head (λ x. pos 0 <ℤ f x) x xs all) (total-not_below f xs (All-tail (λ x. pos 0 <ℤ f x) x xs all)) in
    omega (arith, ints, more)

total-above : {X : Type 0} (f : X → ℤ) (xs : List X) (x : X) → Contains xs x → All (λ x. pos 0 <ℤ f x) xs → pos 0 <ℤ total f xs
total-above f [] x (k, inside, is) all = absurd (omega (arith, inside))
total-above f (y ∷ ys) x among all = more_above (f y) (total f ys) (All-head (λ x. pos 0 <ℤ f x) y ys all) (total-not_below f ys (All-tail (λ x. pos 0 <ℤ f x) y ys all))

module _ (edges : List Edge) (sloped : All (λ edge. edge.x0 ≢ edge.x1) edges) where
  -- How far each edge goes, and a common multiple of all.
  abbrev pub width : Edge → ℕ
  width edge = up (run (rightwards edge))

  abbrev pub multiple : ℕ
  multiple = product width edges

  -- By what an edge's width is multiplied to it.
  abbrev pub share : Edge → ℤ
  share edge = pos (multiple / width edge)

  goes : (edge : Edge) → Contains edges edge → pos 0 <ℤ run (rightwards edge)
  goes edge among =
      let some = rightwards-onwards edge (All-contains (λ (e : Edge). e.x0 ≢ e.x1) edges edge sloped among) in
      omega (arith, ints, some)

  width_is : (edge : Edge) → Contains edges edge → pos (width edge) ≡ run (rightwards edge)
  width_is edge among = let some = goes edge among in up_is (run (rightwards edge)) (omega (arith, ints, some))

  pub wide : All (λ edge. 0 < width edge) edges
  wide = All-among (λ edge. 0 < width edge) edges (λ edge among. let some = goes edge among in let is = width_is edge among in omega (arith, ints, some, is))

  pub shares : (edge : Edge) → Contains edges edge → (share edge *ℤ run (rightwards edge)) ≡ pos multiple
  shares edge among =
      ap (λ z. share edge *ℤ z) (sym (width_is edge among))
      ∙ product_of (multiple / width edge) (width edge)
      ∙ ap pos (product-shared width edges edge wide among)
    where
      product_of : (m n : ℕ) → (pos m *ℤ pos n) ≡ pos (m * n)
      product_of m n = omega (arith, ints)

  -- all edges are between these
  abbrev most : ℕ
  most = reach (λ (edge : Edge). (rightwards edge).x0) edges + reach (λ (edge : Edge). (rightwards edge).x1) edges

  abbrev pub lowest : ℤ
  lowest = pos 0 -ℤ pos most

  abbrev pub many : ℕ
  many = most + most

  pub from_lowest : (edge : Edge) → Contains edges edge → lowest ≤ℤ (rightwards edge).x0
  from_lowest edge among = let near = in-reach (λ (e : Edge). (rightwards e).x0) edges edge among in let h = near.from in omega (arith, ints, h)

  pub upto_last : (edge : Edge) → Contains edges edge → (rightwards edge).x1 ≤ℤ (lowest +ℤ pos many)
  upto_last edge among = let near = in-reach (λ (e : Edge). (rightwards e).x1) edges edge among in let h = near.upto in omega (arith, ints, h)

  module _ (closed : AreBalanced edges) (noded : AreNoded edges) (distinct : AreDistinct edges) (s : ℤ) (turns : All (Alternates s edges) edges) (first : Edge) (one_of : Contains edges first) where
    -- what an edge counts on the stretch from x on
    abbrev part : ℤ → Edge → ℤ
    part x edge = cond (is_over x (rightwards edge)) (slice (s *ℤ weight edge) (share edge) (rightwards edge) x) (pos 0)

    -- and on all of them
    abbrev whole : Edge → ℤ
    whole edge = pos multiple *ℤ (s *ℤ trapezoid edge)

    edge_slices : (edge : Edge) → Contains edges edge → along lowest many (λ x. part x edge) ≡ ((whole edge +ℤ whole edge) +ℤ run (rightwards edge))
    edge_slices edge among =
        let r = rightwards edge in
        let slanted = All-contains (λ (e : Edge). e.x0 ≢ e.x1) edges edge sloped among in
        let same : (pos multiple *ℤ ((s *ℤ weight edge) *ℤ trapezoid r)) ≡ whole edge = ap (λ z. pos multiple *ℤ z) (grouped s (weight edge) (trapezoid r) ∙ ap (λ z. s *ℤ z) (trapezoid-weighed edge slanted)) in
        slices r (rightwards-onwards edge slanted) (s *ℤ weight edge) (share edge) (pos multiple) (shares edge among) lowest many (from_lowest edge among) (upto_last edge among)
        ∙ ap (λ z. (z +ℤ z) +ℤ run r) same
      where
        grouped : (a b c : ℤ) → ((a *ℤ b) *ℤ c) ≡ (a *ℤ (b *ℤ c))
        grouped a b c = identity (times (times (number a) (number b)) (number c)) (times (number a) (times (number b) (number c))) (omega arith)

    -- all edges on all stretches
    all_slices : along lowest many (λ x. total (part x) edges) ≡ ((total whole edges +ℤ total whole edges) +ℤ total (λ edge. run (rightwards edge)) edges)
    all_slices =
        along-total lowest many (λ edge x. part x edge) edges
        ∙ total-same (λ edge. along lowest many (λ x. part x edge)) (λ edge. (whole edge +ℤ whole edge) +ℤ run (rightwards edge)) edges
        (All-among (λ edge. along lowest many (λ x. part x edge) ≡ ((whole edge +ℤ whole edge) +ℤ run (rightwards edge))) edges edge_slices)
        ∙ total-sum (λ edge. whole edge +ℤ whole edge) (λ edge. run (rightwards edge)) edges
        ∙ ap (λ z. z +ℤ total (λ edge. run (rightwards edge)) edges) (total-sum whole whole edges)

    -- So their trapezoids, counted s times, are below 0.
    trapezoids-below : (s *ℤ total trapezoid edges) <ℤ pos 0
    trapezoids-below =
        let none = along-below lowest many (λ x. total (part x) edges) (λ x. stretch-below edges closed noded distinct sloped s turns share multiple (product-some width edges wide) shares x) in
        let some = total-above (λ (edge : Edge). run (rightwards edge)) edges first one_of (All-among (λ (edge : Edge). pos 0 <ℤ run (rightwards edge)) edges goes) in
        let all = all_slices in
        let is : total whole edges ≡ (pos multiple *ℤ (s *ℤ total trapezoid edges)) = total-times (pos multiple) (λ edge. s *ℤ trapezoid edge) edges ∙ ap (λ z. pos multiple *ℤ z) (total-times s trapezoid edges) in
        below_by multiple (s *ℤ total trapezoid edges)
        (subst (λ (z : ℤ). z <ℤ pos 0) is
        (half (along lowest many (λ x. total (part x) edges)) (total whole edges) (total (λ edge. run (rightwards edge)) edges) all none some))
      where
        half : (a b c : ℤ) → a ≡ ((b +ℤ b) +ℤ c) → a ≤ℤ pos 0 → pos 0 <ℤ c → b <ℤ pos 0
        half a b c all none some = omega (arith, ints, all, none, some)

        below_by : (d : ℕ) (z : ℤ) → (pos d *ℤ z) <ℤ pos 0 → z <ℤ pos 0
        below_by d z less =
            by_lt_z z (pos 0) (λ is. is)
            (λ above. let product = product_above (pos d) z (omega (arith, ints)) above in absurd (omega (arith, ints, product, less)))

-- ---- one on the left, or nothing

-- what an edge is with one on its left, and with nothing
less_one : (a b : ℤ) → (a +ℤ pos 1) ≡ b → a ≡ (b -ℤ pos 1)
less_one a b is = omega (arith, ints, is)

module _ (edges : List Edge) where
  -- an edge's left is above it where it goes rightwards, and below it where it goes leftwards
  left-right : (edge : Edge) (c : ℤ) → edge.x0 <ℤ edge.x1 → on_left edges edge ≡ c → just_below edges edge ≡ (c -ℤ pos 1)
  left-right edge c onwards is =
      less_one (just_below edges edge) c (subst (λ t. cond t (just_below edges edge +ℤ pos 1) (just_below edges edge) ≡ c) (lt_true edge.x0 edge.x1 onwards) is)

  left-left : (edge : Edge) (c : ℤ) → edge.x1 <ℤ edge.x0 → on_left edges edge ≡ c → just_below edges edge ≡ c
  left-left edge c back is =
      subst (λ t. cond t (just_below edges edge +ℤ pos 1) (just_below edges edge) ≡ c) (lt_false edge.x0 edge.x1 (omega (arith, ints, back))) is

  one_alternates : (edge : Edge) → edge.x0 ≢ edge.x1 → on_left edges edge ≡ pos 1 → Alternates (pos 1) edges edge
  one_alternates edge sloped is =
      by_lt_z edge.x0 edge.x1
      (λ onwards. inl (ap (λ z. pos 1 *ℤ z) (left-right edge (pos 1) onwards is), ap (λ z. pos 1 *ℤ z) (weight-right edge onwards)))
      (λ upto. by_lt_z edge.x1 edge.x0
      (λ back. inr (ap (λ z. pos 1 *ℤ z) (left-left edge (pos 1) back is), ap (λ z. pos 1 *ℤ z) (weight-left edge back)))
      (λ from. absurd (sloped (omega (arith, ints, upto, from)))))

  none_alternates : (edge : Edge) → edge.x0 ≢ edge.x1 → on_left edges edge ≡ pos 0 → Alternates (negsuc 0) edges edge
  none_alternates edge sloped is =
      by_lt_z edge.x0 edge.x1
      (λ onwards. inr (ap (λ z. negsuc 0 *ℤ z) (left-right edge (pos 0) onwards is), ap (λ z. negsuc 0 *ℤ z) (weight-right edge onwards)))
      (λ upto. by_lt_z edge.x1 edge.x0
      (λ back. inl (ap (λ z. negsuc 0 *ℤ z) (left-left edge (pos 0) back is), ap (λ z. negsuc 0 *ℤ z) (weight-left edge back)))
      (λ from. absurd (sloped (omega (arith, ints, upto, from)))))

-- what once, or less once, is below 0
once_below : (t sum : ℤ) → sum ≡ (pos 0 -ℤ t) → (pos 1 *ℤ t) <ℤ pos 0 → pos 0 <ℤ sum
once_below t sum is less = omega (arith, ints, is, less)

less_below : (t sum : ℤ) → sum ≡ (pos 0 -ℤ t) → (negsuc 0 *ℤ t) <ℤ pos 0 → sum <ℤ pos 0
less_below t sum is less = omega (arith, ints, is, less)

-- Closed edges that meet only at common ends bound an area above 0 where there is one on the left of each.
pub area-above : (edges : List Edge) → IsClosed edges → AreNoded edges → AreDistinct edges → All (λ edge. edge.x0 ≢ edge.x1) edges → (first : Edge) → Contains edges first
    → All (λ edge. on_left edges edge ≡ pos 1) edges → pos 0 <ℤ total swept edges
area-above edges closed noded distinct sloped first among left =
    let turns : All (Alternates (pos 1) edges) edges = All-among (Alternates (pos 1) edges) edges
    (λ edge inside. one_alternates edges edge (All-contains (λ (e : Edge). e.x0 ≢ e.x1) edges edge sloped inside) (All-contains (λ e. on_left edges e ≡ pos 1) edges edge left inside)) in
    once_below (total trapezoid edges) (total swept edges) (total-swept edges (balanced edges closed))
    (trapezoids-below edges sloped (balanced edges closed) noded distinct (pos 1) turns first among)

-- And one below 0 where there is nothing on the left of each.
pub area-below : (edges : List Edge) → IsClosed edges → AreNoded edges → AreDistinct edges → All (λ edge. edge.x0 ≢ edge.x1) edges → (first : Edge) → Contains edges first
    → All (λ edge. on_left edges edge ≡ pos 0) edges → total swept edges <ℤ pos 0
area-below edges closed noded distinct sloped first among left =
    let turns : All (Alternates (negsuc 0) edges) edges = All-among (Alternates (negsuc 0) edges) edges
    (λ edge inside. none_alternates edges edge (All-contains (λ (e : Edge). e.x0 ≢ e.x1) edges edge sloped inside) (All-contains (λ e. on_left edges e ≡ pos 0) edges edge left inside)) in
    less_below (total trapezoid edges) (total swept edges) (total-swept edges (balanced edges closed))
    (trapezoids-below edges sloped (balanced edges closed) noded distinct (negsuc 0) turns first among)
