-- Closed edges that wind alike around every point bound the same area, whichever edges they are.
use Rattle.std.proofs.Common.{◌≡◌, ◌≢◌, ℕ, zero, suc, ◌+◌, ◌<◌, ℤ, pos, ◌+ℤ◌, ◌-ℤ◌, ◌*ℤ◌, ◌≤ℤ◌, ◌<ℤ◌, Bool, true, false, not, ◌&&◌, cond, List, [], ◌∷◌, ◌++◌, map, refl, ap, ap₂, arith, sym, ◌∙◌}
use Rattle.std.specs.List.{All, Contains, filter}
use Rattle.std.specs.Ordering.{int_eq}
use Rattle.std.specs.Prelude.{int_le}
use Rattle.std.proofs.lemmas.Bool.{and_parts}
use Rattle.std.proofs.lemmas.Bool.Decides.{Decides-int_eq}
use Rattle.std.proofs.lemmas.Int.{ints}
use Rattle.std.proofs.lemmas.List.Elements.{All-contains}
use Rattle.i_tree.proofs.RootLemmas.Members.{Contains-from_filter}
use Rattle.plane.specs.declared.edge.Edge.{Edge}
use Rattle.plane.specs.Ends.{reversed}
use Rattle.plane.specs.Meet.Edges.{RationalPoint}
use Rattle.plane.specs.SweepLine.Heights.{rightwards, run}
use Rattle.plane.proofs.MeetLemmas.Identities.{identity, minus, number, plus, scaled, times}
use Rattle.plane.proofs.SweepLineLemmas.Gaps.{product_above, quotient_above}
use Rattle.noding.specs.Windings.{winding}
use Rattle.noding.proofs.SnapLemmas.Counted.{added, height_at, is_counted, under}
use Rattle.noding.proofs.SnapLemmas.Numbers.{n_of, zero_by}
use Rattle.noding.proofs.SnapLemmas.Rounding.{Floor}
use Rattle.noding.proofs.SnapLemmas.Windings.{winding-added, winding-append}
use Rattle.overlay.specs.Areas.{swept}
use Rattle.overlay.specs.Fill.Counts.{is_over}
use Rattle.overlay.specs.Fill.Pieces.{total, weight}
use Rattle.overlay.proofs.AreaLemmas.Multiple.{product-some}
use Rattle.overlay.proofs.AreaLemmas.Ranges.{along, along-difference, along-none, along-over, along-same, along-total, in-reach, reach}
use Rattle.overlay.proofs.AreaLemmas.Slices.{from_lowest, lowest, many, multiple, share, shares, upto_last, wide, width}
use Rattle.overlay.proofs.AreaLemmas.Stretch.{times_none, total-times}
use Rattle.overlay.proofs.AreaLemmas.Trapezoids.{slice, slices, total-swept, trapezoid, trapezoid-weighed}
use Rattle.overlay.proofs.FillLemmas.Balance.{AreBalanced}
use Rattle.overlay.proofs.FillLemmas.Order.{middle}
use Rattle.overlay.proofs.FillLemmas.Premises.{All-among}
use Rattle.overlay.proofs.FillLemmas.Tests.{int_eq-true, over_is}
use Rattle.overlay.proofs.FillLemmas.Totals.{total-append, total-filter, total-moved, total-none, total-same, total-sum}
use Rattle.overlay.proofs.FillLemmas.Under.{is_counted-from, le_is, le_true, under_is, under_over}
use Rattle.overlay.proofs.FillLemmas.Weights.{weight-none}
use Rattle.overlay.proofs.FillLemmas.Wound.{winding-total}
use Rattle.overlay.proofs.PieceLemmas.Made.{rightwards-onwards}

-- ---- heights with weights, of which those up to any height weigh nothing together

-- how far a number is above a height, by a weight, grows by the weight from one number to the next, where it is above at all
one_step : (h y w : ℤ) → (cond (int_le h (y +ℤ pos 1)) (w *ℤ ((y +ℤ pos 1) -ℤ h)) (pos 0) -ℤ cond (int_le h y) (w *ℤ (y -ℤ h)) (pos 0)) ≡ cond (int_le h y) w (pos 0)
one_step h y w = by (int_le h y) (int_le h (y +ℤ pos 1)) refl refl
  where
    by : (s t : Bool) → int_le h y ≡ s → int_le h (y +ℤ pos 1) ≡ t → (cond t (w *ℤ ((y +ℤ pos 1) -ℤ h)) (pos 0) -ℤ cond s (w *ℤ (y -ℤ h)) (pos 0)) ≡ cond s w (pos 0)
    by true true e f =
        identity (minus (times (number w) (minus (plus (number y) (n_of 1)) (number h))) (times (number w) (minus (number y) (number h)))) (number w) (omega arith)
    by true false e f = absurd (omega (arith, ints, e, f))
    by false true e f =
        let none : ((y +ℤ pos 1) -ℤ h) ≡ pos 0 = omega (arith, ints, e, f) in
        ap (λ z. (w *ℤ z) -ℤ pos 0) none ∙ identity (minus (times (number w) (n_of 0)) (n_of 0)) (n_of 0) (omega arith)
    by false false e f = refl

-- up to the height it isn't
none_yet : (h y w : ℤ) → y ≤ℤ h → cond (int_le h y) (w *ℤ (y -ℤ h)) (pos 0) ≡ pos 0
none_yet h y w upto = by (int_le h y) refl
  where
    by : (t : Bool) → int_le h y ≡ t → cond t (w *ℤ (y -ℤ h)) (pos 0) ≡ pos 0
    by true e = let none : (y -ℤ h) ≡ pos 0 = omega (arith, ints, e, upto) in ap (λ z. w *ℤ z) none ∙ times_none w
    by false e = refl

module _ {X : Type 0} (height weigh : X → ℤ) (xs : List X) (level : (y : ℤ) → total (λ x. cond (int_le (height x) y) (weigh x) (pos 0)) xs ≡ pos 0) where
  -- how far a number is above an element's height, by its weight
  abbrev above : ℤ → X → ℤ
  above y x = cond (int_le (height x) y) (weigh x *ℤ (y -ℤ height x)) (pos 0)

  -- summed over all that is the same from one number to the next, and to any further one
  next : (y : ℤ) → total (above (y +ℤ pos 1)) xs ≡ total (above y) xs
  next y =
      total-moved (above (y +ℤ pos 1)) (above y) (λ x. cond (int_le (height x) y) (weigh x) (pos 0)) xs (level y)
      (All-among (λ x. (above (y +ℤ pos 1) x -ℤ above y x) ≡ cond (int_le (height x) y) (weigh x) (pos 0)) xs (λ x among. one_step (height x) y (weigh x)))

  further : (y : ℤ) (n : ℕ) → total (above (y +ℤ pos n)) xs ≡ total (above y) xs
  further y zero = let same : (y +ℤ pos 0) ≡ y = omega (arith, ints) in ap (λ z. total (above z) xs) same
  further y (suc n) =
      let same : (y +ℤ pos (suc n)) ≡ ((y +ℤ pos n) +ℤ pos 1) = omega (arith, ints) in
      ap (λ z. total (above z) xs) same ∙ next (y +ℤ pos n) ∙ further y n

  -- no height is further from 0
  abbrev most : ℕ
  most = reach height xs

  -- the lowest number isn't above any height
  first : total (above (pos 0 -ℤ pos most)) xs ≡ pos 0
  first =
      total-none (above (pos 0 -ℤ pos most)) xs
      (All-among (λ x. above (pos 0 -ℤ pos most) x ≡ pos 0) xs (λ x among. let near = in-reach height xs x among in none_yet (height x) (pos 0 -ℤ pos most) (weigh x) near.from))

  -- so up to the highest one the sum is nothing
  last : total (above (pos most)) xs ≡ pos 0
  last =
      let same : pos most ≡ ((pos 0 -ℤ pos most) +ℤ pos (most + most)) = omega (arith, ints) in
      ap (λ z. total (above z) xs) same ∙ further (pos 0 -ℤ pos most) (most + most) ∙ first

  -- that is as high as all, or higher
  below : (x : X) → Contains xs x → int_le (height x) (pos most) ≡ true
  below x among = let near = in-reach height xs x among in le_true (height x) (pos most) near.upto

  all_above : total (λ x. weigh x *ℤ (pos most -ℤ height x)) xs ≡ pos 0
  all_above =
      sym (total-same (above (pos most)) (λ x. weigh x *ℤ (pos most -ℤ height x)) xs
      (All-among (λ x. above (pos most) x ≡ (weigh x *ℤ (pos most -ℤ height x))) xs (λ x among. ap (λ t. cond t (weigh x *ℤ (pos most -ℤ height x)) (pos 0)) (below x among))))
      ∙ last

  -- and all of them weigh nothing
  all_weigh : total weigh xs ≡ pos 0
  all_weigh =
      sym (total-same (λ x. cond (int_le (height x) (pos most)) (weigh x) (pos 0)) weigh xs
      (All-among (λ x. cond (int_le (height x) (pos most)) (weigh x) (pos 0) ≡ weigh x) xs (λ x among. ap (λ t. cond t (weigh x) (pos 0)) (below x among))))
      ∙ level (pos most)

  -- a multiple of a weight, less that by a height
  apart_by : (m w h : ℤ) → ((m *ℤ w) -ℤ (w *ℤ h)) ≡ (w *ℤ (m -ℤ h))
  apart_by m w h = identity (minus (times (number m) (number w)) (times (number w) (number h))) (times (number w) (minus (number m) (number h))) (omega arith)

  -- So the heights, each by its weight, add up to nothing.
  pub heights-cancel : total (λ x. weigh x *ℤ height x) xs ≡ pos 0
  heights-cancel =
      sym (total-moved (λ x. pos most *ℤ weigh x) (λ x. weigh x *ℤ height x) (λ x. weigh x *ℤ (pos most -ℤ height x)) xs all_above
      (All-among (λ x. ((pos most *ℤ weigh x) -ℤ (weigh x *ℤ height x)) ≡ (weigh x *ℤ (pos most -ℤ height x))) xs (λ x among. apart_by (pos most) (weigh x) (height x))))
      ∙ total-times (pos most) weigh xs
      ∙ ap (λ z. pos most *ℤ z) all_weigh
      ∙ times_none (pos most)

-- ---- which edges are under a point half way along a stretch

-- tests that imply each other
same_tests : (s t : Bool) → (s ≡ true → t ≡ true) → (t ≡ true → s ≡ true) → s ≡ t
same_tests true true there back = refl
same_tests true false there back = let h = there refl in cc
same_tests false true there back = let h = back refl in cc
same_tests false false there back = refl

module _ (d : ℕ) (some : 0 < d) (x y : ℤ) where
  pub twice_some : 0 < d + d
  twice_some = omega (arith, some)

  -- The point at x and a half, and at y, all over twice the d.
  abbrev pub half_way : RationalPoint
  half_way = record { n = d + d; x = pos d *ℤ ((x +ℤ x) +ℤ pos 1); y = y; positive = twice_some }

  -- it is over the stretch from x on
  floor : Floor half_way.n half_way.x x
  floor =
      let from = identity (times (n_of d) (plus (plus (number x) (number x)) (n_of 1))) (plus (times (n_of (d + d)) (number x)) (n_of d)) (omega arith) in
      let upto = identity (times (n_of (d + d)) (plus (number x) (n_of 1))) (plus (times (n_of d) (plus (plus (number x) (number x)) (n_of 1))) (n_of d)) (omega arith) in record {
        from = omega (arith, ints, from);
        below = omega (arith, ints, upto, some);
      }

  module _ (r : Edge) (onwards : r.x0 <ℤ r.x1) (k : ℤ) (shares : (k *ℤ run r) ≡ pos d) where
    -- there the edge is as high as in the middle of the stretch
    height_is : height_at r half_way ≡ (pos d *ℤ middle x r)
    height_is =
        let twice = n_of (d + d) in
        let here = number x in
        let next = plus here (n_of 1) in
        let at = times (n_of d) (plus (plus here here) (n_of 1)) in
        identity (plus (times (number r.y0) (minus (times twice (number r.x1)) at)) (times (number r.y1) (minus at (times twice (number r.x0)))))
        (times (n_of d)
        (plus (plus (times (number r.y0) (minus (number r.x1) here)) (times (number r.y1) (minus here (number r.x0))))
        (plus (times (number r.y0) (minus (number r.x1) next)) (times (number r.y1) (minus next (number r.x0))))))
        (omega arith)

    -- how far the point is above it, as a multiple of the edge's run
    apart : (run r *ℤ (y -ℤ (k *ℤ middle x r))) ≡ ((y *ℤ run r) -ℤ height_at r half_way)
    apart =
        identity (times (number (run r)) (minus (number y) (times (number k) (number (middle x r)))))
        (minus (times (number y) (number (run r))) (times (times (number k) (number (run r))) (number (middle x r))))
        (omega arith)
        ∙ ap (λ z. (y *ℤ run r) -ℤ (z *ℤ middle x r)) shares
        ∙ ap (λ z. (y *ℤ run r) -ℤ z) (sym height_is)

    -- if the edge is under the point it is over the stretch, and no higher than the point
    there : is_counted r half_way ≡ true → (is_over x r && int_le (k *ℤ middle x r) y) ≡ true
    there e =
        let under = under_is r half_way e in
        let upto = under.upto in
        let is = apart in
        let above = quotient_above (run r) (y -ℤ (k *ℤ middle x r)) (omega (arith, ints, onwards)) (omega (arith, ints, upto, is)) in
        ap₂ (λ s t. s && t) (under_over half_way x floor r e) (le_true (k *ℤ middle x r) y (omega (arith, ints, above)))

    -- and the other way round
    back : (is_over x r && int_le (k *ℤ middle x r) y) ≡ true → is_counted r half_way ≡ true
    back e =
        let both = and_parts (is_over x r) (int_le (k *ℤ middle x r) y) e in
        let span = over_is x r both.0 in
        let low = le_is (k *ℤ middle x r) y both.1 in
        let is = apart in
        let above = product_above (run r) (y -ℤ (k *ℤ middle x r)) (omega (arith, ints, onwards)) (omega (arith, ints, low)) in
        let from = scaled (d + d) r.x0 x span.0 in
        let before = scaled (d + d) (x +ℤ pos 1) r.x1 (let less = span.1 in omega (arith, ints, less)) in
        let here = floor.from in
        let next = floor.below in
        is_counted-from r half_way (record {
          from = omega (arith, ints, from, here);
          before = omega (arith, ints, before, next);
          upto = omega (arith, ints, above, is);
        })

    pub counted-half : is_counted r half_way ≡ (is_over x r && int_le (k *ℤ middle x r) y)
    counted-half = same_tests (is_counted r half_way) (is_over x r && int_le (k *ℤ middle x r) y) there back

-- ---- edges that wind around no point, none of them vertical

-- what two tests leave, the one after the other
tested_twice : (s t : Bool) (w : ℤ) → cond (s && t) w (pos 0) ≡ cond t (cond s w (pos 0)) (pos 0)
tested_twice true true w = refl
tested_twice true false w = refl
tested_twice false true w = refl
tested_twice false false w = refl

-- a slice less its 1, where there is one
less_one : (t : Bool) (w z : ℤ) → ((cond t w (pos 0) *ℤ z) +ℤ (cond t w (pos 0) *ℤ z)) ≡ (cond t (((w *ℤ z) +ℤ (w *ℤ z)) +ℤ pos 1) (pos 0) -ℤ cond t (pos 1) (pos 0))
less_one true w z = plain (w *ℤ z)
  where
    plain : (a : ℤ) → (a +ℤ a) ≡ (((a +ℤ a) +ℤ pos 1) -ℤ pos 1)
    plain a = omega (arith, ints)
less_one false w z = identity (plus (times (n_of 0) (number z)) (times (n_of 0) (number z))) (n_of 0) (omega arith)

-- sums without what was added, and their halves
without : (a n : ℤ) → (((a +ℤ a) +ℤ n) -ℤ n) ≡ (a +ℤ a)
without a n = omega (arith, ints)

half_none : (a : ℤ) → (a +ℤ a) ≡ pos 0 → a ≡ pos 0
half_none a none = omega (arith, ints, none)

twice_none : (a : ℤ) → a ≡ pos 0 → (a +ℤ a) ≡ pos 0
twice_none a none = omega (arith, ints, none)

module _ (edges : List Edge) (sloped : All (λ edge. edge.x0 ≢ edge.x1) edges) (nowhere : (point : RationalPoint) → winding edges point ≡ pos 0) where
  -- a common multiple of how far they go, by which their heights are whole
  abbrev d : ℕ
  d = multiple edges sloped

  some : 0 < d
  some = product-some (width edges sloped) edges (wide edges sloped)

  slanted : (edge : Edge) → Contains edges edge → edge.x0 ≢ edge.x1
  slanted edge among = All-contains (λ (e : Edge). e.x0 ≢ e.x1) edges edge sloped among

  onwards : (edge : Edge) → Contains edges edge → (rightwards edge).x0 <ℤ (rightwards edge).x1
  onwards edge among = rightwards-onwards edge (slanted edge among)

  -- what an edge weighs over the stretch from x on, and how high it is in the middle
  abbrev weighed : ℤ → Edge → ℤ
  weighed x edge = cond (is_over x (rightwards edge)) (weight edge) (pos 0)

  abbrev height : ℤ → Edge → ℤ
  height x edge = share edges sloped edge *ℤ middle x (rightwards edge)

  -- up to each height they weigh nothing, as they don't wind around the point there
  level : (x y : ℤ) → total (λ edge. cond (int_le (height x edge) y) (weighed x edge) (pos 0)) edges ≡ pos 0
  level x y =
      let point = half_way d some x y in
      sym (total-same (λ edge. cond (is_counted (rightwards edge) point) (weight edge) (pos 0)) (λ edge. cond (int_le (height x edge) y) (weighed x edge) (pos 0)) edges
      (All-among (λ edge. cond (is_counted (rightwards edge) point) (weight edge) (pos 0) ≡ cond (int_le (height x edge) y) (weighed x edge) (pos 0)) edges
      (λ edge among.
      ap (λ t. cond t (weight edge) (pos 0)) (counted-half d some x y (rightwards edge) (onwards edge among) (share edges sloped edge) (shares edges sloped edge among))
      ∙ tested_twice (is_over x (rightwards edge)) (int_le (height x edge) y) (weight edge))))
      ∙ sym (winding-total edges point)
      ∙ nowhere point

  -- so their heights over the stretch add up to nothing
  abbrev part : ℤ → Edge → ℤ
  part x edge = (weighed x edge *ℤ height x edge) +ℤ (weighed x edge *ℤ height x edge)

  stretch : (x : ℤ) → total (part x) edges ≡ pos 0
  stretch x =
      total-sum (λ edge. weighed x edge *ℤ height x edge) (λ edge. weighed x edge *ℤ height x edge) edges
      ∙ twice_none (total (λ edge. weighed x edge *ℤ height x edge) edges) (heights-cancel (height x) (weighed x) edges (level x))

  -- over all stretches those of an edge add up to twice a multiple of its trapezoid
  abbrev whole : Edge → ℤ
  whole edge = pos d *ℤ trapezoid edge

  edge_parts : (edge : Edge) → Contains edges edge → along (lowest edges sloped) (many edges sloped) (λ x. part x edge) ≡ (whole edge +ℤ whole edge)
  edge_parts edge among =
      let r = rightwards edge in
      let start = lowest edges sloped in
      let n = many edges sloped in
      let from = from_lowest edges sloped edge among in
      let upto = upto_last edges sloped edge among in
      let k = share edges sloped edge in
      along-same start n (λ x. part x edge) (λ x. cond (is_over x r) (slice (weight edge) k r x) (pos 0) -ℤ cond (is_over x r) (pos 1) (pos 0)) (λ x. less_one (is_over x r) (weight edge) (height x edge))
      ∙ along-difference start n (λ x. cond (is_over x r) (slice (weight edge) k r x) (pos 0)) (λ x. cond (is_over x r) (pos 1) (pos 0))
      ∙ ap₂ (λ a b. a -ℤ b) (slices r (onwards edge among) (weight edge) k (pos d) (shares edges sloped edge among) start n from upto) (along-over r (onwards edge among) (λ x. x) (λ x. pos 1) one start n from upto)
      ∙ without (pos d *ℤ (weight edge *ℤ trapezoid r)) (run r)
      ∙ ap (λ z. (pos d *ℤ z) +ℤ (pos d *ℤ z)) (trapezoid-weighed edge (slanted edge among))
    where
      one : (z : ℤ) → ((z +ℤ pos 1) -ℤ z) ≡ pos 1
      one z = omega (arith, ints)

  -- So their trapezoids add up to nothing.
  pub sloped-cancel : total trapezoid edges ≡ pos 0
  sloped-cancel =
      let start = lowest edges sloped in
      let n = many edges sloped in
      let twice : (total whole edges +ℤ total whole edges) ≡ pos 0 =
      sym (total-sum whole whole edges)
      ∙ sym (total-same (λ edge. along start n (λ x. part x edge)) (λ edge. whole edge +ℤ whole edge) edges (All-among (λ edge. along start n (λ x. part x edge) ≡ (whole edge +ℤ whole edge)) edges edge_parts))
      ∙ sym (along-total start n (λ edge x. part x edge) edges)
      ∙ along-same start n (λ x. total (part x) edges) (λ x. pos 0) stretch
      ∙ along-none start n in
      zero_by d (total trapezoid edges) (pos 0) (pos 0) some
      (sym (total-times (pos d) trapezoid edges) ∙ half_none (total whole edges) twice ∙ sym (times_none (pos 0))) refl

-- ---- vertical edges, which count nothing

abbrev is_sloped : Edge → Bool
is_sloped edge = not (int_eq edge.x0 edge.x1)

not_false : (t : Bool) → not t ≡ false → t ≡ true
not_false true e = refl
not_false false e = cc

not_both : (t : Bool) → not t ≡ true → t ≡ true → ⊥
not_both true e f = cc
not_both false e f = cc

-- what is 0 where the test fails is what the test leaves
left_by : (t : Bool) (z : ℤ) → (t ≡ false → z ≡ pos 0) → z ≡ cond t z (pos 0)
left_by true z none = refl
left_by false z none = none refl

module _ (edges : List Edge) where
  -- the edges that aren't vertical
  abbrev kept : List Edge
  kept = filter is_sloped edges

  kept_sloped : All (λ edge. edge.x0 ≢ edge.x1) kept
  kept_sloped =
      All-among (λ (edge : Edge). edge.x0 ≢ edge.x1) kept
      (λ edge among same. not_both (int_eq edge.x0 edge.x1) (let (_, is) = Contains-from_filter is_sloped edges edge among in is) (int_eq-true edge.x0 edge.x1 same))

  -- where vertical edges count nothing, the sum over all is one over these
  without_vertical : (f : Edge → ℤ) → ((edge : Edge) → edge.x0 ≡ edge.x1 → f edge ≡ pos 0) → total f edges ≡ total f kept
  without_vertical f none =
      total-same f (λ edge. cond (is_sloped edge) (f edge) (pos 0)) edges
      (All-among (λ edge. f edge ≡ cond (is_sloped edge) (f edge) (pos 0)) edges
      (λ edge among. left_by (is_sloped edge) (f edge) (λ e. none edge ((Decides-int_eq edge.x0 edge.x1).0 (not_false (int_eq edge.x0 edge.x1) e)))))
      ∙ total-filter is_sloped f edges

  -- so all wind around a point as these do
  winding_kept : (point : RationalPoint) → winding edges point ≡ winding kept point
  winding_kept point =
      winding-total edges point
      ∙ without_vertical (λ edge. cond (is_counted (rightwards edge) point) (weight edge) (pos 0))
      (λ edge level. ap (λ w. cond (is_counted (rightwards edge) point) w (pos 0)) (weight-none edge level) ∙ either (is_counted (rightwards edge) point))
      ∙ sym (winding-total kept point)
    where
      either : (t : Bool) → cond t (pos 0) (pos 0) ≡ pos 0
      either true = refl
      either false = refl

  -- Edges that wind around no point have trapezoids that add up to nothing.
  pub trapezoids-cancel : ((point : RationalPoint) → winding edges point ≡ pos 0) → total trapezoid edges ≡ pos 0
  trapezoids-cancel nowhere =
      without_vertical trapezoid flat
      ∙ sloped-cancel kept kept_sloped (λ point. sym (winding_kept point) ∙ nowhere point)
    where
      flat : (edge : Edge) → edge.x0 ≡ edge.x1 → trapezoid edge ≡ pos 0
      flat edge level =
          let none : (edge.x1 -ℤ edge.x0) ≡ pos 0 = omega (arith, ints, level) in
          ap (λ z. z *ℤ (edge.y0 +ℤ edge.y1)) none ∙ identity (times (n_of 0) (number (edge.y0 +ℤ edge.y1))) (n_of 0) (omega arith)

-- ---- edges from their ends to their starts

-- a sum with its sign turned
one_less : (a b c d : ℤ) → a ≡ (pos 0 -ℤ c) → b ≡ (pos 0 -ℤ d) → (a +ℤ b) ≡ (pos 0 -ℤ (c +ℤ d))
one_less a b c d first second = omega (arith, ints, first, second)

-- they wind as often, the other way round
added_reversed : (edges : List Edge) (point : RationalPoint) → added (map reversed edges) point ≡ (pos 0 -ℤ added edges point)
added_reversed [] point = omega (arith, ints)
added_reversed (edge ∷ edges) point =
    let one : under (reversed edge) point ≡ (pos 0 -ℤ under edge point) = omega (arith, ints) in
    one_less (under (reversed edge) point) (added (map reversed edges) point) (under edge point) (added edges point) one (added_reversed edges point)

winding_reversed : (edges : List Edge) (point : RationalPoint) → winding (map reversed edges) point ≡ (pos 0 -ℤ winding edges point)
winding_reversed edges point =
    winding-added (map reversed edges) point ∙ added_reversed edges point ∙ ap (λ z. pos 0 -ℤ z) (sym (winding-added edges point))

-- and their trapezoids are the same, with their signs turned
trapezoid_reversed : (x0 y0 x1 y1 : ℤ) → ((x0 -ℤ x1) *ℤ (y1 +ℤ y0)) ≡ (pos 0 -ℤ ((x1 -ℤ x0) *ℤ (y0 +ℤ y1)))
trapezoid_reversed x0 y0 x1 y1 =
    identity (times (minus (number x0) (number x1)) (plus (number y1) (number y0))) (minus (n_of 0) (times (minus (number x1) (number x0)) (plus (number y0) (number y1)))) (omega arith)

total_reversed : (edges : List Edge) → total trapezoid (map reversed edges) ≡ (pos 0 -ℤ total trapezoid edges)
total_reversed [] = omega (arith, ints)
total_reversed (edge ∷ edges) =
    one_less (trapezoid (reversed edge)) (total trapezoid (map reversed edges)) (trapezoid edge) (total trapezoid edges) (trapezoid_reversed edge.x0 edge.y0 edge.x1 edge.y1) (total_reversed edges)

-- ---- one area

-- sums and differences
same_by : (a b c : ℤ) → b ≡ (pos 0 -ℤ c) → (a +ℤ b) ≡ pos 0 → a ≡ c
same_by a b c less none = omega (arith, ints, less, none)

none_by : (a b c : ℤ) → b ≡ (pos 0 -ℤ c) → a ≡ c → (a +ℤ b) ≡ pos 0
none_by a b c less same = omega (arith, ints, less, same)

-- Edges that wind alike around every point have trapezoids that add up to the same,
pub same-trapezoids : (edges others : List Edge) → ((point : RationalPoint) → winding edges point ≡ winding others point) → total trapezoid edges ≡ total trapezoid others
same-trapezoids edges others alike =
    same_by (total trapezoid edges) (total trapezoid (map reversed others)) (total trapezoid others) (total_reversed others)
    (sym (total-append trapezoid edges (map reversed others))
    ∙ trapezoids-cancel (edges ++ map reversed others)
    (λ point.
    winding-append edges (map reversed others) point
    ∙ none_by (winding edges point) (winding (map reversed others) point) (winding others point) (winding_reversed others point) (alike point)))

-- and closed ones bound the same area.
pub same-area : (edges others : List Edge) → AreBalanced edges → AreBalanced others → ((point : RationalPoint) → winding edges point ≡ winding others point) → total swept edges ≡ total swept others
same-area edges others closed closed_too alike =
    total-swept edges closed ∙ ap (λ z. pos 0 -ℤ z) (same-trapezoids edges others alike) ∙ sym (total-swept others closed_too)
