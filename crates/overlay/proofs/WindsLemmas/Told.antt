-- In a fan the edge is told that comes first clockwise from the way back: the way back lies between it and the one before it.
use Rattle.std.proofs.Common.{◌≡◌, ◌≢◌, ◌⊎◌, inl, inr, ℕ, zero, suc, ◌+◌, ◌-◌, ◌<◌, ◌≤◌, ℤ, pos, ◌+ℤ◌, ◌-ℤ◌, ◌*ℤ◌, ◌≤ℤ◌, ◌<ℤ◌, Bool, true, false, List, Option, Some, None, drop, get_or, length, map, take, refl, ap, ap₂, sym, subst, subst₂, ◌∙◌, arith}
use Rattle.std.specs.List.{All, Contains}
use Rattle.std.specs.Option.{MatchOption}
use Rattle.std.proofs.lemmas.Bool.{cases_eq, cases_lt}
use Rattle.std.proofs.lemmas.Int.{by_lt_z, ints}
use Rattle.std.proofs.lemmas.List.{get_or_default}
use Rattle.std.proofs.lemmas.List.Elements.{All-contains, Contains-get_or}
use Rattle.plane.specs.declared.edge.Edge.{Edge}
use Rattle.plane.specs.declared.point.Point.{Point}
use Rattle.plane.specs.Ends.{end_of, start_of}
use Rattle.plane.proofs.MeetLemmas.Identities.{identity, minus, number, plus, times}
use Rattle.plane.proofs.PairsLemmas.Bags.{Contains-map}
use Rattle.noding.proofs.SnapLemmas.Numbers.{n_of, product_positive}
use Rattle.overlay.specs.Contours.Fans.{AreAllFrom, AreClockwise, IsFan, IsTold, PassesFirst, end_at, places}
use Rattle.overlay.specs.Contours.Order.{AreInOrder, IsFirstFrom, edge_at, point_at}
use Rattle.overlay.specs.declared.contours.fans.Fan.{Fan}
use Rattle.overlay.specs.declared.contours.fans.Spoke.{Spoke}
use Rattle.overlay.specs.Contours.Turns.{ComesBefore, Direction, IsFirstAround, IsLeft, IsLeftmost, Leaves, NoneLeaves, TakesFirst, direction_between, dot}
use Rattle.overlay.specs.Fill.Filled.{AreDistinct, AreNoded}
use Rattle.overlay.specs.Sides.{AreBorders, IsLow, sheared, sheared_edge}
use Rattle.overlay.proofs.AreaLemmas.Leant.{comes-back, sheared_way, way-sheared}
use Rattle.overlay.proofs.AreaLemmas.Nearest.{ways-apart}
use Rattle.overlay.proofs.AreaLemmas.Sheared.{AreDistinct-sheared, AreNoded-sheared, edge-same, sheared-same}
use Rattle.overlay.proofs.AreaLemmas.Slanted.{slanted-sloped}
use Rattle.overlay.proofs.AreaLemmas.Touching.{Touches}
use Rattle.overlay.proofs.AreaLemmas.Wedges.{IsNextAround, way-end, way-start, way_from}
use Rattle.overlay.proofs.AreaLemmas.Wide.{all-low}
use Rattle.overlay.proofs.ContourLemmas.Clockwise.{AreApart, AreOpposite, comes-first, comes-once, left-or, level-opposite, opposite-back, turn, turn-back}
use Rattle.overlay.proofs.ContourLemmas.Order.{corner-from, point}
use Rattle.overlay.proofs.ContourLemmas.Turns.{ComesBefore-itself, ComesBefore-trans, across, along, left_signs, some_square}
use Rattle.overlay.proofs.FillLemmas.Premises.{All-among}

-- ---- ways around a point

abbrev Goes : Direction → Type 0
Goes a = ((a.x ≡ pos 0) × (a.y ≡ pos 0)) → ⊥

apart-back : (a b : Direction) → AreApart a b → AreApart b a
apart-back a b (inl opposite) = inl (opposite-back a b opposite)
apart-back a b (inr (inl (left, left_too), turns)) = inr (inl (left_too, left), turned turns)
  where
    turned : (turn a b <ℤ pos 0) ⊎ (pos 0 <ℤ turn a b) → (turn b a <ℤ pos 0) ⊎ (pos 0 <ℤ turn b a)
    turned (inl less) = inr (let is = turn-back b a in omega (arith, ints, less, is))
    turned (inr more) = inl (let is = turn-back b a in omega (arith, ints, more, is))
apart-back a b (inr (inr (right, right_too), turns)) = inr (inr (right_too, right), turned turns)
  where
    turned : (turn a b <ℤ pos 0) ⊎ (pos 0 <ℤ turn a b) → (turn b a <ℤ pos 0) ⊎ (pos 0 <ℤ turn b a)
    turned (inl less) = inr (let is = turn-back b a in omega (arith, ints, less, is))
    turned (inr more) = inl (let is = turn-back b a in omega (arith, ints, more, is))

-- of three ways in turn, the second comes before the third also clockwise from the first; so the third one before the first from
-- the second
turned-on : (a b c : Direction) → AreApart a b → AreApart a c → AreApart b c → ComesBefore a b c → ComesBefore b c a
turned-on a b c ab ac bc is =
    elim (comes-first b c a bc ba ca) [ inl on ↦ on | inr off ↦ absurd (never off) ]
  where
    ba : AreApart b a
    ba = apart-back a b ab

    ca : AreApart c a
    ca = apart-back a c ac

    cb : AreApart c b
    cb = apart-back b c bc

    never : ¬ (ComesBefore b a c)
    never off =
        elim (comes-first c a b ca cb ab) [
          | inl first ↦ comes-once c b a cb ca ba first off
          | inr first ↦ comes-once c a b ca cb ab first is
        ]

-- a way lies within the half turn clockwise from itself
left-itself : (a : Direction) → (unlike : pos 0 <ℤ dot a.x a.y a.x a.y) → IsLeft a a
left-itself a unlike = inr (identity (across a.x a.y a.x a.y) (n_of 0) (omega arith), unlike)

-- so it comes before any other one
itself-first : (a x : Direction) → pos 0 <ℤ dot a.x a.y a.x a.y → AreApart a x → ComesBefore a a x
itself-first a x goes apart = elim (left-or a x) [ inl is ↦ inr (inl (left-itself a goes, is), less is) | inr isnt ↦ inl (left-itself a goes, isnt) ]
  where
    same : (a.x *ℤ dot a.x a.y x.x x.y) ≡ ((x.x *ℤ dot a.x a.y a.x a.y) +ℤ (a.y *ℤ turn a x))
    same =
        identity (times (number a.x) (along a.x a.y x.x x.y)) (plus (times (number x.x) (along a.x a.y a.x a.y)) (times (number a.y) (across a.x a.y x.x x.y))) (omega arith)

    never : turn a x ≡ pos 0 → pos 0 <ℤ dot a.x a.y x.x x.y → ¬ (AreOpposite a x)
    never level ahead (inl (left, right)) =
        let one = product_positive (pos 0 -ℤ a.x) (dot a.x a.y x.x x.y) (omega (arith, ints, left)) ahead in
        let turned = identity (times (minus (n_of 0) (number a.x)) (along a.x a.y x.x x.y)) (minus (n_of 0) (times (number a.x) (along a.x a.y x.x x.y))) (omega arith) in
        let other = product_positive x.x (dot a.x a.y a.x a.y) right goes in
        let none = ap (λ z. a.y *ℤ z) level ∙ identity (times (number a.y) (n_of 0)) (n_of 0) (omega arith) in
        let is = same in
        omega (arith, ints, one, turned, other, none, is)
    never level ahead (inr (right, left)) =
        let one = product_positive a.x (dot a.x a.y x.x x.y) right ahead in
        let turned = identity (times (minus (n_of 0) (number x.x)) (along a.x a.y a.x a.y)) (minus (n_of 0) (times (number x.x) (along a.x a.y a.x a.y))) (omega arith) in
        let other = product_positive (pos 0 -ℤ x.x) (dot a.x a.y a.x a.y) (omega (arith, ints, left)) goes in
        let none = ap (λ z. a.y *ℤ z) level ∙ identity (times (number a.y) (n_of 0)) (n_of 0) (omega arith) in
        let is = same in
        omega (arith, ints, one, turned, other, none, is)

    less : IsLeft a x → turn a x <ℤ pos 0
    less (inl below) = below
    less (inr (level, ahead)) = absurd (never level ahead (level-opposite a x apart level))

-- and none comes before it
none-first : (a x : Direction) → pos 0 <ℤ dot a.x a.y a.x a.y → ¬ (ComesBefore a x a)
none-first a x goes (inl (is, isnt)) = isnt (left-itself a goes)
none-first a x goes (inr (inl (is, is_too), less)) = let upto = (left_signs a x is).0 in let back = turn-back x a in omega (arith, ints, less, upto, back)
none-first a x goes (inr (inr (isnt, isnt_too), less)) = isnt_too (left-itself a goes)

-- the way to another point goes somewhere
goes-between : (at to : Point) → to ≢ at → ((direction_between at to).x ≡ pos 0) × ((direction_between at to).y ≡ pos 0) → ⊥
goes-between at to differ (level, even) = differ (ap₂ point (none_left to.x at.x level) (none_left to.y at.y even))
  where
    none_left : (a b : ℤ) → (a -ℤ b) ≡ pos 0 → a ≡ b
    none_left a b none = omega (arith, ints, none)

-- No two are the first one around.
pub first-alone : (sorted : List Edge) (back at : Point) (j k : ℕ) → back ≢ at → IsFirstAround sorted back at j → IsFirstAround sorted back at k → j ≡ k
first-alone sorted back at j k differ is is_too = elim (cases_eq j k) [
  | inl same ↦ same
  | inr differs ↦
      let way : ℕ → Direction = λ i. direction_between at (end_of (edge_at sorted i)) in
      absurd (ComesBefore-itself (direction_between at back) (way j)
      (ComesBefore-trans (direction_between at back) (way j) (way k) (way j) (goes-between at back differ) (is.first k is_too.inside is_too.starts (λ h. differs (sym h))) (is_too.first j is.inside is.starts differs)))
]

-- ---- edges that start at a point, and one that ends there

module _ (sorted : List Edge) (are : AreBorders sorted) (n b : ℕ) (wide : b + b < n) (low : All (IsLow b) sorted) (at back : Point) (last : ℕ) (inside : last < length sorted) (starts : point_at sorted last ≡ back) (ends : end_of (edge_at sorted last) ≡ at) where
  -- what stands where nothing does
  abbrev nothing : Edge
  nothing = record { x0 = pos 0; y0 = pos 0; x1 = pos 0; y1 = pos 0 }

  some : 0 < n
  some = omega (arith, wide)

  abbrev leant : List Edge
  leant = map (sheared_edge n) sorted

  -- the way from the sheared point to another one
  abbrev way : Point → Direction
  way to = direction_between (sheared n at) (sheared n to)

  abbrev Out : ℕ → Type 0
  Out k = (k < length sorted) × (point_at sorted k ≡ at)

  held : (k : ℕ) → k < length sorted → Contains sorted (edge_at sorted k)
  held k within = Contains-get_or sorted k nothing within

  two-ends : (k : ℕ) → k < length sorted → start_of (edge_at sorted k) ≢ end_of (edge_at sorted k)
  two-ends k within = All-contains (λ (e : Edge). start_of e ≢ end_of e) sorted (edge_at sorted k) are.two_ends (held k within)

  -- one edge stands at one place
  same-place : (i j : ℕ) → i < length sorted → j < length sorted → edge_at sorted i ≡ edge_at sorted j → i ≡ j
  same-place i j within within_too same = elim (cases_lt i j) [
    | inl less ↦ absurd (are.distinct i j nothing less within_too (inl same))
    | inr from ↦ elim (cases_lt j i) [ inl more ↦ absurd (are.distinct j i nothing more within (inl (sym same))) | inr upto ↦ omega (arith, from, upto) ]
  ]

  abbrev leans : ℕ → Edge
  leans k = sheared_edge n (edge_at sorted k)

  sloped : All (λ edge. edge.x0 ≢ edge.x1) leant
  sloped = All-among (λ (edge : Edge). edge.x0 ≢ edge.x1) leant (slanted-sloped sorted are.two_ends n b wide low)

  apart-ways : (i j : ℕ) → i < length sorted → j < length sorted → Touches (sheared n at) (leans i) → Touches (sheared n at) (leans j) → edge_at sorted i ≢ edge_at sorted j → AreApart (way_from (sheared n at) (leans i)) (way_from (sheared n at) (leans j))
  apart-ways i j within within_too touches touches_too differ =
      ways-apart leant (AreNoded-sheared n some sorted are.noded) (AreDistinct-sheared n some sorted are.distinct) sloped (sheared n at) (leans i) (leans j)
      (Contains-map (sheared_edge n) sorted (edge_at sorted i) (held i within)) (Contains-map (sheared_edge n) sorted (edge_at sorted j) (held j within_too)) touches touches_too
      (λ same. differ (edge-same n some (edge_at sorted i) (edge_at sorted j) same))

  touches-out : (k : ℕ) → Out k → start_of (leans k) ≡ sheared n at
  touches-out k out = ap (sheared n) out.1

  way-out : (k : ℕ) → Out k → way_from (sheared n at) (leans k) ≡ way (end_of (edge_at sorted k))
  way-out k out = way-start (sheared n at) (leans k) (touches-out k out)

  way-in : way_from (sheared n at) (leans last) ≡ way back
  way-in = way-end (sheared n at) (leans last) (ap (sheared n) ends) ∙ ap way starts

  abbrev out_way : ℕ → Direction
  out_way k = way (end_of (edge_at sorted k))

  apart-out : (i j : ℕ) → Out i → Out j → i ≢ j → AreApart (out_way i) (out_way j)
  apart-out i j out out_too differ =
      subst₂ (λ (d e : Direction). AreApart d e) (way-out i out) (way-out j out_too)
      (apart-ways i j out.0 out_too.0 (inl (touches-out i out)) (inl (touches-out j out_too)) (λ same. differ (same-place i j out.0 out_too.0 same)))

  apart-in : (i : ℕ) → Out i → AreApart (out_way i) (way back)
  apart-in i out =
      subst₂ (λ (d e : Direction). AreApart d e) (way-out i out) way-in
      (apart-ways i last out.0 inside (inl (touches-out i out)) (inr (ap (sheared n) ends)) (λ same. two-ends i out.0 (out.1 ∙ sym (ap (λ (e : Edge). end_of e) same ∙ ends))))

  -- they go somewhere
  goes-to : (to : Point) → to ≢ at → Goes (direction_between at to)
  goes-to = goes-between at

  goes-sheared : (to : Point) → to ≢ at → Goes (way to)
  goes-sheared to differ = goes-between (sheared n at) (sheared n to) (λ same. differ (sheared-same n some to at same))

  out-differs : (k : ℕ) → Out k → end_of (edge_at sorted k) ≢ at
  out-differs k out same = two-ends k out.0 (out.1 ∙ sym same)

  back-differs : back ≢ at
  back-differs same = two-ends last inside (starts ∙ same ∙ sym ends)

  square : (k : ℕ) → Out k → pos 0 <ℤ dot (out_way k).x (out_way k).y (out_way k).x (out_way k).y
  square k out = some_square (out_way k).x (out_way k).y (goes-sheared (end_of (edge_at sorted k)) (out-differs k out))

  -- what comes first once all is sheared did so before
  before-too : (from one other : Point) → from ≢ at → ComesBefore (way from) (way one) (way other) → ComesBefore (direction_between at from) (direction_between at one) (direction_between at other)
  before-too from one other differ is =
      comes-back n some (direction_between at from) (direction_between at one) (direction_between at other) (goes-to from differ)
      (subst (λ (d : Direction). ComesBefore (sheared_way n (direction_between at from)) (sheared_way n (direction_between at one)) d) (way-sheared n at other)
      (subst (λ (d : Direction). ComesBefore (sheared_way n (direction_between at from)) d (way other)) (way-sheared n at one)
      (subst (λ (d : Direction). ComesBefore d (way one) (way other)) (way-sheared n at from) is)))

  -- The first one clockwise of all that have the point as an end, once all is sheared, is the first one around.
  pub next-first : (j : ℕ) → j < length sorted → point_at sorted j ≡ at → IsNextAround (map (sheared_edge n) sorted) (sheared n at) (sheared_edge n (edge_at sorted last)) (sheared_edge n (edge_at sorted j)) → IsFirstAround sorted back at j
  next-first j within starts_there next = record {
    inside = within;
    starts = starts_there;
    first = λ k k_in k_starts differs. before-too back (end_of (edge_at sorted j)) (end_of (edge_at sorted k)) back-differs (by k (k_in, k_starts) (λ h. differs (sym h)));
  }
    where
      out_j : Out j
      out_j = (within, starts_there)

      by : (k : ℕ) → Out k → j ≢ k → ComesBefore (way back) (out_way j) (out_way k)
      by k out_k differs =
          elim (comes-first (way back) (out_way j) (out_way k) (apart-back (out_way j) (way back) (apart-in j out_j)) (apart-back (out_way k) (way back) (apart-in k out_k)) (apart-out j k out_j out_k differs)) [
            | inl is ↦ is
            | inr is ↦ absurd (next.first (leans k) (Contains-map (sheared_edge n) sorted (edge_at sorted k) (held k out_k.0)) (inl (touches-out k out_k)) other
                (subst (λ (d : Direction). ComesBefore d (way_from (sheared n at) (leans k)) (way_from (sheared n at) (leans j))) (sym way-in)
                (subst (λ (d : Direction). ComesBefore (way back) d (way_from (sheared n at) (leans j))) (sym (way-out k out_k))
                (subst (λ (d : Direction). ComesBefore (way back) (out_way k) d) (sym (way-out j out_j)) is))))
          ]
        where
          other : leans k ≢ leans last
          other same = two-ends k out_k.0 (out_k.1 ∙ sym (ap (λ (e : Edge). end_of e) (edge-same n some (edge_at sorted k) (edge_at sorted last) same) ∙ ends))

  -- ---- the edges of a fan

  module _ (places : List ℕ) (from : AreAllFrom sorted at places) (clockwise : AreClockwise sorted at places) where
    abbrev spoke : ℕ → ℕ
    spoke i = get_or places i 0

    abbrev to : ℕ → Direction
    to k = out_way k

    abbrev r : ℕ
    r = spoke 0

    out : (i : ℕ) → i < length places → Out (spoke i)
    out i within = (
      All-contains (λ (k : ℕ). k < length sorted) places (spoke i) from.inside (Contains-get_or places i 0 within),
      All-contains (λ (k : ℕ). point_at sorted k ≡ at) places (spoke i) from.start (Contains-get_or places i 0 within),
    )

    -- the one is the other, or comes before it
    abbrev Upto : ℕ → ℕ → Type 0
    Upto k m = (k ≡ r) ⊎ ((k ≡ m) ⊎ ComesBefore (to r) (to k) (to m))

    module _ (first : 0 < length places) where
      out_r : Out r
      out_r = out 0 first

      goes_r : Goes (to r)
      goes_r = goes-sheared (end_of (edge_at sorted r)) (out-differs r out_r)

      r-differs : end_of (edge_at sorted r) ≢ at
      r-differs = out-differs r out_r

      never-first : (k : ℕ) → ¬ (ComesBefore (to r) (to k) (to r))
      never-first k = none-first (to r) (to k) (square r out_r)

      unlike-behind : (k m : ℕ) → ComesBefore (to r) (to k) (to m) → m ≢ r
      unlike-behind k m is same = never-first k (subst (λ (j : ℕ). ComesBefore (to r) (to k) (to j)) same is)

      upto-trans : (i j k : ℕ) → Upto i j → Upto j k → Upto i k
      upto-trans i j k (inl same) second = inl same
      upto-trans i j k (inr (inl same)) second = subst (λ (m : ℕ). Upto m k) (sym same) second
      upto-trans i j k (inr (inr before)) (inl same) = absurd (unlike-behind i j before same)
      upto-trans i j k (inr (inr before)) (inr (inl same)) = inr (inr (subst (λ (m : ℕ). ComesBefore (to r) (to i) (to m)) same before))
      upto-trans i j k (inr (inr before)) (inr (inr more)) = inr (inr (ComesBefore-trans (to r) (to i) (to j) (to k) goes_r before more))

      -- of two that follow each other
      neighbours : (i : ℕ) → 0 < i → suc i < length places → Upto (spoke i) (spoke (suc i))
      neighbours i above within = elim (cases_eq (spoke i) r) [
        | inl same ↦ inl same
        | inr differs ↦ elim (cases_eq (spoke i) (spoke (suc i))) [
          | inl same ↦ inr (inl same)
          | inr apart ↦ inr (inr (by differs apart))
        ]
      ]
        where
          not-back : ¬ (ComesBefore (to r) (to (spoke (suc i))) (to (spoke i)))
          not-back is =
              clockwise i above (omega (arith, within))
              (subst (λ (m : ℕ). ComesBefore (direction_between at (end_at sorted places 0)) (direction_between at (end_of (edge_at sorted (get_or places m 0)))) (direction_between at (end_at sorted places i))) (omega arith)
              (before-too (end_at sorted places 0) (end_at sorted places (suc i)) (end_at sorted places i) r-differs is))

          out_i : Out (spoke i)
          out_i = out i (omega (arith, within))

          out_j : Out (spoke (suc i))
          out_j = out (suc i) within

          by : spoke i ≢ r → spoke i ≢ spoke (suc i) → ComesBefore (to r) (to (spoke i)) (to (spoke (suc i)))
          by differs apart = elim (cases_eq (spoke (suc i)) r) [
            | inl same ↦ absurd (not-back (subst (λ (m : ℕ). ComesBefore (to r) (to m) (to (spoke i))) (sym same) (itself-first (to r) (to (spoke i)) (square r out_r) (apart-out r (spoke i) out_r out_i (λ h. differs (sym h))))))
            | inr differs_too ↦ elim (comes-first (to r) (to (spoke i)) (to (spoke (suc i))) (apart-out r (spoke i) out_r out_i (λ h. differs (sym h))) (apart-out r (spoke (suc i)) out_r out_j (λ h. differs_too (sym h))) (apart-out (spoke i) (spoke (suc i)) out_i out_j apart)) [
              | inl is ↦ is
              | inr is ↦ absurd (not-back is)
            ]
          ]

      -- and of any two
      chain : (i d : ℕ) → 0 < i → i + d < length places → Upto (spoke i) (spoke (i + d))
      chain i zero above within = subst (λ (m : ℕ). Upto (spoke i) (spoke m)) (omega arith) (inr (inl refl))
      chain i (suc d) above within =
          subst (λ (m : ℕ). Upto (spoke i) (spoke m)) (omega arith)
          (upto-trans (spoke i) (spoke (i + d)) (spoke (suc (i + d))) (chain i d above (omega (arith, within))) (neighbours (i + d) (omega (arith, above)) (omega (arith, within))))

      upto : (i j : ℕ) → 0 < i → i < j → j < length places → (spoke i ≡ r) ⊎ ((spoke i ≡ spoke j) ⊎ ComesBefore (to r) (to (spoke i)) (to (spoke j)))
      upto i j above less within = subst (λ (m : ℕ). Upto (spoke i) (spoke m)) {x = i + (j - i)} {y = j} (omega (arith, less)) (chain i (j - i) above (omega (arith, less, within)))

      -- ---- the way back

      abbrev home : Direction
      home = way back

      in_r : AreApart (to r) home
      in_r = apart-in r out_r

      -- the way back comes behind what it doesn't come before
      behind : (k : ℕ) → Out k → k ≢ r → ¬ (ComesBefore (direction_between at (end_at sorted places 0)) (direction_between at back) (direction_between at (end_of (edge_at sorted k)))) → ComesBefore (to r) (to k) home
      behind k out_k differs isnt =
          elim (comes-first (to r) (to k) home (apart-out r k out_r out_k (λ h. differs (sym h))) in_r (apart-in k out_k)) [
            | inl is ↦ is
            | inr is ↦ absurd (isnt (before-too (end_at sorted places 0) back (end_of (edge_at sorted k)) r-differs is))
          ]

      ahead : (k : ℕ) → Out k → k ≢ r → ¬ (ComesBefore (direction_between at (end_at sorted places 0)) (direction_between at (end_of (edge_at sorted k))) (direction_between at back)) → ComesBefore (to r) home (to k)
      ahead k out_k differs isnt =
          elim (comes-first (to r) (to k) home (apart-out r k out_r out_k (λ h. differs (sym h))) in_r (apart-in k out_k)) [
            | inl is ↦ absurd (isnt (before-too (end_at sorted places 0) (end_of (edge_at sorted k)) back r-differs is))
            | inr is ↦ is
          ]

      -- the first of those that pass before the way back comes first from there
      r-first : (k : ℕ) → Out k → k ≢ r → ComesBefore (to r) (to k) home → ComesBefore home (to r) (to k)
      r-first k out_k differs is =
          let rk = apart-out r k out_r out_k (λ h. differs (sym h)) in
          let kh = apart-in k out_k in
          turned-on (to k) home (to r) kh (apart-back (to r) (to k) rk) (apart-back (to r) home in_r) (turned-on (to r) (to k) home rk in_r kh is)

      -- the one that it passes before comes first from there, before the first one
      c-first : (c : ℕ) → Out c → c ≢ r → ComesBefore (to r) home (to c) → ComesBefore home (to c) (to r)
      c-first c out_c differs is = turned-on (to r) home (to c) in_r (apart-out r c out_r out_c (λ h. differs (sym h))) (apart-back (to c) home (apart-in c out_c)) is

      -- a later one
      later : (c k : ℕ) → Out c → Out k → c ≢ r → k ≢ r → c ≢ k → ComesBefore (to r) home (to c) → ComesBefore (to r) (to c) (to k) → ComesBefore home (to c) (to k)
      later c k out_c out_k c_differs k_differs apart first_one second_one =
          let rc = apart-out r c out_r out_c (λ h. c_differs (sym h)) in
          let rk = apart-out r k out_r out_k (λ h. k_differs (sym h)) in
          let ck = apart-out c k out_c out_k apart in
          let ch = apart-in c out_c in
          let kh = apart-in k out_k in
          let hc = apart-back (to c) home ch in
          let hr = apart-back (to r) home in_r in
          -- c r home
          let c_r_home : ComesBefore (to c) (to r) home = turned-on home (to c) (to r) hc hr (apart-back (to r) (to c) rc) (c-first c out_c c_differs first_one) in
          -- c k r
          let c_k_r : ComesBefore (to c) (to k) (to r) = turned-on (to r) (to c) (to k) rc rk ck second_one in
          let c_k_home = ComesBefore-trans (to c) (to k) (to r) home (goes-sheared (end_of (edge_at sorted c)) (out-differs c out_c)) c_k_r c_r_home in
          turned-on (to k) home (to c) kh (apart-back (to c) (to k) ck) hc (turned-on (to c) (to k) home ck ch kh c_k_home)

      goes_home : Goes home
      goes_home = goes-sheared back back-differs

      -- an earlier one
      earlier : (c k : ℕ) → Out c → Out k → c ≢ r → k ≢ r → ComesBefore (to r) home (to c) → ComesBefore (to r) (to k) home → ComesBefore home (to c) (to k)
      earlier c k out_c out_k c_differs k_differs first_one second_one =
          ComesBefore-trans home (to c) (to r) (to k) goes_home (c-first c out_c c_differs first_one) (r-first k out_k k_differs second_one)

      -- ---- the edge that is told

      module _ (k : ℕ) (is : IsFirstAround sorted back at k) where
        out_k : Out k
        out_k = (is.inside, is.starts)

        -- nothing comes first from the way back before it
        beaten : (c : ℕ) → Out c → c ≢ k → ¬ (ComesBefore home (to c) (to k))
        beaten c out_c differs first_one =
            ComesBefore-itself (direction_between at back) (direction_between at (end_of (edge_at sorted k)))
            (ComesBefore-trans (direction_between at back) (direction_between at (end_of (edge_at sorted k))) (direction_between at (end_of (edge_at sorted c))) (direction_between at (end_of (edge_at sorted k))) (goes-to back back-differs)
            (is.first c out_c.0 out_c.1 differs) (before-too back (end_of (edge_at sorted c)) (end_of (edge_at sorted k)) back-differs first_one))

        -- what stands before a place, or there, comes before the way back if what stands at the place does
        passed : (i j : ℕ) → i < suc j → j < length places → spoke i ≢ r → ¬ (PassesFirst sorted places at back (end_at sorted places j)) → ComesBefore (to r) (to (spoke i)) home
        passed i j less within differs isnt = elim (cases_eq (spoke i) (spoke j)) [
          | inl same ↦ subst (λ (m : ℕ). ComesBefore (to r) (to m) home) (sym same) (behind (spoke j) (out j within) (λ h. differs (same ∙ h)) isnt)
          | inr apart ↦ by apart (upto i j (above i differs) (strict apart) within)
        ]
          where
            above : (m : ℕ) → spoke m ≢ r → 0 < m
            above zero off = absurd (off refl)
            above (suc m) off = omega arith

            strict : spoke i ≢ spoke j → i < j
            strict apart = elim (cases_eq i j) [ inl same ↦ absurd (apart (ap (λ (m : ℕ). spoke m) same)) | inr unlike ↦ omega (arith, less, unlike) ]

            by : spoke i ≢ spoke j → Upto (spoke i) (spoke j) → ComesBefore (to r) (to (spoke i)) home
            by apart (inl same) = absurd (differs same)
            by apart (inr (inl same)) = absurd (apart same)
            by apart (inr (inr before)) = ComesBefore-trans (to r) (to (spoke i)) (to (spoke j)) home goes_r before (behind (spoke j) (out j within) (unlike-behind (spoke i) (spoke j) before) isnt)

        -- So it is the edge that is told.
        told-at : (i t : ℕ) → i < length places → spoke i ≡ k → t < length places → IsTold sorted places back at t → spoke t ≡ k
        told-at i t i_in same t_in (inl still) = absurd (out-differs (spoke (length places - 1)) (out (length places - 1) (omega (arith, first))) still)
        told-at i t i_in same t_in (inr (inl (zero_is, isnt))) = elim (cases_eq r k) [
          | inl equal ↦ ap (λ (m : ℕ). spoke m) zero_is ∙ equal
          | inr differs ↦
              let k_differs : spoke i ≢ r = λ h. differs (sym h ∙ same) in
              let here = passed i (length places - 1) (omega (arith, i_in, first)) (omega (arith, first)) k_differs isnt in
              absurd (beaten r out_r differs (subst (λ (m : ℕ). ComesBefore home (to r) (to m)) same (r-first (spoke i) (out i i_in) k_differs here)))
        ]
        told-at i t i_in same t_in (inr (inr (inl isnt))) = absurd (isnt (before-too (end_at sorted places 0) (end_at sorted places 0) back r-differs (itself-first (to r) home (square r out_r) in_r)))
        told-at i t i_in same t_in (inr (inr (inr (above, before_isnt, isnt)))) = elim (cases_eq (spoke t) k) [
          | inl equal ↦ equal
          | inr differs ↦ absurd (beaten (spoke t) out_t differs (subst (λ (m : ℕ). ComesBefore home (to (spoke t)) (to m)) same (first-is differs)))
        ]
          where
            out_t : Out (spoke t)
            out_t = out t t_in

            out_i : Out (spoke i)
            out_i = out i i_in

            c_differs : spoke t ≢ r
            c_differs h =
                isnt (before-too (end_at sorted places 0) (end_of (edge_at sorted (spoke t))) back r-differs
                (subst (λ (m : ℕ). ComesBefore (to r) (to m) home) (sym h) (itself-first (to r) home (square r out_r) in_r)))

            c_ahead : ComesBefore (to r) home (to (spoke t))
            c_ahead = ahead (spoke t) out_t c_differs isnt

            first-is : spoke t ≢ k → ComesBefore home (to (spoke t)) (to (spoke i))
            first-is differs = elim (cases_eq (spoke i) r) [
              | inl first_one ↦ subst (λ (m : ℕ). ComesBefore home (to (spoke t)) (to m)) (sym first_one) (c-first (spoke t) out_t c_differs c_ahead)
              | inr k_differs ↦ elim (cases_lt i t) [
                | inl less ↦ earlier (spoke t) (spoke i) out_t out_i c_differs k_differs c_ahead (passed i (t - 1) (omega (arith, less, above)) (omega (arith, t_in, above)) k_differs before_isnt)
                | inr from_t ↦ by k_differs (upto t i above (strict from_t) i_in)
              ]
            ]
              where
                strict : t ≤ i → t < i
                strict from_t = elim (cases_eq i t) [ inl equal ↦ absurd (differs (ap (λ (m : ℕ). spoke m) (sym equal) ∙ same)) | inr unlike ↦ omega (arith, from_t, unlike) ]

                by : spoke i ≢ r → Upto (spoke t) (spoke i) → ComesBefore home (to (spoke t)) (to (spoke i))
                by k_differs (inl equal) = absurd (c_differs equal)
                by k_differs (inr (inl equal)) = absurd (differs (equal ∙ same))
                by k_differs (inr (inr before)) = later (spoke t) (spoke i) out_t out_i c_differs k_differs (λ h. differs (h ∙ same)) c_ahead before

        place-of : (i : ℕ) × (i < length places) × (get_or places i 0 ≡ k)
        place-of = let (i, within, there) = from.all k is.inside is.starts in (i, within, get_or_default places i 0 k within ∙ there)

    -- The edge that is told in a fan is the first one clockwise from the way back.
    pub told-first : (k t : ℕ) → IsFirstAround sorted back at k → t < length places → IsTold sorted places back at t → get_or places t 0 ≡ k
    told-first k t is within told =
        let first : 0 < length places = omega (arith, within) in
        let (i, i_in, same) = place-of first k is in
        told-at first k is i t i_in same within told

-- ---- what a walk takes

differs-back : (sorted : List Edge) (are : AreBorders sorted) (at back : Point) (last : ℕ) → last < length sorted → point_at sorted last ≡ back → end_of (edge_at sorted last) ≡ at → back ≢ at
differs-back sorted are at back last inside starts ends =
    let (b, low) = all-low sorted in back-differs sorted are (suc (b + b)) b (omega arith) low at back last inside starts ends

-- the edge that turns furthest left is the first one clockwise from the way back, where that isn't walked
pub leftmost-takes : (sorted : List Edge) (used : List Bool) (back at : Point) (next : Option ℕ) → AreBorders sorted → MatchOption next (NoneLeaves sorted used at) (λ place. IsLeftmost sorted used back at place) → TakesFirst sorted used back at next
leftmost-takes sorted used back at None are none last k inside starts ends is unused = absurd (none k (record { inside = is.inside; unused = unused; starts = is.starts }))
leftmost-takes sorted used back at (Some place) are most last k inside starts ends is unused = elim (cases_eq place k) [
  | inl same ↦ ap Some same
  | inr differs ↦
      absurd (most.first (differs-back sorted are at back last inside starts ends) k (record { inside = is.inside; unused = unused; starts = is.starts }) (is.first place most.leaves.inside most.leaves.starts differs))
]

-- and so is the one that a fan tells
pub fan-takes : (sorted : List Edge) (spokes : List Spoke) (fan : Fan) (back at : Point) (first t : ℕ) → AreBorders sorted → AreInOrder sorted → IsFan sorted spokes fan → fan.corner ≡ first → IsFirstFrom sorted at first
    → t < length (places (take (fan.end - fan.start) (drop fan.start spokes))) → IsTold sorted (places (take (fan.end - fan.start) (drop fan.start spokes))) back at t
    → (last k : ℕ) → last < length sorted → point_at sorted last ≡ back → end_of (edge_at sorted last) ≡ at → IsFirstAround sorted back at k → get_or (places (take (fan.end - fan.start) (drop fan.start spokes))) t 0 ≡ k
fan-takes sorted spokes fan back at first t are order of corner from within told last k inside starts ends is =
    let list = places (take (fan.end - fan.start) (drop fan.start spokes)) in
    let here : point_at sorted fan.corner ≡ at = ap (point_at sorted) corner ∙ (corner-from sorted order at first from k is.inside is.starts).0 in
    let (b, low) = all-low sorted in
    told-first sorted are (suc (b + b)) b (omega arith) low at back last inside starts ends list (subst (λ (p : Point). AreAllFrom sorted p list) here of.all) (subst (λ (p : Point). AreClockwise sorted p list) here of.clockwise) k t is within told
