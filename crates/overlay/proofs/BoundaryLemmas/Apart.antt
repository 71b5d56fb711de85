-- Around a point of an edge the edges don't wind as around a point just below it.
use Rattle.std.proofs.Common.{◌≡◌, ◌≢◌, ◌+◌, ◌*◌, ◌<◌, Bool, true, false, cond, ℕ, ℤ, pos, ◌+ℤ◌, ◌-ℤ◌, ◌*ℤ◌, ◌≤ℤ◌, ◌<ℤ◌, List, refl, ap, sym, ◌∙◌, arith}
use Rattle.std.specs.List.{Contains}
use Rattle.std.proofs.Math.Nat.{mul-pos}
use Rattle.std.proofs.lemmas.Int.{by_lt_z, ints}
use Rattle.plane.specs.declared.edge.Edge.{Edge}
use Rattle.plane.specs.Meet.Edges.{RationalPoint}
use Rattle.plane.specs.SweepLine.Heights.{rightwards, run}
use Rattle.plane.proofs.MeetLemmas.Identities.{identity, minus, number, plus, scaled, times, unscaled}
use Rattle.noding.specs.Windings.{winding}
use Rattle.noding.proofs.SnapLemmas.Counted.{height_at, is_counted}
use Rattle.noding.proofs.SnapLemmas.Numbers.{n_of, natural}
use Rattle.overlay.specs.Fill.Filled.{AreDistinct, AreNoded, HaveSameEnds}
use Rattle.overlay.specs.Fill.Pieces.{weight}
use Rattle.overlay.proofs.AreaLemmas.Ranges.{in-reach, reach}
use Rattle.overlay.proofs.FillLemmas.Level.{MeetOnly, level-same}
use Rattle.overlay.proofs.FillLemmas.Totals.{total-difference}
use Rattle.overlay.proofs.FillLemmas.Under.{Under, is_counted-from, under_is}
use Rattle.overlay.proofs.FillLemmas.Weights.{weight-left, weight-right}
use Rattle.overlay.proofs.FillLemmas.Wound.{winding-total}
use Rattle.overlay.proofs.KeptLemmas.First.{total-one, turned-meet, turned-same}
use Rattle.overlay.proofs.PieceLemmas.Made.{rightwards-onwards}

-- Two points of the column `at`, around which the edges don't wind alike. Both stand at the same whole numbers of x and y as the point
-- of the edge r in the column, or just below them.
pub record WindApart (edges : List Edge) (r : Edge) (at : RationalPoint) : Type 0 where
  pub one : RationalPoint
  pub other : RationalPoint
  pub differ : winding edges one ≢ winding edges other
  pub left : (z : ℤ) → at.x <ℤ (pos at.n *ℤ z) → (one.x <ℤ (pos one.n *ℤ z)) × (other.x <ℤ (pos other.n *ℤ z))
  pub right : (z : ℤ) → (pos at.n *ℤ z) ≤ℤ at.x → ((pos one.n *ℤ z) ≤ℤ one.x) × ((pos other.n *ℤ z) ≤ℤ other.x)
  pub low : (z : ℤ) → height_at r at <ℤ ((pos at.n *ℤ z) *ℤ run r) → (one.y <ℤ (pos one.n *ℤ z)) × (other.y <ℤ (pos other.n *ℤ z))
  pub high : (z : ℤ) → ((pos at.n *ℤ z) *ℤ run r) <ℤ height_at r at → ((pos one.n *ℤ z) ≤ℤ one.y) × ((pos other.n *ℤ z) ≤ℤ other.y)

-- ---- multiples

more_times : (k n : ℕ) (z : ℤ) → (pos (k * n) *ℤ z) ≡ (pos k *ℤ (pos n *ℤ z))
more_times k n z = identity (times (n_of (k * n)) (number z)) (times (n_of k) (times (n_of n) (number z))) (omega arith)

-- a multiple by a number above 0 keeps what is less
less_scaled : (k : ℕ) (a b : ℤ) → 0 < k → a <ℤ b → (pos k *ℤ a) <ℤ (pos k *ℤ b)
less_scaled k a b some less =
    by_lt_z (pos k *ℤ a) (pos k *ℤ b) (λ is. is)
    (λ back. let upto = unscaled k b a some back in absurd (omega (arith, ints, upto, less)))

less_unscaled : (k : ℕ) (a b : ℤ) → (pos k *ℤ a) <ℤ (pos k *ℤ b) → a <ℤ b
less_unscaled k a b less =
    by_lt_z a b (λ is. is)
    (λ back. let upto = scaled k b a back in absurd (omega (arith, ints, upto, less)))

-- an edge's height over k times the numbers
height_times : (k n : ℕ) (x x0 x1 y0 y1 : ℤ) → ((y0 *ℤ ((pos (k * n) *ℤ x1) -ℤ (pos k *ℤ x))) +ℤ (y1 *ℤ ((pos k *ℤ x) -ℤ (pos (k * n) *ℤ x0)))) ≡ (pos k *ℤ ((y0 *ℤ ((pos n *ℤ x1) -ℤ x)) +ℤ (y1 *ℤ (x -ℤ (pos n *ℤ x0)))))
height_times k n x x0 x1 y0 y1 =
    identity (plus (times (number y0) (minus (times (n_of (k * n)) (number x1)) (times (n_of k) (number x)))) (times (number y1) (minus (times (n_of k) (number x)) (times (n_of (k * n)) (number x0)))))
    (times (n_of k) (plus (times (number y0) (minus (times (n_of n) (number x1)) (number x))) (times (number y1) (minus (number x) (times (n_of n) (number x0)))))) (omega arith)

-- a step down, over k times the numbers
step_down : (k : ℕ) (h v : ℤ) → (((pos k *ℤ h) -ℤ pos 1) *ℤ v) ≡ ((pos k *ℤ (h *ℤ v)) -ℤ v)
step_down k h v = identity (times (minus (times (n_of k) (number h)) (n_of 1)) (number v)) (minus (times (n_of k) (times (number h) (number v))) (number v)) (omega arith)

-- tests of which each implies the other
same_bool : (a b : Bool) → (a ≡ true → b ≡ true) → (b ≡ true → a ≡ true) → a ≡ b
same_bool true true to from = refl
same_bool true false to from = sym (to refl)
same_bool false true to from = from refl
same_bool false false to from = refl

-- ---- the two points

module _ (edges : List Edge) (noded : AreNoded edges) (distinct : AreDistinct edges) (edge : Edge) (among : Contains edges edge) (sloped : edge.x0 ≢ edge.x1)
    (at : RationalPoint) (behind : (pos at.n *ℤ (rightwards edge).x0) <ℤ at.x) (before : at.x <ℤ (pos at.n *ℤ (rightwards edge).x1)) (w : ℕ) (width : run (rightwards edge) ≡ pos w) where
  abbrev r : Edge
  r = rightwards edge

  onwards : r.x0 <ℤ r.x1
  onwards = rightwards-onwards edge sloped

  pub wide : 0 < w
  wide = let some = onwards in omega (arith, ints, some, width)

  -- no edge goes further than this
  abbrev k : ℕ
  k = 1 + reach (λ (e : Edge). run (rightwards e)) edges

  pub some : 0 < k
  some = omega arith

  -- the edge's point in the column
  abbrev pub upper : RationalPoint
  upper = record {
    n = w * at.n;
    x = pos w *ℤ at.x;
    y = height_at r at;
    positive = mul-pos wide at.positive;
  }

  -- and one just below it
  abbrev pub lower : RationalPoint
  lower = record {
    n = k * upper.n;
    x = pos k *ℤ upper.x;
    y = (pos k *ℤ upper.y) -ℤ pos 1;
    positive = mul-pos some upper.positive;
  }

  -- the edge is as high as its point
  level : height_at r upper ≡ (upper.y *ℤ run r)
  level =
      height_times w at.n at.x r.x0 r.x1 r.y0 r.y1
      ∙ identity (times (n_of w) (number (height_at r at))) (times (number (height_at r at)) (n_of w)) (omega arith)
      ∙ ap (λ (z : ℤ). height_at r at *ℤ z) (sym width)

  -- ---- which edges are under them

  module _ (s : Edge) where
    -- what is under the lower point is under the upper one, and strictly
    lower-strict : Under s lower → (s.x0 <ℤ s.x1) × (height_at s upper <ℤ (upper.y *ℤ run s)) × Under s upper
    lower-strict under =
        let from = unscaled k (pos upper.n *ℤ s.x0) upper.x some (let told = under.from in let is = more_times k upper.n s.x0 in omega (arith, ints, told, is)) in
        let upto = less_unscaled k upper.x (pos upper.n *ℤ s.x1) (let told = under.before in let is = more_times k upper.n s.x1 in omega (arith, ints, told, is)) in
        let goes = less_unscaled upper.n s.x0 s.x1 (omega (arith, ints, from, upto)) in
        let strict = by_lt_z (height_at s upper) (upper.y *ℤ run s) (λ is. is)
        (λ back.
        let more = scaled k (upper.y *ℤ run s) (height_at s upper) back in
        let told = under.upto in
        let here = height_times k upper.n upper.x s.x0 s.x1 s.y0 s.y1 in
        let down = step_down k upper.y (run s) in
        absurd (omega (arith, ints, more, told, here, down, goes))) in
        (goes, strict, record { from = from; before = upto; upto = omega (arith, ints, strict) })

    -- and what is strictly under the upper one is under the lower one
    upper-strict : run s ≤ℤ pos k → height_at s upper <ℤ (upper.y *ℤ run s) → Under s upper → Under s lower
    upper-strict short strict under = record {
      from = (let more = scaled k (pos upper.n *ℤ s.x0) upper.x under.from in let is = more_times k upper.n s.x0 in omega (arith, ints, more, is));
      before = (let more = less_scaled k upper.x (pos upper.n *ℤ s.x1) some under.before in let is = more_times k upper.n s.x1 in omega (arith, ints, more, is));
      upto = (let more = scaled k (height_at s upper +ℤ pos 1) (upper.y *ℤ run s) (omega (arith, ints, strict)) in
          let split = identity (times (n_of k) (plus (number (height_at s upper)) (n_of 1))) (plus (times (n_of k) (number (height_at s upper))) (n_of k)) (omega arith) in
          let here = height_times k upper.n upper.x s.x0 s.x1 s.y0 s.y1 in
          let down = step_down k upper.y (run s) in
          omega (arith, ints, more, split, here, down, short));
    }

    -- so any other edge is under both of them or neither
    alike : run s ≤ℤ pos k → MeetOnly s r → s ≢ r → is_counted s upper ≡ is_counted s lower
    alike short meet apart = same_bool (is_counted s upper) (is_counted s lower) to (λ counted. is_counted-from s upper (lower-strict (under_is s lower counted)).2)
      where
        to : is_counted s upper ≡ true → is_counted s lower ≡ true
        to counted =
            let under = under_is s upper counted in
            let from = under.from in
            let upto = under.before in
            let over = onwards in
            by_lt_z (height_at s upper) (upper.y *ℤ run s)
            (λ strict. is_counted-from s lower (upper-strict short strict under))
            (λ back.
            let high = under.upto in
            let same : height_at s upper ≡ (upper.y *ℤ run s) = omega (arith, ints, back, high) in
            let start = less_scaled w (pos at.n *ℤ r.x0) at.x wide behind in
            let end = less_scaled w at.x (pos at.n *ℤ r.x1) wide before in
            let start_is = more_times w at.n r.x0 in
            let end_is = more_times w at.n r.x1 in
            let goes = less_unscaled upper.n s.x0 s.x1 (omega (arith, ints, from, upto)) in
            let swapped = ap (λ (z : ℤ). z *ℤ run r) same
            ∙ identity (times (times (number upper.y) (minus (number s.x1) (number s.x0))) (minus (number r.x1) (number r.x0))) (times (times (number upper.y) (minus (number r.x1) (number r.x0))) (minus (number s.x1) (number s.x0))) (omega arith)
            ∙ ap (λ (z : ℤ). z *ℤ run s) (sym level) in
            absurd (apart (level-same s r upper meet goes over (record { from = from; upto = omega (arith, ints, upto) }) (omega (arith, ints, start, start_is)) (omega (arith, ints, end, end_is)) swapped)))

  -- ---- what they count

  abbrev part : RationalPoint → Edge → ℤ
  part point e = cond (is_counted (rightwards e) point) (weight e) (pos 0)

  abbrev apart_by : Edge → ℤ
  apart_by e = part upper e -ℤ part lower e

  nothing : (a b : Bool) (z : ℤ) → a ≡ b → (cond a z (pos 0) -ℤ cond b z (pos 0)) ≡ pos 0
  nothing true true z is = omega (arith, ints)
  nothing false false z is = refl
  nothing true false z is = cc
  nothing false true z is = cc

  others-alike : (e : Edge) → Contains edges e → ¬ (HaveSameEnds e edge) → apart_by e ≡ pos 0
  others-alike e held other =
      let near = in-reach (λ (f : Edge). run (rightwards f)) edges e held in
      let upto = near.upto in
      nothing (is_counted (rightwards e) upper) (is_counted (rightwards e) lower) (weight e)
      (alike (rightwards e) (omega (arith, ints, upto)) (turned-meet edges noded e edge held among) (λ same. other (turned-same e edge same)))

  -- the edge itself is under the upper one alone
  own-upper : is_counted r upper ≡ true
  own-upper =
      let start = less_scaled w (pos at.n *ℤ r.x0) at.x wide behind in
      let end = less_scaled w at.x (pos at.n *ℤ r.x1) wide before in
      let start_is = more_times w at.n r.x0 in
      let end_is = more_times w at.n r.x1 in
      let high = level in
      is_counted-from r upper (record { from = omega (arith, ints, start, start_is); before = omega (arith, ints, end, end_is); upto = omega (arith, ints, high) })

  own-apart : apart_by edge ≡ weight edge
  own-apart = by (is_counted r lower) refl
    where
      counts : ◌≡◌ {A = ℤ} (cond (is_counted r upper) (weight edge) (pos 0)) (weight edge)
      counts = ap (λ (t : Bool). cond t (weight edge) (pos 0)) own-upper

      by : (t : Bool) → is_counted r lower ≡ t → apart_by edge ≡ weight edge
      by true is =
          let (goes, strict, under) = lower-strict r (under_is r lower is) in
          let high = level in
          absurd (omega (arith, ints, strict, high))
      by false is =
          let other = ap (λ (t : Bool). cond t (weight edge) (pos 0)) is in
          let mine = counts in
          omega (arith, ints, other, mine)

  -- Around the edge's point they wind more by its weight than around the one just below.
  pub winds-more : winding edges upper ≡ (winding edges lower +ℤ weight edge)
  winds-more =
      let one = winding-total edges upper in
      let other = winding-total edges lower in
      let sum = total-difference (part upper) (part lower) edges in
      let alone = total-one apart_by edge edges among distinct others-alike in
      let own = own-apart in
      omega (arith, ints, one, other, sum, alone, own)

  differ : winding edges upper ≢ winding edges lower
  differ same = weighs
    where
      more : winding edges upper ≡ (winding edges lower +ℤ weight edge)
      more = winds-more

      weighs : ⊥
      weighs =
          let is_more = more in
          by_lt_z edge.x0 edge.x1
          (λ on. let is = weight-right edge on in omega (arith, ints, is, is_more, same))
          (λ upto. by_lt_z edge.x1 edge.x0
          (λ back. let is = weight-left edge back in omega (arith, ints, is, is_more, same))
          (λ from. sloped (omega (arith, ints, upto, from))))

  apart : WindApart edges r at
  apart = record {
    one = upper;
    other = lower;
    differ = differ;
    left = λ z less.
        let first = less_scaled w at.x (pos at.n *ℤ z) wide less in
        let first_is = more_times w at.n z in
        let here : upper.x <ℤ (pos upper.n *ℤ z) = omega (arith, ints, first, first_is) in
        let second = less_scaled k upper.x (pos upper.n *ℤ z) some here in
        let second_is = more_times k upper.n z in
        (here, omega (arith, ints, second, second_is));
    right = λ z upto.
        let first = scaled w (pos at.n *ℤ z) at.x upto in
        let first_is = more_times w at.n z in
        let here : (pos upper.n *ℤ z) ≤ℤ upper.x = omega (arith, ints, first, first_is) in
        let second = scaled k (pos upper.n *ℤ z) upper.x here in
        let second_is = more_times k upper.n z in
        (here, omega (arith, ints, second, second_is));
    low = λ z less.
        let is = whole z in
        let here : upper.y <ℤ (pos upper.n *ℤ z) = omega (arith, ints, less, is) in
        let second = less_scaled k upper.y (pos upper.n *ℤ z) some here in
        let second_is = more_times k upper.n z in
        (here, omega (arith, ints, second, second_is));
    high = λ z more.
        let is = whole z in
        let here : (pos upper.n *ℤ z) <ℤ upper.y = omega (arith, ints, more, is) in
        let second = less_scaled k (pos upper.n *ℤ z) upper.y some here in
        let second_is = more_times k upper.n z in
        (omega (arith, ints, here), omega (arith, ints, second, second_is));
  }
    where
      whole : (z : ℤ) → ((pos at.n *ℤ z) *ℤ run r) ≡ (pos upper.n *ℤ z)
      whole z = ap (λ (v : ℤ). (pos at.n *ℤ z) *ℤ v) width ∙ identity (times (times (n_of at.n) (number z)) (n_of w)) (times (n_of (w * at.n)) (number z)) (omega arith)

-- An edge that isn't vertical has such points in each column strictly between its ends.
pub winds-apart : (edges : List Edge) → AreNoded edges → AreDistinct edges → (edge : Edge) → Contains edges edge → edge.x0 ≢ edge.x1 → (at : RationalPoint)
    → (pos at.n *ℤ (rightwards edge).x0) <ℤ at.x → at.x <ℤ (pos at.n *ℤ (rightwards edge).x1) → WindApart edges (rightwards edge) at
winds-apart edges noded distinct edge among sloped at behind before =
    let over = rightwards-onwards edge sloped in
    let width = natural (run (rightwards edge)) (omega (arith, ints, over)) in
    apart edges noded distinct edge among sloped at behind before width.k width.is
