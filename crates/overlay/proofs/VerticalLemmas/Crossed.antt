-- Where an edge goes over a column between two next ends, as many edges end upto there as start.
use Rattle.std.proofs.Common.{Bool, List, [], ◌∷◌, true, false, inl, inr, ℕ, ℤ, pos, suc, zero, ◌+◌, ◌*◌, ◌<◌, ◌≤◌, ◌+ℤ◌, ◌-ℤ◌, ◌*ℤ◌, ◌<ℤ◌, ◌≤ℤ◌, ◌≡◌, ◌≢◌, ◌⊎◌, refl, sym, ap, ap₂, ◌∙◌, subst, arith, get_or}
use Rattle.std.proofs.Math.Nat.{mul-le-mul_left, mul-pos}
use Rattle.std.proofs.lemmas.Int.{by_lt_z, ints}
use Rattle.std.proofs.lemmas.List.Elements.{All-contains}
use Rattle.std.specs.List.{AllPairs, Contains}
use Rattle.std.specs.Prelude.{int_le}
use Rattle.plane.specs.declared.edge.Edge.{Edge}
use Rattle.plane.specs.declared.point.Point.{Point}
use Rattle.plane.specs.Meet.Edges.{IsOf, RationalPoint}
use Rattle.plane.specs.Meet.Kinds.{IsEnd}
use Rattle.plane.specs.SweepLine.Heights.{run, height_by_run}
use Rattle.plane.proofs.MeetLemmas.Identities.{identity, minus, number, plus, scaled, times, unscaled}
use Rattle.overlay.specs.Fill.Verticals.{BoundRegion}
use Rattle.plane.specs.Ends.{reversed}
use Rattle.noding.specs.Windings.{winding, count}
use Rattle.overlay.specs.Fill.Filled.{HaveSameEnds}
use Rattle.noding.proofs.SnapLemmas.Numbers.{n_of, natural, same_test}
use Rattle.noding.proofs.SnapLemmas.Reversed.{IsOf-reversed}
use Rattle.noding.proofs.SnapLemmas.Counted.{added, counted, under}
use Rattle.noding.proofs.SnapLemmas.Windings.{under-left, under-right, winding-added}
use Rattle.overlay.proofs.FillLemmas.Kept.{same-exchanged}
use Rattle.overlay.proofs.VerticalLemmas.Columns.{is_lower, left_of, next_times, right-none, right-over, right-within, right_of, size, size-reversed, sizes, upto_size}
use Rattle.overlay.proofs.VerticalLemmas.Flows.{flow, is_upto}
use Rattle.overlay.proofs.VerticalLemmas.Region.{IsEndAt, bits, column-agree, extent, flow-is, size-among}

-- edges with the same ends have the same points
pub IsOf-turned : (one other : Edge) (point : RationalPoint) → HaveSameEnds one other → IsOf one point → IsOf other point
IsOf-turned one other point (inl same) of = subst (λ (e : Edge). IsOf e point) same of
IsOf-turned one other point (inr same) of = subst (λ (e : Edge). IsOf e point) (ap reversed same) (IsOf-reversed one point of)

-- an x strictly inside an edge that goes rightwards is that of no end of it, whichever way it is turned
pub inside-no_end : (r g : Edge) (x : ℤ) → HaveSameEnds r g → r.x0 <ℤ x → x <ℤ r.x1 → (x ≡ g.x0) ⊎ (x ≡ g.x1) → ⊥
inside-no_end r g x (inl same) from upto (inl is) = let at = ap (λ (e : Edge). e.x0) same in omega (arith, ints, is, at, from)
inside-no_end r g x (inl same) from upto (inr is) = let at = ap (λ (e : Edge). e.x1) same in omega (arith, ints, is, at, upto)
inside-no_end r g x (inr same) from upto (inl is) = let at = ap (λ (e : Edge). e.x1) same in omega (arith, ints, is, at, upto)
inside-no_end r g x (inr same) from upto (inr is) = let at = ap (λ (e : Edge). e.x0) same in omega (arith, ints, is, at, from)

-- ---- the point of an edge at a whole x of it

abbrev pub at_column : (n : ℕ) → ℤ → ℤ → 0 < n → RationalPoint
at_column n x y some = record { n = n; x = pos n *ℤ x; y = y; positive = some }

behind_start : (x x0 : ℤ) (s : ℕ) → (x -ℤ x0) ≡ pos s → x ≡ (x0 +ℤ pos s)
behind_start x x0 s is = omega (arith, ints, is)

before_end : (x x0 x1 : ℤ) (s w : ℕ) → (x1 -ℤ x0) ≡ pos w → (x -ℤ x0) ≡ pos s → (x1 -ℤ x) ≡ (pos w -ℤ pos s)
before_end x x0 x1 s w first second = omega (arith, ints, first, second)

pub IsOf-column : (edge : Edge) (x y : ℤ) (m w s n : ℕ) (some : 0 < n) → run edge ≡ pos w → (x -ℤ edge.x0) ≡ pos s → s ≤ w → n ≡ m * w → m * s ≤ n → y ≡ (pos m *ℤ height_by_run edge x) → IsOf edge (at_column n x y some)
IsOf-column edge x y m w s n some width behind upto whole share high = (
  m * s,
  record {
    share = share;
    x = ap (λ z. pos n *ℤ z) (behind_start x edge.x0 s behind)
        ∙ ap (λ (a : ℕ). pos a *ℤ (edge.x0 +ℤ pos s)) whole
        ∙ identity (times (n_of (m * w)) (plus (number edge.x0) (n_of s))) (plus (times (n_of (m * w)) (number edge.x0)) (times (n_of (m * s)) (n_of w))) (omega arith)
        ∙ ap (λ (a : ℕ). (pos a *ℤ edge.x0) +ℤ (pos (m * s) *ℤ pos w)) (sym whole)
        ∙ ap (λ z. (pos n *ℤ edge.x0) +ℤ (pos (m * s) *ℤ z)) (sym width);
    y = high
        ∙ ap₂ (λ a b. pos m *ℤ ((edge.y0 *ℤ a) +ℤ (edge.y1 *ℤ b))) (before_end x edge.x0 edge.x1 s w width behind) behind
        ∙ identity (times (n_of m) (plus (times (number edge.y0) (minus (n_of w) (n_of s))) (times (number edge.y1) (n_of s)))) (plus (times (n_of (m * w)) (number edge.y0)) (times (n_of (m * s)) (minus (number edge.y1) (number edge.y0)))) (omega arith)
        ∙ ap (λ (a : ℕ). (pos a *ℤ edge.y0) +ℤ (pos (m * s) *ℤ (edge.y1 -ℤ edge.y0))) (sym whole);
  },
)

-- a whole x is at most one, by a multiple
same_x : (n : ℕ) (a b : ℤ) → 0 < n → (pos n *ℤ a) ≡ (pos n *ℤ b) → a ≡ b
same_x n a b some is =
    let upto = unscaled n a b some (omega (arith, ints, is)) in
    let from = unscaled n b a some (omega (arith, ints, is)) in
    omega (arith, ints, upto, from)

-- an end of an edge stands at the x of one of its ends
pub IsEnd-x : (edge : Edge) (n : ℕ) (x y : ℤ) (some : 0 < n) → IsEnd edge (at_column n x y some) → (x ≡ edge.x0) ⊎ (x ≡ edge.x1)
IsEnd-x edge n x y some (inl at) = inl (same_x n x edge.x0 some at.x_is)
IsEnd-x edge n x y some (inr at) = inr (same_x n x edge.x1 some at.x_is)

-- ---- sums over lists

added-same : (one other : RationalPoint) (edges : List Edge) → ((edge : Edge) → Contains edges edge → under edge one ≡ under edge other) → added edges one ≡ added edges other
added-same one other [] each = refl
added-same one other (edge ∷ edges) each =
    ap₂ (λ a b. a +ℤ b) (each edge (0, omega arith, refl)) (added-same one other edges (λ e (i, within, is). each e (suc i, omega (arith, within), is)))

-- where all edges but one count the same for two points
added-one : (one other : RationalPoint) (g : Edge) (edges : List Edge) → Contains edges g → AllPairs (λ a b. ¬ (HaveSameEnds a b)) edges → ((edge : Edge) → Contains edges edge → ¬ (HaveSameEnds edge g) → under edge one ≡ under edge other)
    → (added edges one -ℤ added edges other) ≡ (under g one -ℤ under g other)
added-one one other g [] (i, within, is) distinct each = absurd (omega (arith, within))
added-one one other g (edge ∷ edges) (zero, within, is) distinct each =
    let rest = added-same one other edges
    (λ e (i, inside, at). each e (suc i, omega (arith, inside), at)
    (λ same. distinct 0 (suc i) e (omega arith) (omega (arith, inside)) (same-exchanged (get_or edges i e) edge (subst (λ (a : Edge). HaveSameEnds a edge) (sym at) (subst (λ (b : Edge). HaveSameEnds e b) (sym is) same))))) in
    let first = ap (λ (a : Edge). under a one) is in
    let second = ap (λ (a : Edge). under a other) is in
    omega (arith, ints, rest, first, second)
added-one one other g (edge ∷ edges) (suc i, within, is) distinct each =
    let rest = added-one one other g edges (i, omega (arith, within), is)
    (λ a b d below inside. distinct (suc a) (suc b) d (omega (arith, below)) (omega (arith, inside)))
    (λ e (j, inside, at). each e (suc j, omega (arith, inside), at)) in
    let here = each edge (0, omega arith, refl) (λ same. distinct 0 (suc i) g (omega arith) within (subst (λ (b : Edge). HaveSameEnds edge b) (sym is) same)) in
    omega (arith, ints, rest, here)

-- ---- an edge that goes over the column

module _ (sloped : List Edge) (region : BoundRegion sloped) (x : ℤ) (g r : Edge) (among : Contains sloped g) (turned : HaveSameEnds r g) (from : r.x0 <ℤ x) (upto : x <ℤ r.x1) (w : ℕ) (width : run r ≡ pos w) where
  abbrev m : ℕ
  m = sizes sloped + 1

  abbrev h : ℤ
  h = height_by_run r x

  abbrev n : ℕ
  n = w * m

  wide : 0 < w
  wide = omega (arith, ints, from, upto, width)

  many : 0 < n
  many = mul-pos {m = w} {n = m} wide (omega arith)

  abbrev high : ℤ
  high = pos m *ℤ h

  abbrev low : ℤ
  low = high -ℤ pos 1

  -- an edge that is as high there is the same
  level-same : (edge e : Edge) (v : ℕ) → Contains sloped edge → HaveSameEnds e edge → run e ≡ pos v → e.x0 ≤ℤ x → x <ℤ e.x1 → (pos w *ℤ height_by_run e x) ≡ (pos v *ℤ h) → HaveSameEnds edge g
  level-same edge e v other_among other_turned other_width e_from e_upto level =
      let behind = natural (x -ℤ r.x0) (omega (arith, ints, from)) in
      let behind_is = behind.is in
      let other_behind = natural (x -ℤ e.x0) (omega (arith, ints, e_from)) in
      let other_is = other_behind.is in
      let some : 0 < v * w = mul-pos {m = v} {n = w} (omega (arith, ints, other_width, e_from, e_upto)) wide in
      let point : RationalPoint = at_column (v * w) x (pos v *ℤ h) some in
      let inside : behind.k ≤ w = omega (arith, ints, behind_is, width, upto) in
      let other_inside : other_behind.k ≤ v = omega (arith, ints, other_is, other_width, e_upto) in
      let share = mul-le_left v inside in
      let other_share = mul-le_left w other_inside in
      let of : IsOf r point = IsOf-column r x (pos v *ℤ h) v w behind.k (v * w) some width behind_is inside refl share refl in
      let other_of : IsOf e point = IsOf-column e x (pos v *ℤ h) w v other_behind.k (v * w) some other_width other_is other_inside (omega arith) (omega (arith, other_share)) (sym level) in
      elim (region.noded edge g point other_among among (IsOf-turned e edge point other_turned other_of) (IsOf-turned r g point turned of)) [
        | inl ends ↦ absurd (inside-no_end r g x turned from upto (IsEnd-x g (v * w) x (pos v *ℤ h) some ends.1))
        | inr same ↦ same
      ]
    where
      mul-le_left : (a : ℕ) {b c : ℕ} → b ≤ c → a * b ≤ a * c
      mul-le_left a is = mul-le-mul_left a is

  -- ---- the heights of other edges, beside that of r and a little less

  abbrev above : RationalPoint
  above = right_of x n high many

  abbrev below : RationalPoint
  below = right_of x n low many

  -- the tests of an edge's height are the same
  test-same : (e : Edge) (v : ℕ) → size e ≤ sizes sloped → run e ≡ pos v → 0 < v → (pos w *ℤ height_by_run e x) ≢ (pos v *ℤ h) → is_lower e x n high ≡ is_lower e x n low
  test-same e v small other_width some differ =
      let a = pos w *ℤ height_by_run e x in
      let b = pos v *ℤ h in
      let left : (pos n *ℤ height_by_run e x) ≡ (pos m *ℤ a) = identity (times (n_of (w * m)) (number (height_by_run e x))) (times (n_of m) (times (n_of w) (number (height_by_run e x)))) (omega arith) in
      let right : (high *ℤ run e) ≡ (pos m *ℤ b) = ap (λ z. high *ℤ z) other_width ∙ identity (times (times (n_of m) (number h)) (n_of v)) (times (n_of m) (times (n_of v) (number h))) (omega arith) in
      let right_low : (low *ℤ run e) ≡ ((pos m *ℤ b) -ℤ pos v) =
      ap (λ z. low *ℤ z) other_width ∙ identity (times (minus (times (n_of m) (number h)) (n_of 1)) (n_of v)) (minus (times (n_of m) (times (n_of v) (number h))) (n_of v)) (omega arith) in
      let width_upto = upto_size (run e) in
      same_test (pos n *ℤ height_by_run e x) (high *ℤ run e) (pos n *ℤ height_by_run e x) (low *ℤ run e)
      (λ first second.
      let a_upto = unscaled m a b (omega arith) (omega (arith, ints, left, right, first)) in
      by_lt_z a b
      (λ less.
      let more = scaled m (a +ℤ pos 1) b (omega (arith, ints, less)) in
      let next = next_times m a in
      omega (arith, ints, more, next, left, right_low, second, width_upto, small, other_width))
      (λ back. differ (omega (arith, ints, a_upto, back))))
      (λ first second. omega (arith, ints, left, right, right_low, first, second))

  -- what another edge counts is the same
  counted-same : (edge e : Edge) → Contains sloped edge → HaveSameEnds e edge → size e ≤ sizes sloped → ¬ (HaveSameEnds edge g) → e.x0 <ℤ e.x1 → counted e above ≡ counted e below
  counted-same edge e other_among other_turned small differ onwards =
      by_lt_z x e.x0
      (λ early. right-none e x n high many early ∙ sym (right-none e x n low many early))
      (λ e_from. by_lt_z x e.x1
      (λ e_upto.
      let v = natural (run e) (omega (arith, ints, onwards)) in
      let is = v.is in
      right-within e x n high many e_from e_upto
      ∙ ap count (test-same e v.k small v.is (omega (arith, ints, onwards, is)) (λ level. differ (level-same edge e v.k other_among other_turned v.is e_from e_upto level)))
      ∙ sym (right-within e x n low many e_from e_upto))
      (λ late. right-over e x n high many late ∙ sym (right-over e x n low many late)))

  under-same : (edge : Edge) → Contains sloped edge → edge.x1 ≢ edge.x0 → ¬ (HaveSameEnds edge g) → under edge above ≡ under edge below
  under-same edge other_among slanted differ =
      let small = size-among sloped edge other_among in
      by_lt_z edge.x0 edge.x1
      (λ onwards.
      let at : edge.x0 ≤ℤ edge.x1 = omega (arith, ints, onwards) in
      under-right edge above at ∙ counted-same edge edge other_among (inl refl) small differ onwards ∙ sym (under-right edge below at))
      (λ upto.
      let back : edge.x1 <ℤ edge.x0 = by_lt_z edge.x1 edge.x0 (λ less. less) (λ from. absurd (slanted (omega (arith, ints, from, upto)))) in
      let reversed_size = size-reversed edge in
      under-left edge above upto
      ∙ ap (λ z. pos 0 -ℤ z) (counted-same edge (reversed edge) other_among (inr refl) (omega (arith, reversed_size, small)) differ back)
      ∙ sym (under-left edge below upto))

  -- r counts once above, and not below
  yes : (a b : ℤ) → a ≤ℤ b → count (int_le a b) ≡ pos 1
  yes a b is = go (int_le a b) refl
    where
      go : (t : Bool) → int_le a b ≡ t → count t ≡ pos 1
      go true e = refl
      go false e = absurd (omega (arith, ints, e, is))

  no : (a b : ℤ) → b <ℤ a → count (int_le a b) ≡ pos 0
  no a b is = go (int_le a b) refl
    where
      go : (t : Bool) → int_le a b ≡ t → count t ≡ pos 0
      go true e = absurd (omega (arith, ints, e, is))
      go false e = refl

  left_is : (pos n *ℤ h) ≡ (pos m *ℤ (pos w *ℤ h))
  left_is = identity (times (n_of (w * m)) (number h)) (times (n_of m) (times (n_of w) (number h))) (omega arith)

  right_is : (high *ℤ run r) ≡ (pos m *ℤ (pos w *ℤ h))
  right_is = ap (λ z. high *ℤ z) width ∙ identity (times (times (n_of m) (number h)) (n_of w)) (times (n_of m) (times (n_of w) (number h))) (omega arith)

  right_low_is : (low *ℤ run r) ≡ ((pos m *ℤ (pos w *ℤ h)) -ℤ pos w)
  right_low_is = ap (λ z. low *ℤ z) width ∙ identity (times (minus (times (n_of m) (number h)) (n_of 1)) (n_of w)) (minus (times (n_of m) (times (n_of w) (number h))) (n_of w)) (omega arith)

  counted-above : counted r above ≡ pos 1
  counted-above =
      let a = left_is in
      let b = right_is in
      right-within r x n high many (omega (arith, ints, from)) upto ∙ yes (pos n *ℤ h) (high *ℤ run r) (omega (arith, ints, a, b))

  counted-below : counted r below ≡ pos 0
  counted-below =
      let a = left_is in
      let b = right_low_is in
      let some = wide in
      right-within r x n low many (omega (arith, ints, from)) upto ∙ no (pos n *ℤ h) (low *ℤ run r) (omega (arith, ints, a, b, some))

  -- so g counts there by 1 more, or by 1 less
  g-step : ((under g above -ℤ under g below) ≡ pos 1) ⊎ ((under g above -ℤ under g below) ≡ (pos 0 -ℤ pos 1))
  g-step = go turned
    where
      onwards : r.x0 ≤ℤ r.x1
      onwards = omega (arith, ints, from, upto)

      go : HaveSameEnds r g → ((under g above -ℤ under g below) ≡ pos 1) ⊎ ((under g above -ℤ under g below) ≡ (pos 0 -ℤ pos 1))
      go (inl same) =
          let first = sym (ap (λ (e : Edge). under e above) same) ∙ under-right r above onwards ∙ counted-above in
          let second = sym (ap (λ (e : Edge). under e below) same) ∙ under-right r below onwards ∙ counted-below in
          inl (omega (arith, ints, first, second))
      go (inr same) =
          let is : reversed g ≡ r = sym same in
          let left : g.x1 ≤ℤ g.x0 = subst (λ (e : Edge). e.x0 ≤ℤ e.x1) same onwards in
          let first = under-left g above left ∙ ap (λ z. pos 0 -ℤ z) (ap (λ (e : Edge). counted e above) is ∙ counted-above) in
          let second = under-left g below left ∙ ap (λ z. pos 0 -ℤ z) (ap (λ (e : Edge). counted e below) is ∙ counted-below) in
          inr (omega (arith, ints, first, second))

  winding-step : (winding sloped above -ℤ winding sloped below) ≡ (under g above -ℤ under g below)
  winding-step =
      ap₂ (λ a b. a -ℤ b) (winding-added sloped above) (winding-added sloped below)
      ∙ added-one above below g sloped among region.distinct
      (λ edge other_among differ. under-same edge other_among (All-contains (λ e. e.x1 ≢ e.x0) sloped edge region.slanted other_among) differ)

  -- where no end of the column lies strictly between y and z, and r passes there, as many end upto y as start
  pub crossed : (y z : ℤ) → (y *ℤ run r) <ℤ h → h <ℤ (z *ℤ run r) → ((point : Point) → IsEndAt sloped region point → point.x ≡ x → (point.y ≤ℤ y) ⊎ (z ≤ℤ point.y)) → flow (is_upto x 1 y) sloped ≡ pos 0
  crossed y z lower higher apart =
      let same_high = column-agree sloped region x 1 n y high (λ point end at. agree_high point.y (apart point end at)) in
      let same_low = column-agree sloped region x 1 n y low (λ point end at. agree_low point.y (apart point end at)) in
      let sum_high = flow-is sloped region x n high many in
      let sum_low = flow-is sloped region x n low many in
      let l = left_of (extent sloped region) x n high many in
      let l_low = left_of (extent sloped region) x n low many in
      let a = bits (winding sloped l) (region.winds l) in
      let b = bits (winding sloped l_low) (region.winds l_low) in
      let c = bits (winding sloped above) (region.winds above) in
      let d = bits (winding sloped below) (region.winds below) in
      let step = winding-step in
      elim g-step [
        | inl up ↦ decide (flow (is_upto x 1 y) sloped) (winding sloped l) (winding sloped l_low) (winding sloped above) (winding sloped below) (same_high ∙ sum_high) (same_low ∙ sum_low) a b c d (inl (step ∙ up))
        | inr down ↦ decide (flow (is_upto x 1 y) sloped) (winding sloped l) (winding sloped l_low) (winding sloped above) (winding sloped below) (same_high ∙ sum_high) (same_low ∙ sum_low) a b c d (inr (step ∙ down))
      ]
    where
      -- q is at most y, as m w q is at most m h
      lower_y : (pos w *ℤ y) <ℤ h
      lower_y = let turn : (y *ℤ run r) ≡ (pos w *ℤ y) = ap (λ z. y *ℤ z) width ∙ identity (times (number y) (n_of w)) (times (n_of w) (number y)) (omega arith) in omega (arith, ints, turn, lower)

      higher_z : h <ℤ (pos w *ℤ z)
      higher_z = let turn : (z *ℤ run r) ≡ (pos w *ℤ z) = ap (λ a. z *ℤ a) width ∙ identity (times (number z) (n_of w)) (times (n_of w) (number z)) (omega arith) in omega (arith, ints, turn, higher)

      multiple : (q : ℤ) → (pos n *ℤ q) ≡ (pos m *ℤ (pos w *ℤ q))
      multiple q = identity (times (n_of (w * m)) (number q)) (times (n_of m) (times (n_of w) (number q))) (omega arith)

      once : (q : ℤ) → (pos 1 *ℤ q) ≡ q
      once q = identity (times (n_of 1) (number q)) (number q) (omega arith)

      -- below and at y
      is_low : (q : ℤ) → q ≤ℤ y → (pos n *ℤ q) ≤ℤ low
      is_low q is =
          let first = scaled w q y is in
          let there = lower_y in
          let second = scaled m ((pos w *ℤ q) +ℤ pos 1) h (omega (arith, ints, first, there)) in
          let next = next_times m (pos w *ℤ q) in
          let same = multiple q in
          omega (arith, ints, second, next, same)

      is_high : (q : ℤ) → z ≤ℤ q → high <ℤ (pos n *ℤ q)
      is_high q is =
          let first = scaled w z q is in
          let there = higher_z in
          let second = scaled m (h +ℤ pos 1) (pos w *ℤ q) (omega (arith, ints, first, there)) in
          let next = next_times m h in
          let same = multiple q in
          omega (arith, ints, second, next, same)

      y_below : y <ℤ z
      y_below =
          by_lt_z y z (λ less. less)
          (λ back. let more = scaled w z y back in let first = lower_y in let second = higher_z in absurd (omega (arith, ints, more, first, second)))

      agree_high : (q : ℤ) → (q ≤ℤ y) ⊎ (z ≤ℤ q) → int_le (pos 1 *ℤ q) y ≡ int_le (pos n *ℤ q) high
      agree_high q (inl is) = let there = is_low q is in let one = once q in same_test (pos 1 *ℤ q) y (pos n *ℤ q) high (λ first second. omega (arith, ints, there, second)) (λ first second. omega (arith, ints, one, is, second))
      agree_high q (inr is) = let there = is_high q is in let one = once q in let apart = y_below in same_test (pos 1 *ℤ q) y (pos n *ℤ q) high (λ first second. omega (arith, ints, one, is, first, apart)) (λ first second. omega (arith, ints, there, first))

      agree_low : (q : ℤ) → (q ≤ℤ y) ⊎ (z ≤ℤ q) → int_le (pos 1 *ℤ q) y ≡ int_le (pos n *ℤ q) low
      agree_low q (inl is) = let there = is_low q is in let one = once q in same_test (pos 1 *ℤ q) y (pos n *ℤ q) low (λ first second. omega (arith, ints, there, second)) (λ first second. omega (arith, ints, one, is, second))
      agree_low q (inr is) = let there = is_high q is in let one = once q in let apart = y_below in same_test (pos 1 *ℤ q) y (pos n *ℤ q) low (λ first second. omega (arith, ints, one, is, first, apart)) (λ first second. omega (arith, ints, there, first))

      decide : (s a b c d : ℤ) → s ≡ (a -ℤ c) → s ≡ (b -ℤ d) → (pos 0 ≤ℤ a) × (a ≤ℤ pos 1) → (pos 0 ≤ℤ b) × (b ≤ℤ pos 1) → (pos 0 ≤ℤ c) × (c ≤ℤ pos 1) → (pos 0 ≤ℤ d) × (d ≤ℤ pos 1)
          → ((c -ℤ d) ≡ pos 1) ⊎ ((c -ℤ d) ≡ (pos 0 -ℤ pos 1)) → s ≡ pos 0
      decide s a b c d first second (a0, a1) (b0, b1) (c0, c1) (d0, d1) (inl up) = omega (arith, ints, first, second, a0, a1, b0, b1, c0, c1, d0, d1, up)
      decide s a b c d first second (a0, a1) (b0, b1) (c0, c1) (d0, d1) (inr down) = omega (arith, ints, first, second, a0, a1, b0, b1, c0, c1, d0, d1, down)
