-- In a column strictly inside a stretch, what lies beyond all its points lies above all edges between them, or below.
use Rattle.std.proofs.Common.{◌≡◌, ◌⊎◌, inl, inr, ℕ, ◌<◌, ℤ, pos, ◌+ℤ◌, ◌-ℤ◌, ◌*ℤ◌, ◌≤ℤ◌, ◌<ℤ◌, List, refl, ap, ◌∙◌, arith}
use Rattle.std.proofs.lemmas.Int.{by_lt_z, ints}
use Rattle.plane.specs.declared.edge.Edge.{Edge}
use Rattle.plane.specs.declared.point.Point.{Point}
use Rattle.plane.specs.Meet.Edges.{IsOf, RationalPoint}
use Rattle.plane.specs.SweepLine.Heights.{height_by_run, run}
use Rattle.plane.proofs.MeetLemmas.Identities.{Term, identity, minus, number, plus, times}
use Rattle.plane.proofs.SweepLineLemmas.Gaps.{product_above}
use Rattle.noding.specs.Windings.{further}
use Rattle.monotone_chains.specs.Stretches.{IsStretch}
use Rattle.noding.proofs.SnapLemmas.Along.{point_at}
use Rattle.noding.proofs.SnapLemmas.Numbers.{n_of, natural}
use Rattle.monotone_chains.proofs.StretchLemmas.Boxes.{IsAmid}
use Rattle.noding.proofs.SnapLemmas.Hulls.{hull-edge}
use Rattle.monotone_chains.proofs.StretchLemmas.Inner.{IsBeyond, amid-left, amid-right}
use Rattle.monotone_chains.proofs.StretchLemmas.NodedNear.{HasEnds}
use Rattle.overlay.proofs.VerticalLemmas.Crossed.{IsOf-column, at_column}

-- (x, y) lies above each point, in the column x, of an edge between two of the points
abbrev pub IsOver : List Point → ℤ → ℤ → Type 0
IsOver points x y = (edge : Edge) (point : RationalPoint) → HasEnds points edge → IsOf edge point → point.x ≡ (pos point.n *ℤ x) → point.y <ℤ (pos point.n *ℤ y)

-- or below
abbrev pub IsUnder : List Point → ℤ → ℤ → Type 0
IsUnder points x y = (edge : Edge) (point : RationalPoint) → HasEnds points edge → IsOf edge point → point.x ≡ (pos point.n *ℤ x) → (pos point.n *ℤ y) <ℤ point.y

-- ---- numbers

-- how far a point of the column lies, by how far (x, y) does
column-reach : (n : ℕ) (u v x y p q : ℤ) → p ≡ (pos n *ℤ x) → ((u *ℤ p) +ℤ (v *ℤ q)) ≤ℤ (pos n *ℤ (((u *ℤ x) +ℤ (v *ℤ y)) -ℤ pos 1)) → (v *ℤ (q -ℤ (pos n *ℤ y))) ≤ℤ (pos 0 -ℤ pos n)
column-reach n u v x y p q at upto =
    let far : Term = plus (times (number u) (number x)) (times (number v) (number y)) in
    let left : ((u *ℤ p) +ℤ (v *ℤ q)) ≡ ((pos n *ℤ ((u *ℤ x) +ℤ (v *ℤ y))) +ℤ (v *ℤ (q -ℤ (pos n *ℤ y)))) =
    ap (λ z. (u *ℤ z) +ℤ (v *ℤ q)) at
    ∙ identity (plus (times (number u) (times (n_of n) (number x))) (times (number v) (number q))) (plus (times (n_of n) far) (times (number v) (minus (number q) (times (n_of n) (number y))))) (omega arith) in
    let right = identity (times (n_of n) (minus far (n_of 1))) (minus (times (n_of n) far) (n_of n)) (omega arith) in
    omega (arith, ints, upto, left, right)

-- a negative product with a positive number, and with a negative one
below-product : (v z : ℤ) → pos 0 <ℤ v → (v *ℤ z) <ℤ pos 0 → z <ℤ pos 0
below-product v z up less = by_lt_z z (pos 0) (λ is. is) (λ from. let more = product_above v z (omega (arith, ints, up)) from in absurd (omega (arith, ints, less, more)))

above-product : (v z : ℤ) → v <ℤ pos 0 → (v *ℤ z) <ℤ pos 0 → pos 0 <ℤ z
above-product v z down less =
    by_lt_z (pos 0) z (λ is. is)
    (λ upto.
    let more = product_above (pos 0 -ℤ v) (pos 0 -ℤ z) (omega (arith, ints, down)) (omega (arith, ints, upto)) in
    let same = identity (times (minus (n_of 0) (number v)) (minus (n_of 0) (number z))) (times (number v) (number z)) (omega arith) in
    absurd (omega (arith, ints, less, more, same)))

-- a way along x that is further isn't back as well
level-out : (u v x y px py qx qy : ℤ) → v ≡ pos 0 → px <ℤ x → x <ℤ qx → ((u *ℤ px) +ℤ (v *ℤ py)) <ℤ ((u *ℤ x) +ℤ (v *ℤ y)) → ((u *ℤ qx) +ℤ (v *ℤ qy)) <ℤ ((u *ℤ x) +ℤ (v *ℤ y)) → ⊥
level-out u v x y px py qx qy none before after first second =
    let one = alone px py first in
    let other = alone qx qy second in
    by_lt_z u (pos 0)
    (λ down. let more = above-product u (px -ℤ x) down (omega (arith, ints, one)) in omega (arith, ints, more, before))
    (λ from. let more = product_above u (qx -ℤ x) from (omega (arith, ints, after)) in omega (arith, ints, more, other))
  where
    alone : (z w : ℤ) → ((u *ℤ z) +ℤ (v *ℤ w)) <ℤ ((u *ℤ x) +ℤ (v *ℤ y)) → (u *ℤ (z -ℤ x)) <ℤ pos 0
    alone z w less =
        let way = identity (minus (plus (times (number u) (number z)) (times (number v) (number w))) (plus (times (number u) (number x)) (times (number v) (number y)))) (plus (times (number u) (minus (number z) (number x))) (times (number v) (minus (number w) (number y)))) (omega arith) in
        let zero : (v *ℤ (w -ℤ y)) ≡ pos 0 = ap (λ a. a *ℤ (w -ℤ y)) none ∙ identity (times (n_of 0) (minus (number w) (number y))) (n_of 0) (omega arith) in
        omega (arith, ints, less, way, zero)

-- ---- above or below

pub beyond-side : (s : List Point) (x y : ℤ) → IsStretch s → IsBeyond s x y → IsAmid s x → IsOver s x y ⊎ IsUnder s x y
beyond-side s x y is beyond amid =
    by_lt_z (pos 0) v
    (λ up. inl (λ edge point ends of at. (let less = below-product v (point.y -ℤ (pos point.n *ℤ y)) up (off edge point ends of at) in omega (arith, ints, less))))
    (λ upto. by_lt_z v (pos 0)
    (λ down. inr (λ edge point ends of at. (let more = above-product v (point.y -ℤ (pos point.n *ℤ y)) down (off edge point ends of at) in omega (arith, ints, more))))
    (λ from.
    let (p, of_p, before) = amid-left s x is amid in
    let (q, of_q, after) = amid-right s x is amid in
    absurd (level-out u v x y p.x p.y q.x q.y (omega (arith, ints, upto, from)) before after (beyond.each p of_p) (beyond.each q of_q))))
  where
    u : ℤ
    u = beyond.u

    v : ℤ
    v = beyond.v

    off : (edge : Edge) (point : RationalPoint) → HasEnds s edge → IsOf edge point → point.x ≡ (pos point.n *ℤ x) → (v *ℤ (point.y -ℤ (pos point.n *ℤ y))) <ℤ pos 0
    off edge point (from, to) of at =
        let inside = hull-edge s edge point from to of u v (further u v (point_at x y) -ℤ pos 1) (λ p held. let less = beyond.each p held in omega (arith, ints, less)) in
        let upto = column-reach point.n u v x y point.x point.y at inside in
        let some = point.positive in
        omega (arith, ints, upto, some)

-- ---- the height of an edge in the column

module _ (s : List Point) (g : Edge) (x y : ℤ) (ends : HasEnds s g) (behind : g.x0 <ℤ x) (before : x <ℤ g.x1) where
  -- the edge's point there
  record Stands : Type 0 where
    w : ℕ
    is : run g ≡ pos w
    some : 0 < w
    of : IsOf g (at_column w x (height_by_run g x) some)

  stands : Stands
  stands =
      let width = natural (run g) (omega (arith, ints, behind, before)) in
      let way = natural (x -ℤ g.x0) (omega (arith, ints, behind)) in
      let width_is = width.is in
      let way_is = way.is in
      let some : 0 < width.k = omega (arith, ints, behind, before, width_is) in record {
        w = width.k;
        is = width.is;
        some = some;
        of = IsOf-column g x (height_by_run g x) 1 width.k way.k width.k some width.is way.is (omega (arith, ints, way_is, width_is, before)) (omega arith) (omega (arith, ints, way_is, width_is, before))
            (identity (plus (times (number g.y0) (minus (number g.x1) (number x))) (times (number g.y1) (minus (number x) (number g.x0)))) (times (n_of 1) (plus (times (number g.y0) (minus (number g.x1) (number x))) (times (number g.y1) (minus (number x) (number g.x0))))) (omega arith));
      }

  by-run : (st : Stands) → (y *ℤ run g) ≡ (pos st.w *ℤ y)
  by-run st = ap (λ z. y *ℤ z) st.is ∙ identity (times (number y) (n_of st.w)) (times (n_of st.w) (number y)) (omega arith)

  pub over-height : IsOver s x y → height_by_run g x <ℤ (y *ℤ run g)
  over-height over =
      let less = over g (at_column stands.w x (height_by_run g x) stands.some) ends stands.of refl in
      let same = by-run stands in
      omega (arith, ints, less, same)

  pub under-height : IsUnder s x y → (y *ℤ run g) <ℤ height_by_run g x
  under-height under =
      let less = under g (at_column stands.w x (height_by_run g x) stands.some) ends stands.of refl in
      let same = by-run stands in
      omega (arith, ints, less, same)
