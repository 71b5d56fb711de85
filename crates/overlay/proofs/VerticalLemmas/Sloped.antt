-- Where no edge of closed ones is vertical, edges that bound a region and wind by how these do are closed already.
use Rattle.std.proofs.Common.{Bool, List, [], ◌∷◌, ◌++◌, ◌&&◌, true, false, cond, inl, inr, ℕ, zero, suc, ℤ, pos, ◌+◌, ◌<◌, ◌≤◌, ◌+ℤ◌, ◌-ℤ◌, ◌≡◌, refl, sym, ap, ap₂, ◌∙◌, subst, append-nil, arith}
use Rattle.std.specs.List.{Contains}
use Rattle.std.proofs.lemmas.Int.{by_lt_z, ints}
use Rattle.std.proofs.lemmas.List.Elements.{All-nil}
use Rattle.plane.specs.declared.edge.Edge.{Edge}
use Rattle.plane.specs.declared.point.Point.{Point}
use Rattle.plane.specs.Meet.Edges.{RationalPoint}
use Rattle.plane.specs.Ends.{end_of, start_of}
use Rattle.overlay.specs.Fill.Filled.{AreDistinct, AreNoded, IsNextInColumn}
use Rattle.overlay.specs.Fill.Turned.{AreSloped}
use Rattle.overlay.specs.Fill.Verticals.{AreVerticalsOf, BoundRegion}
use Rattle.noding.specs.Windings.{IsClosed, count, winding}
use Rattle.noding.proofs.SnapLemmas.Along.{point_at}
use Rattle.overlay.proofs.FillLemmas.Balance.{balanced, carried-counts}
use Rattle.overlay.proofs.FillLemmas.High.{high-none, top, upto-top}
use Rattle.overlay.proofs.VerticalLemmas.Columns.{left_of, one_some, right_of, size_of, sizes, upto_size}
use Rattle.overlay.proofs.VerticalLemmas.Flows.{flow, flow-agree, is_upto}
use Rattle.overlay.proofs.VerticalLemmas.Order.{Before, upto_point, upto_point-no, upto_point-yes}
use Rattle.overlay.proofs.VerticalLemmas.Region.{Every-from, flow-differs}

-- ---- sets of points, by what is upto points

-- Of two points one is before the other, or they are one.
by_point : {P : Type 0} (p q : Point) → (Before q p → P) → (p ≡ q → P) → (Before p q → P) → P
by_point p q before same behind =
    by_lt_z q.x p.x (λ less. before (inl less))
    (λ from. by_lt_z p.x q.x (λ less. behind (inl less))
    (λ upto.
    let x : p.x ≡ q.x = omega (arith, ints, from, upto) in
    by_lt_z q.y p.y (λ less. before (inr (sym x, less)))
    (λ high. by_lt_z p.y q.y (λ less. behind (inr (x, less)))
    (λ low. let y : p.y ≡ q.y = omega (arith, ints, high, low) in same (ap₂ point_at x y)))))

-- the test of the one point: each is upto the other
abbrev is_at : Point → Point → Bool
is_at p q = upto_point p q && upto_point q p

-- the whole point just below
abbrev below : Point → Point
below p = point_at p.x (p.y -ℤ pos 1)

-- What is upto a point is what is upto the one below it, and the point itself.
at-split : (p q : Point) → count (upto_point p q) ≡ (count (upto_point (below p) q) +ℤ count (is_at p q))
at-split p q = by_point p q before (λ same. subst (λ (r : Point). count (upto_point p r) ≡ (count (upto_point (below p) r) +ℤ count (is_at p r))) same here) behind
  where
    told : (s t u : Bool) → upto_point p q ≡ s → upto_point (below p) q ≡ t → upto_point q p ≡ u → count s ≡ (count t +ℤ count (s && u)) → count (upto_point p q) ≡ (count (upto_point (below p) q) +ℤ count (is_at p q))
    told s t u first second third sum =
        let one = ap count first in
        let two = ap count second in
        let both = ap₂ (λ (a b : Bool). count (a && b)) first third in
        omega (arith, ints, one, two, both, sum)

    before : Before q p → count (upto_point p q) ≡ (count (upto_point (below p) q) +ℤ count (is_at p q))
    before (inl less) = told true true false (upto_point-yes p q (inl less)) (upto_point-yes (below p) q (inl less)) (upto_point-no q p (inl less)) refl
    before (inr (x, less)) =
        told true true false (upto_point-yes p q (inr (x, omega (arith, ints, less)))) (upto_point-yes (below p) q (inr (x, omega (arith, ints, less)))) (upto_point-no q p (inr (x, less))) refl

    here : count (upto_point p p) ≡ (count (upto_point (below p) p) +ℤ count (is_at p p))
    here =
        let yes = upto_point-yes p p (inr (refl, omega (arith, ints))) in
        let no = upto_point-no (below p) p (inr (refl, omega (arith, ints))) in
        let one = ap count yes in
        let none = ap count no in
        let both = ap₂ (λ (a b : Bool). count (a && b)) yes yes in
        omega (arith, ints, one, none, both)

    behind : Before p q → count (upto_point p q) ≡ (count (upto_point (below p) q) +ℤ count (is_at p q))
    behind (inl less) = told false false true (upto_point-no p q (inl less)) (upto_point-no (below p) q (inl less)) (upto_point-yes q p (inl less)) refl
    behind (inr (x, less)) =
        told false false true (upto_point-no p q (inr (x, less))) (upto_point-no (below p) q (inr (x, omega (arith, ints, less)))) (upto_point-yes q p (inr (x, omega (arith, ints, less)))) refl

at-itself : (p : Point) → is_at p p ≡ true
at-itself p = let yes = upto_point-yes p p (inr (refl, omega (arith, ints))) in ap₂ (λ (a b : Bool). a && b) yes yes

at-same : (p q : Point) → is_at p q ≡ true → p ≡ q
at-same p q is = by_point p q (λ before. absurd (no_last (upto_point p q) (upto_point q p) (upto_point-no q p before) is)) (λ same. same) (λ behind. absurd (no_first (upto_point p q) (upto_point q p) (upto_point-no p q behind) is))
  where
    no_first : (a b : Bool) → a ≡ false → (a && b) ≡ true → ⊥
    no_first true b none both = cc
    no_first false b none both = cc

    no_last : (a b : Bool) → b ≡ false → (a && b) ≡ true → ⊥
    no_last true true none both = cc
    no_last true false none both = cc
    no_last false b none both = cc

-- Where the counts of two sets are that of a third, so is what edges carry into them.
flow-sum : (all one other : Point → Bool) → ((p : Point) → count (all p) ≡ (count (one p) +ℤ count (other p))) → (edges : List Edge) → flow all edges ≡ (flow one edges +ℤ flow other edges)
flow-sum all one other splits [] = refl
flow-sum all one other splits (edge ∷ edges) =
    let ends = splits (end_of edge) in
    let starts = splits (start_of edge) in
    let rest = flow-sum all one other splits edges in
    omega (arith, ints, ends, starts, rest)

flow-none : (edges : List Edge) → flow (λ p. false) edges ≡ pos 0
flow-none [] = refl
flow-none (edge ∷ edges) = let rest = flow-none edges in omega (arith, ints, rest)

-- ---- edges that carry nothing into what is upto any point

-- the test without the one point
abbrev without : Point → (Point → Bool) → Point → Bool
without p test q = cond (is_at p q) false (test q)

-- the test without the ends of these edges
abbrev without_ends : List Edge → (Point → Bool) → Point → Bool
without_ends [] test = test
without_ends (edge ∷ edges) test = without (start_of edge) (without (end_of edge) (without_ends edges test))

without-at : (p q : Point) (test : Point → Bool) → p ≡ q → without p test q ≡ false
without-at p q test same = ap (λ (t : Bool). cond t false (test q)) (subst (λ (r : Point). is_at p r ≡ true) same (at-itself p))

without-false : (p q : Point) (test : Point → Bool) → test q ≡ false → without p test q ≡ false
without-false p q test none = go (is_at p q)
  where
    go : (t : Bool) → cond t false (test q) ≡ false
    go true = refl
    go false = none

-- no end of the edges is left
none-left : (edges : List Edge) (test : Point → Bool) (edge : Edge) → Contains edges edge → (without_ends edges test (start_of edge) ≡ false) × (without_ends edges test (end_of edge) ≡ false)
none-left [] test edge (i, within, is) = absurd (omega (arith, within))
none-left (first ∷ edges) test edge (zero, within, is) =
    let rest = without (end_of first) (without_ends edges test) in (
      without-at (start_of first) (start_of edge) rest (ap start_of is),
      without-false (start_of first) (end_of edge) rest (without-at (end_of first) (end_of edge) (without_ends edges test) (ap end_of is)),
    )
none-left (first ∷ edges) test edge (suc i, within, is) =
    let later = none-left edges test edge (i, omega (arith, within), is) in
    let rest = without (end_of first) (without_ends edges test) in (
      without-false (start_of first) (start_of edge) rest (without-false (end_of first) (start_of edge) (without_ends edges test) later.0),
      without-false (start_of first) (end_of edge) rest (without-false (end_of first) (end_of edge) (without_ends edges test) later.1),
    )

-- Edges are closed that carry nothing into what is upto any point: nothing into any point alone, so into a set as much as into it
-- without all their ends.
module _ (edges : List Edge) (level : (p : Point) → flow (upto_point p) edges ≡ pos 0) where
  at-none : (p : Point) → flow (is_at p) edges ≡ pos 0
  at-none p =
      let sum = flow-sum (upto_point p) (upto_point (below p)) (is_at p) (at-split p) edges in
      let all = level p in
      let less = level (below p) in
      omega (arith, ints, sum, all, less)

  without-same : (p : Point) (test : Point → Bool) → flow (without p test) edges ≡ flow test edges
  without-same p test = go (test p) refl
    where
      go : (t : Bool) → test p ≡ t → flow (without p test) edges ≡ flow test edges
      go true here =
          let sum = flow-sum test (without p test) (is_at p) (λ q. by q (is_at p q) refl) edges in
          let none = at-none p in
          omega (arith, ints, sum, none)
        where
          by : (q : Point) (t : Bool) → is_at p q ≡ t → count (test q) ≡ (count (cond t false (test q)) +ℤ count t)
          by q true at = ap (λ (r : Point). count (test r)) (sym (at-same p q at)) ∙ ap count here
          by q false at = omega (arith, ints)
      go false here =
          let sum = flow-sum test (without p test) (λ q. false) (λ q. by q (is_at p q) refl) edges in
          let none = flow-none edges in
          omega (arith, ints, sum, none)
        where
          by : (q : Point) (t : Bool) → is_at p q ≡ t → count (test q) ≡ (count (cond t false (test q)) +ℤ pos 0)
          by q true at = ap (λ (r : Point). count (test r)) (sym (at-same p q at)) ∙ ap count here
          by q false at = omega (arith, ints)

  ends-same : (some : List Edge) (test : Point → Bool) → flow (without_ends some test) edges ≡ flow test edges
  ends-same [] test = refl
  ends-same (edge ∷ some) test =
      without-same (start_of edge) (without (end_of edge) (without_ends some test)) ∙ without-same (end_of edge) (without_ends some test) ∙ ends-same some test

  level-closed : IsClosed edges
  level-closed test =
      let none = sym (ends-same edges test)
      ∙ flow-agree (without_ends edges test) (λ p. false) edges
      (Every-from (λ edge. (without_ends edges test (start_of edge) ≡ false) × (without_ends edges test (end_of edge) ≡ false)) edges (none-left edges test))
      ∙ flow-none edges in
      let counts = carried-counts test edges in
      omega (arith, ints, none, counts)

-- ---- edges that bound a region

-- Edges that bound a region and are closed have no vertical edges that close them.
closed-alone : (sloped : List Edge) → BoundRegion sloped → IsClosed sloped → AreVerticalsOf sloped []
closed-alone sloped region closed = record {
  closed = subst IsClosed (sym (append-nil sloped)) closed;
  noded = subst AreNoded (sym (append-nil sloped)) region.noded;
  distinct = subst AreDistinct (sym (append-nil sloped)) region.distinct;
  next = All-nil (IsNextInColumn (sloped ++ []));
  winds = λ point. ap (λ (edges : List Edge). winding edges point) (append-nil sloped);
}

-- Closed edges that aren't vertical wind left of a column as they do right of it.
sides-same : (k : ℕ) (edges : List Edge) → sizes edges + size_of (top edges) ≤ k → IsClosed edges → AreSloped edges → (x : ℤ) (n : ℕ) (y : ℤ) (some : 0 < n) → winding edges (left_of k x n y some) ≡ winding edges (right_of x n y some)
sides-same k edges small closed sloped x n y some =
    let highest = upto_size (top edges) in
    let differs = flow-differs k edges (top edges) (omega (arith, ints, highest, small)) (λ point high. high-none (top edges) point high edges closed (upto-top edges)) (omega (arith, small)) sloped x n y some in
    let none = balanced edges closed (is_upto x n y) in
    omega (arith, ints, differs, none)

-- Edges that bound a region, and wind by how closed edges do of which none is vertical, have no vertical edges that close them:
-- they wind alike left and right of each column, so they carry nothing into what is upto any point.
module _ (edges subject clip : List Edge) (region : BoundRegion edges) (closed : IsClosed subject) (clip_closed : IsClosed clip) (sloped : AreSloped subject) (clip_sloped : AreSloped clip) (result : ℤ → ℤ → ℤ)
    (winds : (point : RationalPoint) → winding edges point ≡ result (winding subject point) (winding clip point)) where
  -- enough for all three
  abbrev extent : ℕ
  extent = (sizes edges + size_of region.bound) + ((sizes subject + size_of (top subject)) + (sizes clip + size_of (top clip)))

  both-same : (x : ℤ) (n : ℕ) (y : ℤ) (some : 0 < n) → winding edges (left_of extent x n y some) ≡ winding edges (right_of x n y some)
  both-same x n y some =
      winds (left_of extent x n y some)
      ∙ ap₂ result (sides-same extent subject (omega arith) closed sloped x n y some) (sides-same extent clip (omega arith) clip_closed clip_sloped x n y some)
      ∙ sym (winds (right_of x n y some))

  level-all : (p : Point) → flow (upto_point p) edges ≡ pos 0
  level-all p =
      let highest = upto_size region.bound in
      let differs = flow-differs extent edges region.bound (omega (arith, ints, highest)) region.outside (omega arith) region.slanted p.x 1 p.y one_some in
      let same = both-same p.x 1 p.y one_some in
      omega (arith, ints, differs, same)

  pub result-alone : AreVerticalsOf edges []
  result-alone = closed-alone edges region (level-closed edges level-all)
