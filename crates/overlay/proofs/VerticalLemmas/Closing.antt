-- The vertical edges between next ends close the edges that bound a region.
use Rattle.std.proofs.Common.{Bool, List, [], ◌∷◌, ◌++◌, true, inl, inr, ℕ, ℤ, pos, suc, ◌<◌, ◌≤◌, ◌+ℤ◌, ◌-ℤ◌, ◌*ℤ◌, ◌<ℤ◌, ◌≤ℤ◌, ◌≡◌, ◌≢◌, ◌⊎◌, refl, sym, ap, ap₂, ◌∙◌, subst, arith}
use Rattle.std.specs.List.{All, AllPairs, Contains, flat_map}
use Rattle.std.specs.List.Sorted.{IsPermutation, IsSorted}
use Rattle.std.proofs.lemmas.Int.{by_lt_z, clamps, ints}
use Rattle.std.proofs.lemmas.List.Elements.{All-append, All-cons, All-contains, All-head, All-tail, All-weaker, Contains-append_cases, Contains-append_left}
use Rattle.std.proofs.lemmas.List.Kept.{AllPairs-cons}
use Rattle.std.proofs.lemmas.List.Sorted.{All-permutation, Contains-permutation}
use Rattle.plane.specs.declared.edge.Edge.{Edge}
use Rattle.plane.specs.declared.point.Point.{Point}
use Rattle.plane.specs.Meet.Edges.{IsOf, RationalPoint}
use Rattle.plane.specs.Meet.Kinds.{IsEnd}
use Rattle.plane.specs.SweepLine.Heights.{run, height_by_run}
use Rattle.plane.proofs.MeetLemmas.Identities.{identity, minus, number, plus, scaled, times, unscaled}
use Rattle.overlay.specs.Fill.Filled.{AreDistinct, AreNoded, IsEndOfSloped, IsNextInColumn, HaveSameEnds}
use Rattle.overlay.specs.Fill.Verticals.{AreVerticalsOf, BoundRegion, before_all, both_ends, ending, point_of_end, starting, verticals_between}
use Rattle.noding.specs.Meeting.{MeetAtEnds}
use Rattle.plane.specs.Ends.{edge_between, end_of, reversed, start_of}
use Rattle.noding.specs.Windings.{IsClosed, winding}
use Rattle.overlay.specs.contracts.fill.verticals.EndOrd.TheImpl.{ghosts as end_order}
use Rattle.overlay.specs.declared.fill.verticals.End.{End}
use Rattle.noding.proofs.SnapLemmas.Numbers.{n_of, natural}
use Rattle.noding.proofs.SnapLemmas.Reversed.{IsOf-reversed}
use Rattle.noding.proofs.SnapLemmas.Counted.{added}
use Rattle.noding.proofs.SnapLemmas.Windings.{back, winding-append, winding-added}
use Rattle.overlay.proofs.VerticalLemmas.Flows.{flow, is_upto}
use Rattle.overlay.proofs.FillLemmas.Totals.{total-append}
use Rattle.overlay.proofs.FillLemmas.Balance.{carried, carried-counts}
use Rattle.overlay.proofs.FillLemmas.Kept.{same-exchanged}
use Rattle.overlay.proofs.VerticalLemmas.Crossed.{IsEnd-x, IsOf-column, IsOf-turned, at_column, crossed, inside-no_end}
use Rattle.overlay.proofs.VerticalLemmas.Linked.{AreLinks, IsLink, all-links}
use Rattle.overlay.proofs.VerticalLemmas.Order.{Before, Contains-both, Has, Has-from, Rises-sorted, Upto, changed, changed-edges, changed-permutation, every-all, upto_point}
use Rattle.overlay.proofs.VerticalLemmas.Upright.{Upright, Along, mean_from, mean_upto, along, low-end, high-end, upright-same}
use Rattle.noding.proofs.SnapLemmas.Along.{point_at}
use Rattle.overlay.proofs.VerticalLemmas.Region.{IsEndAt, flow-from, flow-top, flow-upto}

-- ---- lists

AllPairs-append : (R : Edge → Edge → Type 0) (xs ys : List Edge) → AllPairs R xs → AllPairs R ys → All (λ x. All (R x) ys) xs → AllPairs R (xs ++ ys)
AllPairs-append R [] ys first second across = second
AllPairs-append R (x ∷ xs) ys first second across =
    AllPairs-cons R x (xs ++ ys)
    (All-append (R x) xs ys (λ i d within. first 0 (suc i) d (omega arith) (omega (arith, within))) (All-head (λ a. All (R a) ys) x xs across))
    (AllPairs-append R xs ys (λ i j d below within. first (suc i) (suc j) d (omega (arith, below)) (omega (arith, within))) second (All-tail (λ a. All (R a) ys) x xs across))

-- ---- the links of a bound region

module _ (sloped : List Edge) (region : BoundRegion sloped) where
  abbrev total : Point → ℤ
  total p = flow (upto_point p) sloped

  abbrev IsEndHere : Point → Type 0
  IsEndHere = IsEndAt sloped region

  upto_one : (p : Point) → total p ≤ℤ pos 1
  upto_one p = flow-upto sloped region p.x 1 p.y (omega arith)

  from_one : (p : Point) → (pos 0 -ℤ pos 1) ≤ℤ total p
  from_one p = flow-from sloped region p.x 1 p.y (omega arith)

  abbrev IsLinkHere : Edge → Type 0
  IsLinkHere = IsLink total IsEndHere upto_one from_one

  -- A link stands in one column.
  record Stands (edge : Edge) : Type 0 where
    x : ℤ
    low : ℤ
    high : ℤ
    rising : low <ℤ high
    low_end : IsEndHere (point_at x low)
    high_end : IsEndHere (point_at x high)
    next : (y : ℤ) → IsEndHere (point_at x y) → (y ≤ℤ low) ⊎ (high ≤ℤ y)
    upright : Upright x low high edge
    some : flow (is_upto x 1 low) sloped ≢ pos 0

  stands : (edge : Edge) → IsLinkHere edge → Stands edge
  stands edge is = go is.rising
    where
      some_flow : total is.low ≢ pos 0
      some_flow none = by is.way
        where
          by : ¬ (((total is.low ≡ pos 1) × (edge ≡ edge_between is.low is.high)) ⊎ ((total is.low ≡ (pos 0 -ℤ pos 1)) × (edge ≡ edge_between is.high is.low)))
          by (inl (one, same)) = omega (arith, ints, one, none)
          by (inr (one, same)) = omega (arith, ints, one, none)

      top : is.low.x <ℤ is.high.x → total is.low ≡ pos 0
      top less =
          flow-top sloped region is.low.x is.low.y
          (λ p end_at at. by p at (is.next p end_at))
        where
          by : (p : Point) → p.x ≡ is.low.x → Upto p is.low ⊎ Upto is.high p → p.y ≤ℤ is.low.y
          by p at (inl (inl before)) = absurd (omega (arith, ints, at, before))
          by p at (inl (inr (same, upto))) = upto
          by p at (inr (inl behind)) = absurd (omega (arith, ints, at, behind, less))
          by p at (inr (inr (same, from))) = absurd (omega (arith, ints, at, same, less))

      go : Before is.low is.high → Stands edge
      go (inl less) = absurd (some_flow (top less))
      go (inr (same, less)) =
          let high_is : is.high ≡ point_at is.low.x is.high.y = ap (λ (a : ℤ). point_at a is.high.y) (sym same) in record {
            x = is.low.x;
            low = is.low.y;
            high = is.high.y;
            rising = less;
            low_end = is.low_end;
            high_end = subst (λ (p : Point). IsEndHere p) high_is is.high_end;
            next = λ y end_at. by y (is.next (point_at is.low.x y) end_at);
            upright = record { way = turn high_is is.way };
            some = some_flow;
          }
        where
          by : (y : ℤ) → Upto (point_at is.low.x y) is.low ⊎ Upto is.high (point_at is.low.x y) → (y ≤ℤ is.low.y) ⊎ (is.high.y ≤ℤ y)
          by y (inl (inl before)) = absurd (omega (arith, ints, before))
          by y (inl (inr (at, upto))) = inl upto
          by y (inr (inl before)) = absurd (omega (arith, ints, before, same))
          by y (inr (inr (at, from))) = inr from

          turn : is.high ≡ point_at is.low.x is.high.y → ((total is.low ≡ pos 1) × (edge ≡ edge_between is.low is.high)) ⊎ ((total is.low ≡ (pos 0 -ℤ pos 1)) × (edge ≡ edge_between is.high is.low))
              → (edge ≡ edge_between (point_at is.low.x is.low.y) (point_at is.low.x is.high.y)) ⊎ (edge ≡ edge_between (point_at is.low.x is.high.y) (point_at is.low.x is.low.y))
          turn high_is (inl (one, way)) = inl (way ∙ ap (λ (p : Point). edge_between is.low p) high_is)
          turn high_is (inr (one, way)) = inr (way ∙ ap (λ (p : Point). edge_between p is.low) high_is)

  -- two links meet only at common ends, or are the same
  links-noded : (one other : Edge) (point : RationalPoint) → Stands one → Stands other → IsOf one point → IsOf other point → MeetAtEnds one other point
  links-noded one other point s t of_one of_other = decide (s.next t.low (subst (λ (x : ℤ). IsEndHere (point_at x t.low)) (sym at) t.low_end)) (t.next s.low (subst (λ (x : ℤ). IsEndHere (point_at x s.low)) at s.low_end)) (s.next t.high (subst (λ (x : ℤ). IsEndHere (point_at x t.high)) (sym at) t.high_end)) (t.next s.high (subst (λ (x : ℤ). IsEndHere (point_at x s.high)) at s.high_end))
    where
      a : Along s.x s.low s.high point
      a = let rising = s.rising in along s.x s.low s.high one point (omega (arith, ints, rising)) s.upright of_one

      b : Along t.x t.low t.high point
      b = let rising = t.rising in along t.x t.low t.high other point (omega (arith, ints, rising)) t.upright of_other

      at : s.x ≡ t.x
      at =
          let first = a.at in
          let second = b.at in
          let upto = unscaled point.n s.x t.x point.positive (omega (arith, ints, first, second)) in
          let from = unscaled point.n t.x s.x point.positive (omega (arith, ints, first, second)) in
          omega (arith, ints, upto, from)

      -- the one is below the other
      above : s.high ≤ℤ t.low → MeetAtEnds one other point
      above is =
          let more = scaled point.n s.high t.low is in
          let upto = a.upto in
          let from = b.from in
          inl (high-end s.x s.low s.high one point s.upright a.at (omega (arith, ints, more, upto, from)), low-end t.x t.low t.high other point t.upright b.at (omega (arith, ints, more, upto, from)))

      below : t.high ≤ℤ s.low → MeetAtEnds one other point
      below is =
          let more = scaled point.n t.high s.low is in
          let upto = b.upto in
          let from = a.from in
          inl (low-end s.x s.low s.high one point s.upright a.at (omega (arith, ints, more, upto, from)), high-end t.x t.low t.high other point t.upright b.at (omega (arith, ints, more, upto, from)))

      decide : (t.low ≤ℤ s.low) ⊎ (s.high ≤ℤ t.low) → (s.low ≤ℤ t.low) ⊎ (t.high ≤ℤ s.low) → (t.high ≤ℤ s.low) ⊎ (s.high ≤ℤ t.high) → (s.high ≤ℤ t.low) ⊎ (t.high ≤ℤ s.high) → MeetAtEnds one other point
      decide (inr is) second third fourth = above is
      decide (inl first) (inr is) third fourth = below is
      decide (inl first) (inl second) (inl is) fourth = below is
      decide (inl first) (inl second) (inr third) (inl is) = above is
      decide (inl first) (inl second) (inr third) (inr fourth) = inr (upright-same s.x s.low s.high t.x t.low t.high one other s.upright t.upright at (omega (arith, ints, first, second)) (omega (arith, ints, third, fourth)))

  -- ---- a link and an edge that isn't vertical

  module _ (edge g r : Edge) (point : RationalPoint) (s : Stands edge) (among : Contains sloped g) (turned : HaveSameEnds r g) (onwards : r.x0 <ℤ r.x1) (of_edge : IsOf edge point) (b : ℕ) (share : b ≤ point.n) (at_x : point.x ≡ ((pos point.n *ℤ r.x0) +ℤ (pos b *ℤ (r.x1 -ℤ r.x0)))) (at_y : point.y ≡ ((pos point.n *ℤ r.y0) +ℤ (pos b *ℤ (r.y1 -ℤ r.y0)))) where
    a : Along s.x s.low s.high point
    a = let rising = s.rising in along s.x s.low s.high edge point (omega (arith, ints, rising)) s.upright of_edge

    from : r.x0 ≤ℤ s.x
    from =
        let first = mean_from point.n b r.x0 r.x1 (omega (arith, ints, onwards)) in
        let at = a.at in
        unscaled point.n r.x0 s.x point.positive (omega (arith, ints, first, at, at_x))

    upto : s.x ≤ℤ r.x1
    upto =
        let first = mean_upto point.n b r.x0 r.x1 share (omega (arith, ints, onwards)) in
        let at = a.at in
        unscaled point.n s.x r.x1 point.positive (omega (arith, ints, first, at, at_x))

    -- the height of r at the column is the point's
    level : (pos point.n *ℤ height_by_run r s.x) ≡ (point.y *ℤ run r)
    level = height_of point.n b s.x point.x point.y r.x0 r.x1 r.y0 r.y1 at_x a.at at_y
      where
        height_of : (n b : ℕ) (x p q x0 x1 y0 y1 : ℤ) → p ≡ ((pos n *ℤ x0) +ℤ (pos b *ℤ (x1 -ℤ x0))) → p ≡ (pos n *ℤ x) → q ≡ ((pos n *ℤ y0) +ℤ (pos b *ℤ (y1 -ℤ y0)))
            → (pos n *ℤ ((y0 *ℤ (x1 -ℤ x)) +ℤ (y1 *ℤ (x -ℤ x0)))) ≡ (q *ℤ (x1 -ℤ x0))
        height_of n b x p q x0 x1 y0 y1 first at second =
            identity (times (n_of n) (plus (times (number y0) (minus (number x1) (number x))) (times (number y1) (minus (number x) (number x0)))))
            (plus (times (number y0) (minus (times (n_of n) (number x1)) (times (n_of n) (number x)))) (times (number y1) (minus (times (n_of n) (number x)) (times (n_of n) (number x0))))) (omega arith)
            ∙ ap (λ z. (y0 *ℤ ((pos n *ℤ x1) -ℤ z)) +ℤ (y1 *ℤ (z -ℤ (pos n *ℤ x0)))) (sym at ∙ first)
            ∙ mean n b x0 x1 y0 y1
            ∙ ap (λ z. z *ℤ (x1 -ℤ x0)) (sym second)
          where
            mean : (n b : ℕ) (x0 x1 y0 y1 : ℤ) → ((y0 *ℤ ((pos n *ℤ x1) -ℤ ((pos n *ℤ x0) +ℤ (pos b *ℤ (x1 -ℤ x0))))) +ℤ (y1 *ℤ (((pos n *ℤ x0) +ℤ (pos b *ℤ (x1 -ℤ x0))) -ℤ (pos n *ℤ x0))))
                ≡ (((pos n *ℤ y0) +ℤ (pos b *ℤ (y1 -ℤ y0))) *ℤ (x1 -ℤ x0))
            mean n b x0 x1 y0 y1 =
                let at = plus (times (n_of n) (number x0)) (times (n_of b) (minus (number x1) (number x0))) in
                identity (plus (times (number y0) (minus (times (n_of n) (number x1)) at)) (times (number y1) (minus at (times (n_of n) (number x0)))))
                (times (plus (times (n_of n) (number y0)) (times (n_of b) (minus (number y1) (number y0)))) (minus (number x1) (number x0)))
                (omega arith)

    -- a run may be left out
    without_run : (n : ℕ) (h p q : ℤ) → pos 0 <ℤ q → (pos n *ℤ (h *ℤ q)) ≡ (p *ℤ q) → p ≡ (pos n *ℤ h)
    without_run n h p q some is =
        let width = natural q (omega (arith, ints, some)) in
        let w = width.is in
        let wide : 0 < width.k = omega (arith, ints, some, w) in
        let left : (pos n *ℤ (h *ℤ q)) ≡ (pos width.k *ℤ (pos n *ℤ h)) =
        identity (times (n_of n) (times (number h) (number q))) (times (number q) (times (n_of n) (number h))) (omega arith) ∙ ap (λ z. z *ℤ (pos n *ℤ h)) w in
        let right : (p *ℤ q) ≡ (pos width.k *ℤ p) = identity (times (number p) (number q)) (times (number q) (number p)) (omega arith) ∙ ap (λ z. z *ℤ p) w in
        let more = unscaled width.k (pos n *ℤ h) p wide (omega (arith, ints, is, left, right)) in
        let less = unscaled width.k p (pos n *ℤ h) wide (omega (arith, ints, is, left, right)) in
        omega (arith, ints, more, less)

    turn_end : IsEnd r point → IsEnd g point
    turn_end is = go turned is
      where
        go : HaveSameEnds r g → IsEnd r point → IsEnd g point
        go (inl same) is = subst (λ (e : Edge). IsEnd e point) same is
        go (inr same) (inl is) = subst (λ (e : Edge). IsEnd e point) (ap reversed same) (inr is)
        go (inr same) (inr is) = subst (λ (e : Edge). IsEnd e point) (ap reversed same) (inl is)

    start_here : IsEndHere (point_at r.x0 r.y0)
    start_here = go turned
      where
        go : HaveSameEnds r g → IsEndHere (point_at r.x0 r.y0)
        go (inl same) = (g, among, inl (ap start_of same))
        go (inr same) = (g, among, inr (ap start_of same))

    end_here : IsEndHere (point_at r.x1 r.y1)
    end_here = go turned
      where
        go : HaveSameEnds r g → IsEndHere (point_at r.x1 r.y1)
        go (inl same) = (g, among, inr (ap end_of same))
        go (inr same) = (g, among, inl (ap end_of same))

    -- an end of r in the column is one of the link's
    of_both : (y : ℤ) → point.y ≡ (pos point.n *ℤ y) → IsEndHere (point_at s.x y) → IsEnd edge point
    of_both y is end_at = go (s.next y end_at)
      where
        go : (y ≤ℤ s.low) ⊎ (s.high ≤ℤ y) → IsEnd edge point
        go (inl low) =
            let more = scaled point.n y s.low low in
            let least = a.from in
            low-end s.x s.low s.high edge point s.upright a.at (omega (arith, ints, more, least, is))
        go (inr high) =
            let more = scaled point.n s.high y high in
            let most = a.upto in
            high-end s.x s.low s.high edge point s.upright a.at (omega (arith, ints, more, most, is))

    at_start : s.x ≡ r.x0 → MeetAtEnds edge g point
    at_start is =
        let h : height_by_run r s.x ≡ (r.y0 *ℤ run r) =
        ap (λ (z : ℤ). height_by_run r z) is
        ∙ identity (plus (times (number r.y0) (minus (number r.x1) (number r.x0))) (times (number r.y1) (minus (number r.x0) (number r.x0)))) (times (number r.y0) (minus (number r.x1) (number r.x0))) (omega arith) in
        let y = without_run point.n r.y0 point.y (run r) (omega (arith, ints, onwards)) (ap (λ z. pos point.n *ℤ z) (sym h) ∙ level) in
        let x = a.at ∙ ap (λ z. pos point.n *ℤ z) is in
        inl (of_both r.y0 y (subst (λ (z : ℤ). IsEndHere (point_at z r.y0)) (sym is) start_here), turn_end (inl (record { x_is = x; y_is = y })))

    at_end : s.x ≡ r.x1 → MeetAtEnds edge g point
    at_end is =
        let h : height_by_run r s.x ≡ (r.y1 *ℤ run r) =
        ap (λ (z : ℤ). height_by_run r z) is
        ∙ identity (plus (times (number r.y0) (minus (number r.x1) (number r.x1))) (times (number r.y1) (minus (number r.x1) (number r.x0)))) (times (number r.y1) (minus (number r.x1) (number r.x0))) (omega arith) in
        let y = without_run point.n r.y1 point.y (run r) (omega (arith, ints, onwards)) (ap (λ z. pos point.n *ℤ z) (sym h) ∙ level) in
        let x = a.at ∙ ap (λ z. pos point.n *ℤ z) is in
        inl (of_both r.y1 y (subst (λ (z : ℤ). IsEndHere (point_at z r.y1)) (sym is) end_here), turn_end (inr (record { x_is = x; y_is = y })))

    module _ (behind : r.x0 <ℤ s.x) (before : s.x <ℤ r.x1) (w : ℕ) (width : run r ≡ pos w) where
      off : (s.x ≡ g.x0) ⊎ (s.x ≡ g.x1) → ⊥
      off = inside-no_end r g s.x turned behind before

      -- r passes no end of the column
      off_ends : (y : ℤ) → IsEndHere (point_at s.x y) → (y *ℤ run r) ≢ height_by_run r s.x
      off_ends y (f, f_among, f_end) passes =
          let way = natural (s.x -ℤ r.x0) (omega (arith, ints, behind)) in
          let way_is = way.is in
          let some : 0 < w = omega (arith, ints, behind, before, width) in
          let q : RationalPoint = at_column w s.x (pos w *ℤ y) some in
          let once : (pos 1 *ℤ height_by_run r s.x) ≡ height_by_run r s.x = identity (times (n_of 1) (number (height_by_run r s.x))) (number (height_by_run r s.x)) (omega arith) in
          let turn : (y *ℤ run r) ≡ (pos w *ℤ y) = ap (λ z. y *ℤ z) width ∙ identity (times (number y) (n_of w)) (times (n_of w) (number y)) (omega arith) in
          let of_r : IsOf r q = IsOf-column r s.x (pos w *ℤ y) 1 w way.k w some width way.is (omega (arith, ints, way_is, width, before)) (omega arith) (omega (arith, ints, way_is, width, before)) (omega (arith, ints, once, turn, passes)) in
          go some (region.noded f g q f_among among (of_f f_end some) (IsOf-turned r g q turned of_r))
        where
          first_share : (c z0 z1 : ℤ) → c ≡ z0 → (pos w *ℤ c) ≡ ((pos w *ℤ z0) +ℤ (pos 0 *ℤ (z1 -ℤ z0)))
          first_share c z0 z1 is = ap (λ z. pos w *ℤ z) is ∙ identity (times (n_of w) (number z0)) (plus (times (n_of w) (number z0)) (times (n_of 0) (minus (number z1) (number z0)))) (omega arith)

          last_share : (c z0 z1 : ℤ) → c ≡ z1 → (pos w *ℤ c) ≡ ((pos w *ℤ z0) +ℤ (pos w *ℤ (z1 -ℤ z0)))
          last_share c z0 z1 is = ap (λ z. pos w *ℤ z) is ∙ identity (times (n_of w) (number z1)) (plus (times (n_of w) (number z0)) (times (n_of w) (minus (number z1) (number z0)))) (omega arith)

          of_f : (point_at s.x y ≡ start_of f) ⊎ (point_at s.x y ≡ end_of f) → (some : 0 < w) → IsOf f (at_column w s.x (pos w *ℤ y) some)
          of_f (inl is) some = (0, record { share = omega arith; x = first_share s.x f.x0 f.x1 (ap (λ (p : Point). p.x) is); y = first_share y f.y0 f.y1 (ap (λ (p : Point). p.y) is) })
          of_f (inr is) some = (w, record { share = omega arith; x = last_share s.x f.x0 f.x1 (ap (λ (p : Point). p.x) is); y = last_share y f.y0 f.y1 (ap (λ (p : Point). p.y) is) })

          same_off : (point_at s.x y ≡ start_of f) ⊎ (point_at s.x y ≡ end_of f) → HaveSameEnds f g → ⊥
          same_off (inl is) (inl same) = off (inl (ap (λ (p : Point). p.x) is ∙ ap (λ (e : Edge). e.x0) same))
          same_off (inl is) (inr same) = off (inr (ap (λ (p : Point). p.x) is ∙ ap (λ (e : Edge). e.x0) same))
          same_off (inr is) (inl same) = off (inr (ap (λ (p : Point). p.x) is ∙ ap (λ (e : Edge). e.x1) same))
          same_off (inr is) (inr same) = off (inl (ap (λ (p : Point). p.x) is ∙ ap (λ (e : Edge). e.x1) same))

          go : (some : 0 < w) → MeetAtEnds f g (at_column w s.x (pos w *ℤ y) some) → ⊥
          go some (inl ends) = off (IsEnd-x g w s.x (pos w *ℤ y) some ends.1)
          go some (inr same) = same_off f_end same

      -- so it would pass strictly between the two, and there is no link there
      not_inside : ⊥
      not_inside =
          let least = scaled w (pos point.n *ℤ s.low) point.y a.from in
          let most = scaled w point.y (pos point.n *ℤ s.high) a.upto in
          let here = level in
          let turn : (point.y *ℤ run r) ≡ (pos w *ℤ point.y) = ap (λ z. point.y *ℤ z) width ∙ identity (times (number point.y) (n_of w)) (times (n_of w) (number point.y)) (omega arith) in
          let low_is : (pos w *ℤ (pos point.n *ℤ s.low)) ≡ (pos point.n *ℤ (s.low *ℤ run r)) =
          identity (times (n_of w) (times (n_of point.n) (number s.low))) (times (n_of point.n) (times (number s.low) (n_of w))) (omega arith) ∙ ap (λ z. pos point.n *ℤ (s.low *ℤ z)) (sym width) in
          let high_is : (pos w *ℤ (pos point.n *ℤ s.high)) ≡ (pos point.n *ℤ (s.high *ℤ run r)) =
          identity (times (n_of w) (times (n_of point.n) (number s.high))) (times (n_of point.n) (times (number s.high) (n_of w))) (omega arith) ∙ ap (λ z. pos point.n *ℤ (s.high *ℤ z)) (sym width) in
          let lower = unscaled point.n (s.low *ℤ run r) (height_by_run r s.x) point.positive (omega (arith, ints, least, here, turn, low_is)) in
          let higher = unscaled point.n (height_by_run r s.x) (s.high *ℤ run r) point.positive (omega (arith, ints, most, here, turn, high_is)) in
          s.some
          (crossed sloped region s.x g r among turned behind before w width s.low s.high
          (by_lt_z (s.low *ℤ run r) (height_by_run r s.x) (λ less. less) (λ back. absurd (off_ends s.low s.low_end (omega (arith, ints, back, lower)))))
          (by_lt_z (height_by_run r s.x) (s.high *ℤ run r) (λ less. less) (λ back. absurd (off_ends s.high s.high_end (omega (arith, ints, back, higher)))))
          (λ p end_at at. s.next p.y (subst (λ (q : Point). IsEndHere q) (ap (λ (z : ℤ). point_at z p.y) at) end_at)))

    turned-noded : MeetAtEnds edge g point
    turned-noded =
        let first = from in
        let last = upto in
        by_lt_z r.x0 s.x
        (λ behind. by_lt_z s.x r.x1
        (λ before. let width = natural (run r) (omega (arith, ints, onwards)) in absurd (not_inside behind before width.k width.is))
        (λ late. at_end (omega (arith, ints, late, last))))
        (λ early. at_start (omega (arith, ints, early, first)))

  sloped-noded : (edge g : Edge) (point : RationalPoint) → Stands edge → Contains sloped g → IsOf edge point → IsOf g point → MeetAtEnds edge g point
  sloped-noded edge g point s among of_edge of_g =
      by_lt_z g.x0 g.x1
      (λ onwards. let at = of_g.1 in turned-noded edge g g point s among (inl refl) onwards of_edge of_g.0 at.share at.x at.y)
      (λ upto.
      let back : g.x1 <ℤ g.x0 = by_lt_z g.x1 g.x0 (λ less. less) (λ from. absurd (All-contains (λ e. e.x1 ≢ e.x0) sloped g region.slanted among (omega (arith, ints, from, upto)))) in
      let of = IsOf-reversed g point of_g in
      let at = of.1 in
      turned-noded edge g (reversed g) point s among (inr refl) back of_edge of.0 at.share at.x at.y)

  MeetAtEnds-sym : (one other : Edge) (point : RationalPoint) → MeetAtEnds one other point → MeetAtEnds other one point
  MeetAtEnds-sym one other point (inl (first, second)) = inl (second, first)
  MeetAtEnds-sym one other point (inr same) = inr (same-exchanged one other same)

  -- ---- all of it, for edges that are links

  -- a link is vertical
  upright-x : (edge : Edge) → Stands edge → edge.x1 ≡ edge.x0
  upright-x edge s = go s.upright.way
    where
      go : (edge ≡ edge_between (point_at s.x s.low) (point_at s.x s.high)) ⊎ (edge ≡ edge_between (point_at s.x s.high) (point_at s.x s.low)) → edge.x1 ≡ edge.x0
      go (inl same) = ap (λ (e : Edge). e.x1) same ∙ sym (ap (λ (e : Edge). e.x0) same)
      go (inr same) = ap (λ (e : Edge). e.x1) same ∙ sym (ap (λ (e : Edge). e.x0) same)

  module _ (edges : List Edge) (each : All Stands edges) where
    abbrev both : List Edge
    both = sloped ++ edges

    upright-all : All (λ edge. edge.x1 ≡ edge.x0) edges
    upright-all = All-weaker Stands (λ edge. edge.x1 ≡ edge.x0) upright-x edges each

    all-noded : AreNoded both
    all-noded one other point first second of_one of_other = go (Contains-append_cases sloped edges one first) (Contains-append_cases sloped edges other second)
      where
        go : Contains sloped one ⊎ Contains edges one → Contains sloped other ⊎ Contains edges other → MeetAtEnds one other point
        go (inl a) (inl b) = region.noded one other point a b of_one of_other
        go (inl a) (inr b) = MeetAtEnds-sym other one point (sloped-noded other one point (All-contains Stands edges other each b) a of_other of_one)
        go (inr a) (inl b) = sloped-noded one other point (All-contains Stands edges one each a) b of_one of_other
        go (inr a) (inr b) = links-noded one other point (All-contains Stands edges one each a) (All-contains Stands edges other each b) of_one of_other

    all-distinct : AllPairs (λ one other. ¬ (HaveSameEnds one other)) edges → AreDistinct both
    all-distinct differ =
        AllPairs-append (λ one other. ¬ (HaveSameEnds one other)) sloped edges region.distinct differ
        (All-weaker (λ edge. edge.x1 ≢ edge.x0) (λ one. All (λ other. ¬ (HaveSameEnds one other)) edges)
        (λ one slanted. All-weaker (λ edge. edge.x1 ≡ edge.x0) (λ other. ¬ (HaveSameEnds one other)) (λ other upright same. slanted (by one other upright same)) edges upright-all)
        sloped region.slanted)
      where
        by : (one other : Edge) → other.x1 ≡ other.x0 → HaveSameEnds one other → one.x1 ≡ one.x0
        by one other upright (inl same) = ap (λ (e : Edge). e.x1) same ∙ upright ∙ sym (ap (λ (e : Edge). e.x0) same)
        by one other upright (inr same) = ap (λ (e : Edge). e.x1) same ∙ sym upright ∙ sym (ap (λ (e : Edge). e.x0) same)

    -- ends of the edges that aren't vertical, as the public definition has them
    to_end : (x y : ℤ) → IsEndHere (point_at x y) → IsEndOfSloped both x y
    to_end x y (edge, among, is) = (edge, Contains-append_left sloped edges edge among, All-contains (λ e. e.x1 ≢ e.x0) sloped edge region.slanted among, go is)
      where
        go : (point_at x y ≡ start_of edge) ⊎ (point_at x y ≡ end_of edge) → (x ≡ edge.x0) × (y ≡ edge.y0) ⊎ (x ≡ edge.x1) × (y ≡ edge.y1)
        go (inl same) = inl (ap (λ (p : Point). p.x) same, ap (λ (p : Point). p.y) same)
        go (inr same) = inr (ap (λ (p : Point). p.x) same, ap (λ (p : Point). p.y) same)

    from_end : (x y : ℤ) → IsEndOfSloped both x y → IsEndHere (point_at x y)
    from_end x y (edge, among, slanted, is) = elim (Contains-append_cases sloped edges edge among) [
      | inl here ↦ (edge, here, go is)
      | inr there ↦ absurd (slanted (All-contains (λ e. e.x1 ≡ e.x0) edges edge upright-all there))
    ]
      where
        go : (x ≡ edge.x0) × (y ≡ edge.y0) ⊎ (x ≡ edge.x1) × (y ≡ edge.y1) → (point_at x y ≡ start_of edge) ⊎ (point_at x y ≡ end_of edge)
        go (inl (first, second)) = inl (ap₂ point_at first second)
        go (inr (first, second)) = inr (ap₂ point_at first second)

    next : (edge : Edge) → Stands edge → IsNextInColumn both edge
    next edge s = go s.upright.way
      where
        go : (edge ≡ edge_between (point_at s.x s.low) (point_at s.x s.high)) ⊎ (edge ≡ edge_between (point_at s.x s.high) (point_at s.x s.low)) → IsNextInColumn both edge
        go (inl same) = subst (IsNextInColumn both) (sym same) (record {
          vertical = refl;
          apart = λ level. (let rising = s.rising in omega (arith, ints, rising, level));
          from = to_end s.x s.low s.low_end;
          to = to_end s.x s.high s.high_end;
          next = λ y end_at above below. (let rising = s.rising in by y (s.next y (from_end s.x y end_at)) (omega (arith, ints, clamps, rising, above)) (omega (arith, ints, clamps, rising, below)));
        })
          where
            by : (y : ℤ) → (y ≤ℤ s.low) ⊎ (s.high ≤ℤ y) → s.low <ℤ y → y <ℤ s.high → ⊥
            by y (inl is) above below = omega (arith, ints, is, above)
            by y (inr is) above below = omega (arith, ints, is, below)
        go (inr same) = subst (IsNextInColumn both) (sym same) (record {
          vertical = refl;
          apart = λ level. (let rising = s.rising in omega (arith, ints, rising, level));
          from = to_end s.x s.high s.high_end;
          to = to_end s.x s.low s.low_end;
          next = λ y end_at above below. (let rising = s.rising in by y (s.next y (from_end s.x y end_at)) (omega (arith, ints, clamps, rising, above)) (omega (arith, ints, clamps, rising, below)));
        })
          where
            by : (y : ℤ) → (y ≤ℤ s.low) ⊎ (s.high ≤ℤ y) → s.low <ℤ y → y <ℤ s.high → ⊥
            by y (inl is) above below = omega (arith, ints, is, above)
            by y (inr is) above below = omega (arith, ints, is, below)

    -- they wind around nothing
    all-wind : (point : RationalPoint) → winding both point ≡ winding sloped point
    all-wind point =
        let none = winding-added edges point ∙ upright-added point edges upright-all in
        let sum = winding-append sloped edges point in
        omega (arith, ints, none, sum)
      where
        upright-added : (point : RationalPoint) (verticals : List Edge) → All (λ edge. edge.x1 ≡ edge.x0) verticals → added verticals point ≡ pos 0
        upright-added point [] all = refl
        upright-added point (edge ∷ verticals) all =
            let upright = All-head (λ (e : Edge). e.x1 ≡ e.x0) edge verticals all in
            let rest = upright-added point verticals (All-tail (λ (e : Edge). e.x1 ≡ e.x0) edge verticals all) in
            let first = back edge point (omega (arith, ints, upright)) in
            let second = back (reversed edge) point (omega (arith, ints, upright)) in
            omega (arith, ints, rest, first, second)

  -- ---- from the sorted ends

  module _ (ends : List End) (moved : IsPermutation (flat_map both_ends sloped) ends) (sorted : IsSorted end_order.cmp ends) where
    changed-is : (test : Point → Bool) → changed test ends ≡ flow test sloped
    changed-is test = changed-permutation test (flat_map both_ends sloped) ends moved ∙ changed-edges test sloped

    everywhere : (edges : List Edge) → flow (λ p. true) edges ≡ pos 0
    everywhere [] = refl
    everywhere (edge ∷ edges) = let rest = everywhere edges in omega (arith, ints, rest)

    has : (p : Point) → IsEndHere p → Has ends p
    has p (edge, among, inl is) = subst (λ (q : Point). Has ends q) (sym is) (Has-from ends (starting edge) (Contains-permutation (flat_map both_ends sloped) ends (starting edge) moved (Contains-both sloped edge among).0))
    has p (edge, among, inr is) = subst (λ (q : Point). Has ends q) (sym is) (Has-from ends (ending edge) (Contains-permutation (flat_map both_ends sloped) ends (ending edge) moved (Contains-both sloped edge among).1))

    all_ends : (edges : List Edge) → ((edge : Edge) → Contains edges edge → Contains sloped edge) → All (λ end. IsEndHere (point_of_end end)) (flat_map both_ends edges)
    all_ends [] among = λ i d within. absurd (omega (arith, within))
    all_ends (edge ∷ edges) among =
        let here = among edge (0, omega arith, refl) in
        All-append (λ end. IsEndHere (point_of_end end)) (both_ends edge) (flat_map both_ends edges)
        (All-cons (λ end. IsEndHere (point_of_end end)) (starting edge) (ending edge ∷ []) (edge, here, inl refl)
        (All-cons (λ end. IsEndHere (point_of_end end)) (ending edge) [] (edge, here, inr refl) (λ i d within. absurd (omega (arith, within)))))
        (all_ends edges (λ other (i, within, is). among other (suc i, omega (arith, within), is)))

    links : AreLinks total IsEndHere upto_one from_one ends (verticals_between (pos 0) before_all ends)
    links =
        all-links total IsEndHere upto_one from_one ends
        (λ p. sym (changed-is (upto_point p)))
        has
        (every-all (λ end. IsEndHere (point_of_end end)) ends (All-permutation (λ end. IsEndHere (point_of_end end)) (flat_map both_ends sloped) ends moved (all_ends sloped (λ edge among. among))))
        (Rises-sorted ends sorted)
        (changed-is (λ p. true) ∙ everywhere sloped)

    all-closed : IsClosed (sloped ++ verticals_between (pos 0) before_all ends)
    all-closed test =
        let both = total-append (carried test) sloped (verticals_between (pos 0) before_all ends) in
        let none = links.closes test in
        let is = changed-is test in
        let counts = carried-counts test (sloped ++ verticals_between (pos 0) before_all ends) in
        omega (arith, ints, both, none, is, counts)

    pub AreVerticalsOf-sorted : AreVerticalsOf sloped (verticals_between (pos 0) before_all ends)
    AreVerticalsOf-sorted =
        let edges = verticals_between (pos 0) before_all ends in
        let each = All-weaker IsLinkHere Stands stands edges links.links in record {
          closed = all-closed;
          noded = all-noded edges each;
          distinct = all-distinct edges each links.differ;
          next = All-weaker Stands (IsNextInColumn (sloped ++ edges)) (next edges each) edges each;
          winds = all-wind edges each;
        }
