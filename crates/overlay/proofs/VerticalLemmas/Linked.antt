-- The vertical edges between next ends: each goes between two points that are next to each other, and they close the edges.
use Rattle.std.proofs.Common.{Bool, List, [], ◌∷◌, ◌++◌, true, false, cond, inl, inr, ℤ, pos, ◌+ℤ◌, ◌-ℤ◌, ◌<ℤ◌, ◌≤ℤ◌, ◌≡◌, ◌≢◌, ◌⊎◌, ◌&&◌, Option, Some, None, refl, sym, ap, ap₂, ◌∙◌, subst, arith}
use Rattle.std.specs.Int.Signed.{lt_z}
use Rattle.std.specs.List.{All, AllPairs}
use Rattle.std.specs.Option.{option_to_list}
use Rattle.std.specs.Ordering.{int_eq}
use Rattle.std.proofs.lemmas.Bool.Decides.{Decides-int_eq}
use Rattle.std.proofs.lemmas.Int.{ints}
use Rattle.std.proofs.lemmas.List.Elements.{All-cons, All-nil, All-weaker}
use Rattle.std.proofs.lemmas.List.Kept.{AllPairs-cons}
use Rattle.plane.specs.declared.edge.Edge.{Edge}
use Rattle.plane.specs.declared.point.Point.{Point}
use Rattle.overlay.specs.Fill.Verticals.{before_all, point_of_end, vertical_between, verticals_between}
use Rattle.overlay.specs.declared.fill.verticals.End.{End}
use Rattle.overlay.specs.Fill.Filled.{HaveSameEnds}
use Rattle.plane.specs.Ends.{edge_between}
use Rattle.noding.specs.Windings.{count}
use Rattle.noding.proofs.SnapLemmas.Along.{point_at}
use Rattle.overlay.proofs.VerticalLemmas.Flows.{flow}
use Rattle.overlay.proofs.FillLemmas.Balance.{carried}
use Rattle.overlay.proofs.VerticalLemmas.Order.{Before, Before-of, Before-upto, EveryEnd, Has, Rises, Upto, Upto-itself, Upto-trans, changed, changed-none, upto_point, upto_point-yes}

-- ---- what stands between two ends

-- nothing, or an edge up by a sum above 0, or an edge down by one below 0
data Between (sum : ℤ) (low high : End) : Type 0 where
  at_one : point_of_end low ≡ point_of_end high → vertical_between sum low high ≡ None → Between sum low high
  level : sum ≡ pos 0 → vertical_between sum low high ≡ None → Between sum low high
  up : pos 0 <ℤ sum → point_of_end low ≢ point_of_end high → vertical_between sum low high ≡ Some (edge_between (point_of_end low) (point_of_end high)) → Between sum low high
  down : sum <ℤ pos 0 → point_of_end low ≢ point_of_end high → vertical_between sum low high ≡ Some (edge_between (point_of_end high) (point_of_end low)) → Between sum low high

between : (sum : ℤ) (low high : End) → Between sum low high
between sum low high = go (int_eq low.x high.x) (int_eq low.y high.y) refl refl
  where
    rest : int_eq low.x high.x && int_eq low.y high.y ≡ false → point_of_end low ≢ point_of_end high → Between sum low high
    rest apart differ = by (lt_z (pos 0) sum) (lt_z sum (pos 0)) refl refl
      where
        start : vertical_between sum low high ≡ cond (lt_z (pos 0) sum) (Some (edge_between (point_of_end low) (point_of_end high))) (cond (lt_z sum (pos 0)) (Some (edge_between (point_of_end high) (point_of_end low))) None)
        start = ap (λ (t : Bool). cond t None (cond (lt_z (pos 0) sum) (Some (edge_between (point_of_end low) (point_of_end high))) (cond (lt_z sum (pos 0)) (Some (edge_between (point_of_end high) (point_of_end low))) None))) apart

        by : (s t : Bool) → lt_z (pos 0) sum ≡ s → lt_z sum (pos 0) ≡ t → Between sum low high
        by true t e f = up (omega (arith, ints, e)) differ (start ∙ ap (λ (s : Bool). cond s (Some (edge_between (point_of_end low) (point_of_end high))) (cond (lt_z sum (pos 0)) (Some (edge_between (point_of_end high) (point_of_end low))) None)) e)
        by false true e f = down (omega (arith, ints, f)) differ (start ∙ ap₂ (λ (s t : Bool). cond s (Some (edge_between (point_of_end low) (point_of_end high))) (cond t (Some (edge_between (point_of_end high) (point_of_end low))) None)) e f)
        by false false e f = level (omega (arith, ints, e, f)) (start ∙ ap₂ (λ (s t : Bool). cond s (Some (edge_between (point_of_end low) (point_of_end high))) (cond t (Some (edge_between (point_of_end high) (point_of_end low))) None)) e f)

    no_true : {a b : ℤ} → int_eq a b ≡ false → a ≢ b
    no_true {a} {b} is same = let yes = (Decides-int_eq a b).1 same in let both = sym is ∙ yes in cc

    go : (s t : Bool) → int_eq low.x high.x ≡ s → int_eq low.y high.y ≡ t → Between sum low high
    go true true e f =
        at_one (ap₂ point_at ((Decides-int_eq low.x high.x).0 e) ((Decides-int_eq low.y high.y).0 f))
        (ap₂ (λ (s t : Bool). cond (s && t) None (cond (lt_z (pos 0) sum) (Some (edge_between (point_of_end low) (point_of_end high))) (cond (lt_z sum (pos 0)) (Some (edge_between (point_of_end high) (point_of_end low))) None))) e f)
    go true false e f = rest (ap₂ (λ (s t : Bool). s && t) e f) (λ same. no_true f (ap (λ (p : Point). p.y) same))
    go false t e f = rest (ap (λ (s : Bool). s && int_eq low.y high.y) e) (λ same. no_true e (ap (λ (p : Point). p.x) same))

-- ---- along all ends

-- The sums upto points, of which it is known that each is 1, 0 or -1, and which points are ends.
module _ (total : Point → ℤ) (IsEndAt : Point → Type 0) (upto_one : (p : Point) → total p ≤ℤ pos 1) (from_one : (p : Point) → (pos 0 -ℤ pos 1) ≤ℤ total p) where
  -- The edge goes between two ends, with none between them, upwards where the sum upto the lower one is 1 and downwards where
  -- it is -1.
  pub record IsLink (edge : Edge) : Type 0 where
    pub low : Point
    pub high : Point
    pub low_end : IsEndAt low
    pub high_end : IsEndAt high
    pub rising : Before low high
    pub next : (p : Point) → IsEndAt p → Upto p low ⊎ Upto high p
    pub way : ((total low ≡ pos 1) × (edge ≡ edge_between low high)) ⊎ ((total low ≡ (pos 0 -ℤ pos 1)) × (edge ≡ edge_between high low))

  -- The sum so far, the last end, and the ends that are left.
  pub record IsAlong (sum : ℤ) (last : End) (ends : List End) : Type 0 where
    pub tells : (p : Point) → Upto (point_of_end last) p → total p ≡ (sum +ℤ changed (upto_point p) ends)
    pub others : (p : Point) → IsEndAt p → Upto p (point_of_end last) ⊎ Has ends p
    pub here : IsEndAt (point_of_end last)
    pub there : EveryEnd (λ end. IsEndAt (point_of_end end)) ends
    pub behind : EveryEnd (λ end. Upto (point_of_end last) (point_of_end end)) ends
    pub rises : Rises ends

  upto_of : (p : Point) (end : End) (ends : List End) → EveryEnd (λ later. Upto (point_of_end end) (point_of_end later)) ends → Upto p (point_of_end end) → EveryEnd (λ later. Upto p (point_of_end later)) ends
  upto_of p end [] behind upto = tt
  upto_of p end (later ∷ ends) (first, behind) upto = (Upto-trans p (point_of_end end) (point_of_end later) upto first, upto_of p end ends behind upto)

  before_of : (p : Point) (end : End) (ends : List End) → EveryEnd (λ later. Upto (point_of_end end) (point_of_end later)) ends → Before p (point_of_end end) → EveryEnd (λ later. Before p (point_of_end later)) ends
  before_of p end [] behind before = tt
  before_of p end (later ∷ ends) (first, behind) before = (Before-upto p (point_of_end end) (point_of_end later) before first, before_of p end ends behind before)

  has_behind : (p q : Point) (ends : List End) → EveryEnd (λ later. Upto q (point_of_end later)) ends → Has ends p → Upto q p
  has_behind p q [] behind is = absurd is
  has_behind p q (end ∷ ends) (first, behind) (inl is) = subst (λ (a : Point). Upto q a) is first
  has_behind p q (end ∷ ends) (first, behind) (inr is) = has_behind p q ends behind is

  along-next : (sum : ℤ) (last end : End) (ends : List End) → IsAlong sum last (end ∷ ends) → IsAlong (sum +ℤ end.change) end ends
  along-next sum last end ends is = record {
    tells = λ p upto.
        (let all = is.tells p (Upto-trans (point_of_end last) (point_of_end end) p is.behind.0 upto) in
        let first = ap (λ (t : Bool). cond t end.change (pos 0)) (upto_point-yes p (point_of_end end) upto) in
        omega (arith, ints, all, first));
    others = λ p end_at. elim (is.others p end_at) [
      | inl upto ↦ inl (Upto-trans p (point_of_end last) (point_of_end end) upto is.behind.0)
      | inr (inl same) ↦ inl (subst (λ (q : Point). Upto q (point_of_end end)) same (Upto-itself (point_of_end end)))
      | inr (inr later) ↦ inr later
    ];
    here = is.there.0;
    there = is.there.1;
    behind = is.rises.0;
    rises = is.rises.1;
  }

  -- where the two points differ, the sum is that upto the last end
  sum-is : (sum : ℤ) (last end : End) (ends : List End) → IsAlong sum last (end ∷ ends) → Before (point_of_end last) (point_of_end end) → total (point_of_end last) ≡ sum
  sum-is sum last end ends is before =
      let all = is.tells (point_of_end last) (Upto-itself (point_of_end last)) in
      let none = changed-none (point_of_end last) (end ∷ ends) (before, before_of (point_of_end last) end ends is.rises.0 before) in
      omega (arith, ints, all, none)

  link : (sum : ℤ) (last end : End) (ends : List End) (is : IsAlong sum last (end ∷ ends)) → Before (point_of_end last) (point_of_end end) → (edge : Edge)
      → ((total (point_of_end last) ≡ pos 1) × (edge ≡ edge_between (point_of_end last) (point_of_end end))) ⊎ ((total (point_of_end last) ≡ (pos 0 -ℤ pos 1)) × (edge ≡ edge_between (point_of_end end) (point_of_end last))) → IsLink edge
  link sum last end ends is before edge way = record {
    low = point_of_end last;
    high = point_of_end end;
    low_end = is.here;
    high_end = is.there.0;
    rising = before;
    next = λ p end_at. elim (is.others p end_at) [
      | inl upto ↦ inl upto
      | inr (inl same) ↦ inr (subst (λ (q : Point). Upto (point_of_end end) q) same (Upto-itself (point_of_end end)))
      | inr (inr later) ↦ inr (has_behind p (point_of_end end) ends is.rises.0 later)
    ];
    way = way;
  }

  -- a link that isn't before a point
  abbrev pub IsBehind : Point → Edge → Type 0
  IsBehind p edge = (is : IsLink edge) × Upto p is.low

  behind-earlier : (p q : Point) → Upto p q → (edge : Edge) → IsBehind q edge → IsBehind p edge
  behind-earlier p q upto edge (is, later) = (is, Upto-trans p q is.low upto later)

  -- ---- two links don't have the same ends

  sums : (edge : Edge) (is : IsLink edge) → ((edge.x0 +ℤ edge.x1) ≡ (is.low.x +ℤ is.high.x)) × ((edge.y0 +ℤ edge.y1) ≡ (is.low.y +ℤ is.high.y))
  sums edge is = go is.way
    where
      go : ((total is.low ≡ pos 1) × (edge ≡ edge_between is.low is.high)) ⊎ ((total is.low ≡ (pos 0 -ℤ pos 1)) × (edge ≡ edge_between is.high is.low))
          → ((edge.x0 +ℤ edge.x1) ≡ (is.low.x +ℤ is.high.x)) × ((edge.y0 +ℤ edge.y1) ≡ (is.low.y +ℤ is.high.y))
      go (inl (one, same)) = (ap (λ (e : Edge). e.x0 +ℤ e.x1) same, ap (λ (e : Edge). e.y0 +ℤ e.y1) same)
      go (inr (one, same)) =
          let x = ap (λ (e : Edge). e.x0 +ℤ e.x1) same in
          let y = ap (λ (e : Edge). e.y0 +ℤ e.y1) same in
          (omega (arith, ints, x), omega (arith, ints, y))

  same_sums : (one other : Edge) → HaveSameEnds one other → ((one.x0 +ℤ one.x1) ≡ (other.x0 +ℤ other.x1)) × ((one.y0 +ℤ one.y1) ≡ (other.y0 +ℤ other.y1))
  same_sums one other (inl same) = (ap (λ (e : Edge). e.x0 +ℤ e.x1) same, ap (λ (e : Edge). e.y0 +ℤ e.y1) same)
  same_sums one other (inr same) =
      let x = ap (λ (e : Edge). e.x0 +ℤ e.x1) same in
      let y = ap (λ (e : Edge). e.y0 +ℤ e.y1) same in
      (omega (arith, ints, x), omega (arith, ints, y))

  four_apart : (a b c d : Point) → Before a b → Upto b c → Before c d → (a.x +ℤ b.x) ≡ (c.x +ℤ d.x) → (a.y +ℤ b.y) ≡ (c.y +ℤ d.y) → ⊥
  four_apart a b c d (inl p) (inl q) (inl r) x y = omega (arith, ints, p, q, r, x)
  four_apart a b c d (inl p) (inl q) (inr (r, s)) x y = omega (arith, ints, p, q, r, x)
  four_apart a b c d (inl p) (inr (q, t)) (inl r) x y = omega (arith, ints, p, q, r, x)
  four_apart a b c d (inl p) (inr (q, t)) (inr (r, s)) x y = omega (arith, ints, p, q, r, x)
  four_apart a b c d (inr (p, u)) (inl q) (inl r) x y = omega (arith, ints, p, q, r, x)
  four_apart a b c d (inr (p, u)) (inl q) (inr (r, s)) x y = omega (arith, ints, p, q, r, x)
  four_apart a b c d (inr (p, u)) (inr (q, t)) (inl r) x y = omega (arith, ints, p, q, r, x)
  four_apart a b c d (inr (p, u)) (inr (q, t)) (inr (r, s)) x y = omega (arith, ints, u, t, s, y)

  links-differ : (edge other : Edge) (is : IsLink edge) → IsBehind is.high other → ¬ (HaveSameEnds edge other)
  links-differ edge other is (other_is, behind) same =
      let first = sums edge is in
      let second = sums other other_is in
      let both = same_sums edge other same in
      four_apart is.low is.high other_is.low other_is.high is.rising behind other_is.rising (sym first.0 ∙ both.0 ∙ second.0) (sym first.1 ∙ both.1 ∙ second.1)

  -- ---- all of them

  -- what they carry into a set of points makes up for what the ends change there
  closes_last : (a : Bool) (sum : ℤ) → sum ≡ pos 0 → pos 0 ≡ ((pos 0 -ℤ cond a sum (pos 0)) -ℤ pos 0)
  closes_last true sum is = omega (arith, ints, is)
  closes_last false sum is = omega (arith, ints)

  closes_none : (a b : Bool) (sum change v rest : ℤ) → (a ≡ b) ⊎ (sum ≡ pos 0) → v ≡ ((pos 0 -ℤ cond b (sum +ℤ change) (pos 0)) -ℤ rest) → v ≡ ((pos 0 -ℤ cond a sum (pos 0)) -ℤ (cond b change (pos 0) +ℤ rest))
  closes_none true true sum change v rest none is = omega (arith, ints, is)
  closes_none false false sum change v rest none is = omega (arith, ints, is)
  closes_none true false sum change v rest (inl same) is = cc
  closes_none true false sum change v rest (inr none) is = omega (arith, ints, is, none)
  closes_none false true sum change v rest (inl same) is = cc
  closes_none false true sum change v rest (inr none) is = omega (arith, ints, is, none)

  closes_up : (a b : Bool) (sum change v rest : ℤ) → sum ≡ pos 1 → v ≡ ((pos 0 -ℤ cond b (sum +ℤ change) (pos 0)) -ℤ rest) → ((count b -ℤ count a) +ℤ v) ≡ ((pos 0 -ℤ cond a sum (pos 0)) -ℤ (cond b change (pos 0) +ℤ rest))
  closes_up true true sum change v rest one is = omega (arith, ints, is, one)
  closes_up false false sum change v rest one is = omega (arith, ints, is, one)
  closes_up true false sum change v rest one is = omega (arith, ints, is, one)
  closes_up false true sum change v rest one is = omega (arith, ints, is, one)

  closes_down : (a b : Bool) (sum change v rest : ℤ) → sum ≡ (pos 0 -ℤ pos 1) → v ≡ ((pos 0 -ℤ cond b (sum +ℤ change) (pos 0)) -ℤ rest) → ((count a -ℤ count b) +ℤ v) ≡ ((pos 0 -ℤ cond a sum (pos 0)) -ℤ (cond b change (pos 0) +ℤ rest))
  closes_down true true sum change v rest one is = omega (arith, ints, is, one)
  closes_down false false sum change v rest one is = omega (arith, ints, is, one)
  closes_down true false sum change v rest one is = omega (arith, ints, is, one)
  closes_down false true sum change v rest one is = omega (arith, ints, is, one)

  abbrev everywhere : Point → Bool
  everywhere p = true

  record Made (sum : ℤ) (last : End) (ends : List End) (edges : List Edge) : Type 0 where
    links : All (IsBehind (point_of_end last)) edges
    differ : AllPairs (λ one other. ¬ (HaveSameEnds one other)) edges
    closes : (test : Point → Bool) → flow test edges ≡ ((pos 0 -ℤ cond (test (point_of_end last)) sum (pos 0)) -ℤ changed test ends)

  module _ (sum : ℤ) (last end : End) (ends : List End) (is : IsAlong sum last (end ∷ ends)) (edges : List Edge) (made : Made (sum +ℤ end.change) end ends edges) where
    earlier : All (IsBehind (point_of_end last)) edges
    earlier = All-weaker (IsBehind (point_of_end end)) (IsBehind (point_of_end last)) (behind-earlier (point_of_end last) (point_of_end end) is.behind.0) edges made.links

    made-none : (point_of_end last ≡ point_of_end end) ⊎ (sum ≡ pos 0) → Made sum last (end ∷ ends) edges
    made-none none = record {
      links = earlier;
      differ = made.differ;
      closes = λ test. closes_none (test (point_of_end last)) (test (point_of_end end)) sum end.change (flow test edges) (changed test ends) (same test none) (made.closes test);
    }
      where
        same : (test : Point → Bool) → (point_of_end last ≡ point_of_end end) ⊎ (sum ≡ pos 0) → (test (point_of_end last) ≡ test (point_of_end end)) ⊎ (sum ≡ pos 0)
        same test (inl alike) = inl (ap test alike)
        same test (inr nothing) = inr nothing

    made-some : (edge : Edge) (one : IsLink edge) → one.low ≡ point_of_end last → one.high ≡ point_of_end end → ((test : Point → Bool) → (carried test edge +ℤ flow test edges) ≡ ((pos 0 -ℤ cond (test (point_of_end last)) sum (pos 0)) -ℤ changed test (end ∷ ends))) → Made sum last (end ∷ ends) (edge ∷ edges)
    made-some edge one low_is high_is carries = record {
      links = All-cons (IsBehind (point_of_end last)) edge edges (one, subst (λ (p : Point). Upto p one.low) low_is (Upto-itself one.low)) earlier;
      differ = AllPairs-cons (λ one other. ¬ (HaveSameEnds one other)) edge edges
          (All-weaker (IsBehind (point_of_end end)) (λ other. ¬ (HaveSameEnds edge other)) (λ other behind. links-differ edge other one (subst (λ (p : Point). IsBehind p other) (sym high_is) behind)) edges made.links)
          made.differ;
      closes = carries;
    }

    -- by what stands between them
    made-step : Between sum last end → Made sum last (end ∷ ends) (option_to_list (vertical_between sum last end) ++ edges)
    unfolding link
    made-step (at_one same none) = subst (λ (found : Option Edge). Made sum last (end ∷ ends) (option_to_list found ++ edges)) (sym none) (made-none (inl same))
    made-step (level nothing none) = subst (λ (found : Option Edge). Made sum last (end ∷ ends) (option_to_list found ++ edges)) (sym none) (made-none (inr nothing))
    made-step (up above differ some) =
        let before = Before-of (point_of_end last) (point_of_end end) is.behind.0 differ in
        let all = sum-is sum last end ends is before in
        let most = upto_one (point_of_end last) in
        let one : sum ≡ pos 1 = omega (arith, ints, all, most, above) in
        let edge = edge_between (point_of_end last) (point_of_end end) in
        subst (λ (found : Option Edge). Made sum last (end ∷ ends) (option_to_list found ++ edges)) (sym some)
        (made-some edge (link sum last end ends is before edge (inl (all ∙ one, refl))) refl refl
        (λ test. closes_up (test (point_of_end last)) (test (point_of_end end)) sum end.change (flow test edges) (changed test ends) one (made.closes test)))
    made-step (down below differ some) =
        let before = Before-of (point_of_end last) (point_of_end end) is.behind.0 differ in
        let all = sum-is sum last end ends is before in
        let least = from_one (point_of_end last) in
        let one : sum ≡ (pos 0 -ℤ pos 1) = omega (arith, ints, all, least, below) in
        let edge = edge_between (point_of_end end) (point_of_end last) in
        subst (λ (found : Option Edge). Made sum last (end ∷ ends) (option_to_list found ++ edges)) (sym some)
        (made-some edge (link sum last end ends is before edge (inr (all ∙ one, refl))) refl refl
        (λ test. closes_down (test (point_of_end last)) (test (point_of_end end)) sum end.change (flow test edges) (changed test ends) one (made.closes test)))

  all-made : (sum : ℤ) (last : End) (ends : List End) → IsAlong sum last ends → (sum +ℤ changed everywhere ends) ≡ pos 0 → Made sum last ends (verticals_between sum last ends)
  all-made sum last [] is none = record {
    links = All-nil (IsBehind (point_of_end last));
    differ = λ i j d below within. absurd (omega (arith, within));
    closes = λ test. closes_last (test (point_of_end last)) sum (omega (arith, ints, none));
  }
  all-made sum last (end ∷ ends) is none =
      made-step sum last end ends is (verticals_between (sum +ℤ end.change) end ends)
      (all-made (sum +ℤ end.change) end ends (along-next sum last end ends is) (omega (arith, ints, none)))
      (between sum last end)

  -- ---- from the first end on

  -- The edges are links, no two with the same ends, and carry into each set of points what the ends change there, less.
  pub record AreLinks (ends : List End) (edges : List Edge) : Type 0 where
    pub links : All IsLink edges
    pub differ : AllPairs (λ one other. ¬ (HaveSameEnds one other)) edges
    pub closes : (test : Point → Bool) → (flow test edges +ℤ changed test ends) ≡ pos 0

  first-none : (end : End) (edges : List Edge) → Between (pos 0) before_all end → option_to_list (vertical_between (pos 0) before_all end) ++ edges ≡ edges
  first-none end edges (at_one same none) = ap (λ (found : Option Edge). option_to_list found ++ edges) none
  first-none end edges (level nothing none) = ap (λ (found : Option Edge). option_to_list found ++ edges) none
  first-none end edges (up above differ some) = absurd (omega (arith, ints, above))
  first-none end edges (down below differ some) = absurd (omega (arith, ints, below))

  closes_first : (a : Bool) (change v rest : ℤ) → v ≡ ((pos 0 -ℤ cond a (pos 0 +ℤ change) (pos 0)) -ℤ rest) → (v +ℤ (cond a change (pos 0) +ℤ rest)) ≡ pos 0
  closes_first true change v rest is = omega (arith, ints, is)
  closes_first false change v rest is = omega (arith, ints, is)

  pub all-links : (ends : List End) → ((p : Point) → total p ≡ changed (upto_point p) ends) → ((p : Point) → IsEndAt p → Has ends p) → EveryEnd (λ end. IsEndAt (point_of_end end)) ends → Rises ends → changed (λ p. true) ends ≡ pos 0
      → AreLinks ends (verticals_between (pos 0) before_all ends)
  all-links [] told has are rises none = record {
    links = All-nil IsLink;
    differ = λ i j d below within. absurd (omega (arith, within));
    closes = λ test. refl;
  }
  all-links (end ∷ ends) told has are rises none =
      let along : IsAlong (pos 0 +ℤ end.change) end ends = record {
        tells = λ p upto.
            (let all = told p in
            let first = ap (λ (t : Bool). cond t end.change (pos 0)) (upto_point-yes p (point_of_end end) upto) in
            omega (arith, ints, all, first));
        others = λ p end_at. elim (has p end_at) [
          | inl same ↦ inl (subst (λ (q : Point). Upto q (point_of_end end)) same (Upto-itself (point_of_end end)))
          | inr later ↦ inr later
        ];
        here = are.0;
        there = are.1;
        behind = rises.0;
        rises = rises.1;
      } in
      let made = all-made (pos 0 +ℤ end.change) end ends along (omega (arith, ints, none)) in
      subst (AreLinks (end ∷ ends)) (sym (first-none end (verticals_between (pos 0 +ℤ end.change) end ends) (between (pos 0) before_all end)))
      (record {
        links = All-weaker (IsBehind (point_of_end end)) IsLink (λ edge behind. behind.0) (verticals_between (pos 0 +ℤ end.change) end ends) made.links;
        differ = made.differ;
        closes = λ test. closes_first (test (point_of_end end)) end.change (flow test (verticals_between (pos 0 +ℤ end.change) end ends)) (changed test ends) (made.closes test);
      })
