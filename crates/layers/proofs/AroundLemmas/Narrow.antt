-- Chains that do for the points of a box in the place of others.
use Rattle.std.proofs.Common.{Bool, true, false, ◌||◌, ◌≡◌, ◌≢◌, inl, inr, ℕ, ◌<◌, ◌≤◌, ℤ, pos, ◌+ℤ◌, ◌-ℤ◌, ◌*ℤ◌, ◌<ℤ◌, List, [], ◌∷◌, ◌++◌, length, get_or, take, refl, sym, subst, ap, ◌∙◌, append-nil, append_assoc, arith}
use Rattle.std.specs.List.{All}
use Rattle.std.specs.Prelude.{int_le, int_lt}
use Rattle.std.specs.Int.{int_max, int_min}
use Rattle.std.specs.Ordering.{int_eq}
use Rattle.std.proofs.lemmas.Bool.Decides.{Decides-int_eq}
use Rattle.std.proofs.lemmas.Int.{clamps, ints}
use Rattle.std.proofs.lemmas.List.{get_or-take, get_or_append_left, get_or_default, get_or_push, length-append}
use Rattle.std.proofs.lemmas.List.Elements.{All-append, All-cons, All-nil, All-same, All-take}
use Rattle.i_tree.proofs.RootLemmas.Joined.{AllPairs-append}
use Rattle.plane.specs.declared.edge.Edge.{Edge}
use Rattle.plane.specs.declared.point.Point.{Point}
use Rattle.plane.specs.Meet.Edges.{RationalPoint}
use Rattle.noding.specs.Windings.{count}
use Rattle.noding.proofs.SnapLemmas.Counted.{added}
use Rattle.noding.proofs.SnapLemmas.Windings.{winding-added, winding-append}
use Rattle.layers.specs.Around.{IsOn, IsOnAny, halved}
use Rattle.layers.specs.Chains.{AreSameAround, AreSameIn, AreUpto, IsBounded, IsInExtent, IsLow, Leads, chain_edges, chain_start, edges_in, edges_of_chains, is_apart, is_beside}
use Rattle.layers.specs.declared.around.chains.Chain.{Chain}
use Rattle.layers.specs.declared.around.extents.Extent.{Extent}
use Rattle.layers.specs.declared.around.half_point.HalfPoint.{HalfPoint}
use Rattle.layers.proofs.AroundLemmas.Chains.{apart-chain, apart-chain_off, low-chain, low-chain_off}
use Rattle.layers.proofs.AroundLemmas.Groups.{edges_in-append, edges_in-of, edges_in-other}
use Rattle.layers.proofs.AroundLemmas.Lists.{Any-append_cases, Any-none}
use Rattle.layers.proofs.AroundLemmas.Rounds.{AreSame-append, AreSame-off, AreSame-refl, AreSame-trans}
use Rattle.layers.proofs.AroundLemmas.Runs.{same_or_not}
use Rattle.layers.proofs.AroundLemmas.Sides.{le-false, le-true, step}

-- ---- lists of chains by shape

pub AreUpto-push : (shape : ℕ) (chains : List Chain) (chain : Chain) → AreUpto shape chains → chain.shape ≡ shape → IsBounded chain → AreUpto shape (chains ++ chain ∷ [])
AreUpto-push shape chains chain are is bounded = record {
  order = record {
    bounded = All-append IsBounded chains (chain ∷ []) are.order.bounded (All-cons IsBounded chain [] bounded (All-nil IsBounded));
    sorted = AllPairs-append (λ (one later : Chain). one.shape ≤ later.shape) chains (chain ∷ []) are.order.sorted
        (λ i j d below within. absurd (omega (arith, below, within)))
        (λ k d within. All-cons (λ later. (get_or chains k d).shape ≤ later.shape) chain [] (let low = are.upto k d within in omega (arith, low, is)) (All-nil _));
  };
  upto = All-append (λ one. one.shape ≤ shape) chains (chain ∷ []) are.upto (All-cons (λ one. one.shape ≤ shape) chain [] (omega (arith, is)) (All-nil _));
}

-- what holds of chains holds without the last
module _ (shape : ℕ) (chains : List Chain) (chain : Chain) (are : AreUpto shape (chains ++ chain ∷ [])) where
  before-last : (k : ℕ) (d : Chain) → k < length chains → get_or (chains ++ chain ∷ []) k d ≡ get_or chains k d
  before-last k d within = get_or_append_left chains (chain ∷ []) d k within

  pub AreUpto-front : AreUpto shape chains
  AreUpto-front =
      let size = length-append chains (chain ∷ []) in
      record {
        order = record {
          bounded = λ k d within. subst IsBounded (before-last k d within) (are.order.bounded k d (omega (arith, within, size)));
          sorted = λ i j d below within.
              let low = are.order.sorted i j d below (omega (arith, within, size)) in
              let one = ap (λ (c : Chain). c.shape) (before-last i d (omega (arith, below, within))) in
              let other = ap (λ (c : Chain). c.shape) (before-last j d within) in
              omega (arith, low, one, other);
        };
        upto = λ k d within.
            let low = are.upto k d (omega (arith, within, size)) in
            let one = ap (λ (c : Chain). c.shape) (before-last k d within) in
            omega (arith, low, one);
      }

  pub IsBounded-last : IsBounded chain
  IsBounded-last =
      let size = length-append chains (chain ∷ []) in
      subst IsBounded (get_or_push chains chain chain (length chains) refl) (are.order.bounded (length chains) chain (omega (arith, size)))

-- ---- steps

-- no step lies between numbers beside which a box lies
pub beside-steps : (extent : Extent) (x other : ℤ) (point : HalfPoint) → IsInExtent extent point → is_beside extent x other ≡ true → step x (halved point) ≡ step other (halved point)
beside-steps extent x other point inside is = by (int_eq x other) (int_le (pos 2 *ℤ int_max x other) extent.left) (int_lt extent.right (pos 2 *ℤ int_min x other)) refl refl refl is
  where
    by : (q r s : Bool) → int_eq x other ≡ q → int_le (pos 2 *ℤ int_max x other) extent.left ≡ r → int_lt extent.right (pos 2 *ℤ int_min x other) ≡ s → ((q || r) || s) ≡ true → step x (halved point) ≡ step other (halved point)
    by true r s e f g is = ap (λ z. step z (halved point)) ((Decides-int_eq x other).0 e)
    by false true s e f g is =
        let from = inside.left in
        ap count (le-true (pos 2 *ℤ x) point.twice_x (omega (arith, ints, clamps, f, from))) ∙ sym (ap count (le-true (pos 2 *ℤ other) point.twice_x (omega (arith, ints, clamps, f, from))))
    by false false true e f g is =
        let upto = inside.right in
        ap count (le-false (pos 2 *ℤ x) point.twice_x (omega (arith, ints, clamps, g, upto))) ∙ sym (ap count (le-false (pos 2 *ℤ other) point.twice_x (omega (arith, ints, clamps, g, upto))))
    by false false false e f g is = cc

-- ---- the same around each point of a box

module _ (extent : Extent) where
  pub AreSameIn-trans : (chains others more : List Chain) → AreSameIn extent chains others → AreSameIn extent others more → AreSameIn extent chains more
  AreSameIn-trans chains others more first second shape point inside =
      AreSame-trans (halved point) (edges_in shape chains) (edges_in shape others) (edges_in shape more) (first shape point inside) (second shape point inside)

  pub AreSameIn-push : (chains others : List Chain) (chain : Chain) → AreSameIn extent chains others → AreSameIn extent (chains ++ chain ∷ []) (others ++ chain ∷ [])
  AreSameIn-push chains others chain same shape point inside =
      subst (λ (edges : List Edge). AreSameAround (halved point) edges (edges_in shape (others ++ chain ∷ []))) (sym (edges_in-append shape chains (chain ∷ [])))
      (subst (λ (edges : List Edge). AreSameAround (halved point) (edges_in shape chains ++ edges_in shape (chain ∷ [])) edges) (sym (edges_in-append shape others (chain ∷ [])))
      (AreSame-append (halved point) (edges_in shape chains) (edges_in shape (chain ∷ [])) (edges_in shape others) (edges_in shape (chain ∷ [])) (same shape point inside) (AreSame-refl (halved point) (edges_in shape (chain ∷ [])))))

  -- chains of one shape behind the same ones
  AreSameIn-behind : (front some others : List Chain) (own : ℕ) → All (λ chain. chain.shape ≡ own) some → All (λ chain. chain.shape ≡ own) others
      → ((point : HalfPoint) → IsInExtent extent point → AreSameAround (halved point) (edges_of_chains some) (edges_of_chains others)) → AreSameIn extent (front ++ some) (front ++ others)
  AreSameIn-behind front some others own all all' same shape point inside =
      subst (λ (edges : List Edge). AreSameAround (halved point) edges (edges_in shape (front ++ others))) (sym (edges_in-append shape front some))
      (subst (λ (edges : List Edge). AreSameAround (halved point) (edges_in shape front ++ edges_in shape some) edges) (sym (edges_in-append shape front others))
      (AreSame-append (halved point) (edges_in shape front) (edges_in shape some) (edges_in shape front) (edges_in shape others) (AreSame-refl (halved point) (edges_in shape front)) behind))
    where
      here : (chains : List Chain) → All (λ chain. chain.shape ≡ own) chains → own ≡ shape → edges_in shape chains ≡ edges_of_chains chains
      here chains of is = edges_in-of shape chains (λ k d within. of k d within ∙ is)

      there : (chains : List Chain) → All (λ chain. chain.shape ≡ own) chains → own ≢ shape → edges_in shape chains ≡ []
      there chains of differ = edges_in-other shape chains (λ k d within same. differ (sym (of k d within) ∙ same))

      behind : AreSameAround (halved point) (edges_in shape some) (edges_in shape others)
      behind = elim (same_or_not own shape) [
        | inl is ↦
            subst (λ (edges : List Edge). AreSameAround (halved point) edges (edges_in shape others)) (sym (here some all is))
            (subst (λ (edges : List Edge). AreSameAround (halved point) (edges_of_chains some) edges) (sym (here others all' is)) (same point inside))
        | inr differ ↦
            subst (λ (edges : List Edge). AreSameAround (halved point) edges (edges_in shape others)) (sym (there some all differ))
            (subst (λ (edges : List Edge). AreSameAround (halved point) [] edges) (sym (there others all' differ)) (AreSame-refl (halved point) []))
      ]

  one-of : (chain : Chain) (shape : ℕ) → chain.shape ≡ shape → All (λ c. c.shape ≡ shape) (chain ∷ [])
  one-of chain shape is = All-cons (λ c. c.shape ≡ shape) chain [] is (All-nil (λ c. c.shape ≡ shape))

  -- a chain that counts nothing around the points of the box goes
  gone : (kept : List Chain) (chain : Chain) → ((point : HalfPoint) → IsInExtent extent point → (added (chain_edges chain) (halved point) ≡ pos 0) × ¬ (IsOnAny (chain_edges chain) (halved point))) → AreSameIn extent kept (kept ++ chain ∷ [])
  gone kept chain none =
      subst (λ (chains : List Chain). AreSameIn extent chains (kept ++ chain ∷ [])) (append-nil kept)
      (AreSameIn-behind kept [] (chain ∷ []) chain.shape (All-nil (λ c. c.shape ≡ chain.shape)) (one-of chain chain.shape refl)
      (λ point inside.
      let (turns, off) = none point inside in
      subst (λ (edges : List Edge). AreSameAround (halved point) [] edges) (sym (append-nil (chain_edges chain))) (AreSame-off (halved point) [] (chain_edges chain) (sym turns) (Any-none (λ e. IsOn e (halved point))) off)))

  -- one from which the box lies apart
  pub apart-gone : (kept : List Chain) (chain : Chain) → IsBounded chain → is_apart extent chain.bounds ≡ true → AreSameIn extent kept (kept ++ chain ∷ [])
  apart-gone kept chain own apart = gone kept chain (λ point inside. (apart-chain extent point inside chain own apart, apart-chain_off extent point inside chain own apart))

  -- one below the box that begins and ends on one side of it
  pub beside-gone : (kept : List Chain) (chain : Chain) → IsLow extent chain → is_beside extent (chain_start chain).x chain.end.x ≡ true → AreSameIn extent kept (kept ++ chain ∷ [])
  beside-gone kept chain low beside = gone kept chain (λ point inside. (
    (let turns = low-chain extent point inside chain low in let same = beside-steps extent (chain_start chain).x chain.end.x point inside beside in omega (arith, ints, turns, same)),
    low-chain_off extent point inside chain low,
  ))

  -- ---- edges from the start of a chain

  -- Of a chain below the box, with some points, and the edge from its first point to an end below the box.
  module _ (first edge : Chain) (end : Point) (some : 0 < length first.points.now) (low : IsLow extent first) (below : (pos 2 *ℤ end.y) <ℤ extent.low) (points : edge.points.now ≡ take 1 first.points.now) (is_end : edge.end ≡ end) where
    pub IsLow-straight : IsLow extent edge
    IsLow-straight = record {
      points = All-same (λ at. (pos 2 *ℤ at.y) <ℤ extent.low) edge.points.now (take 1 first.points.now) points (All-take (λ at. (pos 2 *ℤ at.y) <ℤ extent.low) 1 first.points.now low.points);
      end = subst (λ (at : Point). (pos 2 *ℤ at.y) <ℤ extent.low) (sym is_end) below;
    }

    start-straight : chain_start edge ≡ chain_start first
    start-straight = ap (λ (list : List Point). get_or list 0 edge.end) points ∙ get_or-take 1 first.points.now 0 edge.end (omega arith) ∙ get_or_default first.points.now 0 edge.end first.end some

    -- it winds around the points of the box by the steps from there to the end
    turns-straight : (point : HalfPoint) → IsInExtent extent point → added (chain_edges edge) (halved point) ≡ (step (chain_start first).x (halved point) -ℤ step end.x (halved point))
    turns-straight point inside =
        let turns = low-chain extent point inside edge IsLow-straight in
        let from = ap (λ (at : Point). step at.x (halved point)) start-straight in
        let to = ap (λ (at : Point). step at.x (halved point)) is_end in
        omega (arith, ints, turns, from, to)

  -- an edge to the end of the chain does for it
  pub straight-same : (kept : List Chain) (chain edge : Chain) → 0 < length chain.points.now → IsLow extent chain → edge.shape ≡ chain.shape → edge.points.now ≡ take 1 chain.points.now → edge.end ≡ chain.end → AreSameIn extent (kept ++ edge ∷ []) (kept ++ chain ∷ [])
  straight-same kept chain edge some low shape points is_end =
      AreSameIn-behind kept (edge ∷ []) (chain ∷ []) chain.shape (one-of edge chain.shape shape) (one-of chain chain.shape refl)
      (λ point inside.
      let straight = turns-straight chain edge chain.end some low low.end points is_end point inside in
      let turns = low-chain extent point inside chain low in
      let off = low-chain_off extent point inside edge (IsLow-straight chain edge chain.end some low low.end points is_end) in
      subst (λ (edges : List Edge). AreSameAround (halved point) edges (chain_edges chain ++ [])) (sym (append-nil (chain_edges edge)))
      (subst (λ (edges : List Edge). AreSameAround (halved point) (chain_edges edge) edges) (sym (append-nil (chain_edges chain)))
      (AreSame-off (halved point) (chain_edges edge) (chain_edges chain) (omega (arith, ints, straight, turns)) off (low-chain_off extent point inside chain low))))

  added-append : (xs ys : List Edge) (at : RationalPoint) → added (xs ++ ys) at ≡ (added xs at +ℤ added ys at)
  added-append xs ys at =
      let sum = winding-append xs ys at in
      let one = winding-added xs at in
      let other = winding-added ys at in
      let both = winding-added (xs ++ ys) at in
      omega (arith, ints, sum, one, other, both)

  -- and one from the start of the chain before it to its end for both
  pub joined-same : (kept : List Chain) (last chain edge : Chain) → 0 < length last.points.now → IsLow extent last → IsLow extent chain → Leads extent last chain → edge.shape ≡ last.shape → edge.points.now ≡ take 1 last.points.now → edge.end ≡ chain.end
      → AreSameIn extent (kept ++ edge ∷ []) ((kept ++ last ∷ []) ++ chain ∷ [])
  joined-same kept last chain edge some low_last low leads shape points is_end =
      subst (λ (chains : List Chain). AreSameIn extent (kept ++ edge ∷ []) chains) (sym (append_assoc kept (last ∷ []) (chain ∷ [])))
      (AreSameIn-behind kept (edge ∷ []) (last ∷ (chain ∷ [])) last.shape (one-of edge last.shape shape)
      (All-cons (λ c. c.shape ≡ last.shape) last (chain ∷ []) refl (one-of chain last.shape (sym leads.shape)))
      (λ point inside.
      let straight = turns-straight last edge chain.end some low_last low.end points is_end point inside in
      let first = low-chain extent point inside last low_last in
      let second = low-chain extent point inside chain low in
      let same = beside-steps extent last.end.x (chain_start chain).x point inside leads.beside in
      let sum = added-append (chain_edges last) (chain_edges chain) (halved point) in
      let off = low-chain_off extent point inside edge (IsLow-straight last edge chain.end some low_last low.end points is_end) in
      subst (λ (edges : List Edge). AreSameAround (halved point) edges (chain_edges last ++ (chain_edges chain ++ []))) (sym (append-nil (chain_edges edge)))
      (subst (λ (edges : List Edge). AreSameAround (halved point) (chain_edges edge) (chain_edges last ++ edges)) (sym (append-nil (chain_edges chain)))
      (AreSame-off (halved point) (chain_edges edge) (chain_edges last ++ chain_edges chain) (omega (arith, ints, straight, first, second, same, sum)) off (λ on. elim (Any-append_cases (λ e. IsOn e (halved point)) (chain_edges last) (chain_edges chain) on) [
        | inl here ↦ low-chain_off extent point inside last low_last here
        | inr there ↦ low-chain_off extent point inside chain low there
      ])))))
