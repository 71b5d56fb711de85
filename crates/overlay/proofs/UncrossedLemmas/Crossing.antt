-- Of the polygons of an overlay and edges along an axis that were among those given, no two cross at a point with fractions.
use Rattle.std.proofs.Common.{◌≡◌, ◌≢◌, inl, inr, ◌⊎◌, ◌++◌, true, false, ℕ, ◌*◌, ℤ, pos, ◌*ℤ◌, Bool, List, [], get_or, map, not, ◌||◌, refl, ap, ap₂, sym, subst, ◌∙◌, ⊎_elim, arith}
use Rattle.std.specs.List.{All, Contains, flat_map}
use Rattle.std.specs.Ordering.{int_eq}
use Rattle.std.proofs.lemmas.Int.{by_lt_z, ints}
use Rattle.std.proofs.lemmas.List.Elements.{All-contains, All-weaker, Contains-append_cases, Contains-append_left, Contains-append_right}
use Rattle.i_tree.proofs.RootLemmas.Lists.{Contains-filter, filter_all}
use Rattle.plane.specs.declared.edge.Edge.{Edge}
use Rattle.plane.specs.declared.point.Point.{Point}
use Rattle.plane.specs.Ends.{end_of, reversed, start_of}
use Rattle.plane.specs.Lines.{IsAlongAxis}
use Rattle.plane.specs.Meet.Edges.{IsOf, RationalPoint}
use Rattle.plane.specs.Meet.Kinds.{IsAt}
use Rattle.plane.proofs.MeetLemmas.Identities.{identity, number, times}
use Rattle.noding.proofs.SnapLemmas.Numbers.{n_of}
use Rattle.noding.specs.Local.{AreNodeChains, CrossBeside, IsNode, IsNodeChain}
use Rattle.noding.specs.Meeting.{MeetAtEnds}
use Rattle.noding.specs.Rounding.{RoundsOn, RoundsTo}
use Rattle.noding.specs.Windings.{pieces}
use Rattle.noding.proofs.ChainLemmas.Zips.{AllZip-at}
use Rattle.noding.proofs.SnapLemmas.Local.{IsOf-finer, nodes-meet}
use Rattle.noding.proofs.SnapLemmas.Noded.{IsPiece-along}
use Rattle.noding.proofs.SnapLemmas.Reversed.{IsOf-reversed}
use Rattle.noding.proofs.SnapLemmas.Rounding.{RoundsOn-whole, RoundsTo-unique}
use Rattle.overlay.specs.Boundary.{BoundsResult, IsPiece}
use Rattle.overlay.specs.Contours.Outlines.{outline}
use Rattle.overlay.specs.Contours.Rings.{has_two_ends, real_edges, ring_edges}
use Rattle.overlay.specs.Fill.Filled.{AreNoded}
use Rattle.overlay.specs.Overlay.{IsOverlay, polygon_edges}
use Rattle.overlay.specs.Polygons.{rings_of}
use Rattle.overlay.specs.declared.fill.rules.FillRule.{FillRule}
use Rattle.overlay.specs.declared.fill.rules.Operation.{Operation}
use Rattle.overlay.proofs.BoundaryLemmas.Broken.{all-chains}
use Rattle.overlay.proofs.PieceLemmas.Edges.{equal}
use Rattle.overlay.proofs.GroupingLemmas.Grouped.{map-joined}
use Rattle.overlay.proofs.UncrossedLemmas.Axes.{axes-meet, axis-pieces}
use Rattle.overlay.proofs.UncrossedLemmas.Covered.{AllCarried, IsCarried, carried-more, carries-itself, outlines-carried}
use Rattle.overlay.proofs.UncrossedLemmas.Finer.{AreParallel, IsWhole, finer-is, finer-some, finer_than, parallel-exchanged, parallel-itself, parallel-reversed, parallel-through, whole-finer}

-- ---- edges that meet at common ends

-- a common point is whole, or they are parallel
ends-whole : (one other : Edge) (point : RationalPoint) → MeetAtEnds one other point → IsWhole point ⊎ AreParallel one other
ends-whole one other point (inl (inl at, there)) = inl (one.x0, one.y0, at)
ends-whole one other point (inl (inr at, there)) = inl (one.x1, one.y1, at)
ends-whole one other point (inr (inl same)) = inr (subst (λ (e : Edge). AreParallel one e) same (parallel-itself one))
ends-whole one other point (inr (inr same)) =
    inr (subst (λ (e : Edge). AreParallel e other) (sym same) (parallel-reversed (reversed other) other (parallel-itself other)))

-- ---- a piece of a chain, and an edge along an axis

module _ (all : List Edge) where
  -- where one of two edges has a chain that a piece is of, and the other runs along an axis
  chain-axis : (one : Edge) (chain : List Point) (piece other : Edge) (other_chain : List Point) (point : RationalPoint) → Contains all one → IsNodeChain all one chain → Contains (pieces chain) piece
      → Contains all other → IsNodeChain all other other_chain → IsAlongAxis other → IsOf piece point → IsOf other point → IsWhole point ⊎ AreParallel piece other
  chain-axis one chain piece other other_chain point among along held other_among other_along axis of_one of_other =
      elim (axis-pieces all other other_chain point other_among other_along axis of_other) [
        | inl is ↦ inl is
        | inr on ↦
            elim (ends-whole piece on.piece on.has.finer
            (nodes-meet all one other among other_among piece on.piece on.has.finer
            (IsPiece-along (IsNode all one) one chain (λ x y node. node.1) along piece held)
            (IsPiece-along (IsNode all other) other other_chain (λ x y node. node.1) other_along on.piece on.among)
            (IsOf-finer piece on.has.k point on.has.finer on.has.is of_one) on.has.of)) [
              | inl is ↦ inl (whole-finer on.has.k point on.has.finer on.has.is is)
              | inr parallel ↦ inr (parallel-through piece on.piece other on.proper parallel on.parallel)
            ]
      ]

  -- the chain of one of the edges
  chain-of : (chains : List (List Point)) → AreNodeChains all chains → (edge : Edge) → Contains all edge → (chain : List Point) × IsNodeChain all edge chain
  chain-of chains are edge (k, within, is) =
      (get_or chains k [], subst (λ (e : Edge). IsNodeChain all e (get_or chains k [])) is (AllZip-at (IsNodeChain all) all chains edge [] k are within))

  -- the same for an edge that is made of one, one way or the other
  piece-axis : (chains : List (List Point)) → AreNodeChains all chains → (edge other : Edge) (point : RationalPoint)
      → IsPiece all edge → Contains all other → IsAlongAxis other → IsOf edge point → IsOf other point → IsWhole point ⊎ AreParallel edge other
  piece-axis chains are edge other point (one, chain, among, along, inl held) other_among axis of_one of_other =
      let (other_chain, other_along) = chain-of chains are other other_among in
      chain-axis one chain edge other other_chain point among along held other_among other_along axis of_one of_other
  piece-axis chains are edge other point (one, chain, among, along, inr held) other_among axis of_one of_other =
      let (other_chain, other_along) = chain-of chains are other other_among in
      elim (chain-axis one chain (reversed edge) other other_chain point among along held other_among other_along axis (IsOf-reversed edge point of_one) of_other) [
        | inl is ↦ inl is
        | inr parallel ↦ inr (parallel-reversed edge other parallel)
      ]

-- ---- edges that meet only at common ends, and edges along an axis

-- It runs along an axis, is no point, and is among these.
abbrev RunsAmong : List Edge → Edge → Type 0
RunsAmong edges edge = Contains edges edge × IsAlongAxis edge × (start_of edge ≢ end_of edge)

module _ (all edges others : List Edge) (chains : List (List Point)) (are : AreNodeChains all chains) (noded : AreNoded edges) (proper : All (λ edge. start_of edge ≢ end_of edge) edges)
    (made : All (λ edge. edge.x0 ≢ edge.x1 → IsPiece all edge) edges) (runs : (edge : Edge) → Contains others edge → RunsAmong all edge) where
  -- one of those, and one along an axis, are parallel, or their common points are whole
  one-axis : (edge other : Edge) (point : RationalPoint) → Contains edges edge → Contains others other → IsOf edge point → IsOf other point → IsWhole point ⊎ AreParallel edge other
  one-axis edge other point held held_too of_one of_other =
      elim (upright-or edge) [
        | inl upright ↦ axes-meet edge other point (inl upright) (runs other held_too).1 of_one of_other
        | inr sloped ↦ piece-axis all chains are edge other point (All-contains (λ (e : Edge). e.x0 ≢ e.x1 → IsPiece all e) edges edge made held sloped) (runs other held_too).0 (runs other held_too).1 of_one of_other
      ]
    where
      upright-or : (e : Edge) → (e.x1 ≡ e.x0) ⊎ (e.x0 ≢ e.x1)
      upright-or e =
          by_lt_z e.x0 e.x1 (λ up. inr (λ same. omega (arith, ints, up, same)))
          (λ upto. by_lt_z e.x1 e.x0 (λ down. inr (λ same. omega (arith, ints, down, same))) (λ from. inl (omega (arith, ints, upto, from))))

  -- two of both are parallel, or their common points are whole
  any-two : (one other : Edge) (point : RationalPoint) → Contains edges one ⊎ Contains others one → Contains edges other ⊎ Contains others other → IsOf one point → IsOf other point → IsWhole point ⊎ AreParallel one other
  any-two one other point (inl held) (inl held_too) of_one of_other = ends-whole one other point (noded one other point held held_too of_one of_other)
  any-two one other point (inl held) (inr held_too) of_one of_other = one-axis one other point held held_too of_one of_other
  any-two one other point (inr held) (inl held_too) of_one of_other =
      elim (one-axis other one point held_too held of_other of_one) [
        | inl is ↦ inl is
        | inr parallel ↦ inr (parallel-exchanged other one parallel)
      ]
  any-two one other point (inr held) (inr held_too) of_one of_other = axes-meet one other point (runs one held).1 (runs other held_too).1 of_one of_other

  -- none of them is a point
  is-proper : (edge : Edge) → Contains edges edge ⊎ Contains others edge → start_of edge ≢ end_of edge
  is-proper edge (inl held) = All-contains (λ (e : Edge). start_of e ≢ end_of e) edges edge proper held
  is-proper edge (inr held) = (runs edge held).2

  -- the same of what they carry
  carried-two : (one other : Edge) (point : RationalPoint) → IsCarried (edges ++ others) one point → IsCarried (edges ++ others) other point → IsWhole point ⊎ AreParallel one other
  carried-two one other point first second =
      let some = finer-some second.k point second.finer second.is in
      let finer = finer_than second.k some first.finer in
      let of_first = IsOf-finer first.edge second.k first.finer finer (finer-is second.k some first.finer) first.of in
      let of_second = IsOf-finer second.edge first.k second.finer finer (record {
        n = ap (λ (m : ℕ). second.k * m) first.is.n ∙ swapped second.k first.k point.n ∙ ap (λ (m : ℕ). first.k * m) (sym second.is.n);
        x = ap (λ (z : ℤ). pos second.k *ℤ z) first.is.x ∙ swapped_z second.k first.k point.x ∙ ap (λ (z : ℤ). pos first.k *ℤ z) (sym second.is.x);
        y = ap (λ (z : ℤ). pos second.k *ℤ z) first.is.y ∙ swapped_z second.k first.k point.y ∙ ap (λ (z : ℤ). pos first.k *ℤ z) (sym second.is.y);
      }) second.of in
      let one_in = Contains-append_cases edges others first.edge first.among in
      let other_in = Contains-append_cases edges others second.edge second.among in
      elim (any-two first.edge second.edge finer one_in other_in of_first of_second) [
        | inl is ↦ inl (whole-finer first.k point first.finer first.is (whole-finer second.k first.finer finer (finer-is second.k some first.finer) is))
        | inr parallel ↦
            let across = parallel-through one first.edge second.edge (is-proper first.edge one_in) first.parallel parallel in
            inr (parallel-through one second.edge other (is-proper second.edge other_in) across (parallel-exchanged other second.edge second.parallel))
      ]
    where
      swapped : (a b c : ℕ) → a * (b * c) ≡ b * (a * c)
      swapped a b c = omega arith

      swapped_z : (a b : ℕ) (z : ℤ) → (pos a *ℤ (pos b *ℤ z)) ≡ (pos b *ℤ (pos a *ℤ z))
      swapped_z a b z = identity (times (n_of a) (times (n_of b) (number z))) (times (n_of b) (times (n_of a) (number z))) (omega arith)

  -- so no two that they carry cross beside a whole point
  none-beside : (one other : Edge) (x y : ℤ) → AllCarried (edges ++ others) one → AllCarried (edges ++ others) other → ¬ (CrossBeside one other x y)
  none-beside one other x y first second (slanted, (point, of_one, of_other, rounds, beside)) =
      elim (carried-two one other point (first point of_one) (second point of_other)) [
        | inr parallel ↦ slanted parallel
        | inl (a, b, at) ↦
            let whole : RoundsTo point a b = record {
              along_x = subst (λ (z : ℤ). RoundsOn point.n z a) (sym at.x_is) (RoundsOn-whole point.n a point.positive);
              along_y = subst (λ (z : ℤ). RoundsOn point.n z b) (sym at.y_is) (RoundsOn-whole point.n b point.positive);
            } in
            let (same_x, same_y) = RoundsTo-unique point a b x y whole rounds in
            beside (subst (λ (q : ℤ). IsAt point x q) same_y (subst (λ (p : ℤ). IsAt point p b) same_x at))
      ]

-- ---- overlays

-- an edge that isn't a point is a real one
two-ends : (edge : Edge) → start_of edge ≢ end_of edge → has_two_ends edge ≡ true
two-ends edge apart = by (int_eq edge.x0 edge.x1) (int_eq edge.y0 edge.y1) refl refl
  where
    made : ℤ → ℤ → Point
    made x y = record { x = x; y = y }

    by : (s t : Bool) → int_eq edge.x0 edge.x1 ≡ s → int_eq edge.y0 edge.y1 ≡ t → has_two_ends edge ≡ true
    by true true e f = absurd (apart (ap₂ (λ (x y : ℤ). made x y) (equal edge.x0 edge.x1 e) (equal edge.y0 edge.y1 f)))
    by false t e f = ap (λ (s : Bool). not s || not (int_eq edge.y0 edge.y1)) e
    by true false e f = ap₂ (λ (s t : Bool). not s || not t) e f

-- So edges of which none is a point are all real ones.
pub real-all : (edges : List Edge) → All (λ edge. start_of edge ≢ end_of edge) edges → real_edges edges ≡ edges
real-all edges proper = filter_all has_two_ends edges (All-weaker (λ (edge : Edge). start_of edge ≢ end_of edge) (λ (edge : Edge). has_two_ends edge ≡ true) two-ends edges proper)

-- one among subject and clip is among their real edges
among-real : (subject clip : List Edge) (edge : Edge) → start_of edge ≢ end_of edge → Contains (subject ++ clip) edge → Contains (real_edges subject ++ real_edges clip) edge
among-real subject clip edge apart held = ⊎_elim
    (λ first. Contains-append_left (real_edges subject) (real_edges clip) edge (Contains-filter has_two_ends subject edge (two-ends edge apart) first))
    (λ second. Contains-append_right (real_edges subject) (real_edges clip) edge (Contains-filter has_two_ends clip edge (two-ends edge apart) second))
    (Contains-append_cases subject clip edge held)

-- What edges that bound a result carry, and edges along an axis that were among those given: no two cross beside a whole point.
bounds-beside : (rule : FillRule) (operation : Operation) (subject clip edges others : List Edge) → BoundsResult rule operation (real_edges subject) (real_edges clip) edges
    → ((edge : Edge) → Contains others edge → Contains (subject ++ clip) edge × IsAlongAxis edge × (start_of edge ≢ end_of edge))
    → (one other : Edge) (x y : ℤ) → AllCarried (edges ++ others) one → AllCarried (edges ++ others) other → ¬ (CrossBeside one other x y)
bounds-beside rule operation subject clip edges others bounds runs =
    let (broken, broken_clip, are, winds) = bounds.everywhere in
    none-beside (real_edges subject ++ real_edges clip) edges others (are.chains ++ are.clip_chains) (all-chains (real_edges subject) (real_edges clip) broken broken_clip are) bounds.noded bounds.two_ends bounds.made
    (λ edge held. let (among, axis, apart) = runs edge held in (among-real subject clip edge apart among, axis, apart))

-- Of edges that bound a result and edges along an axis that were among those given, no two cross at a point with fractions.
pub bounds-cross : (rule : FillRule) (operation : Operation) (subject clip edges others : List Edge) → BoundsResult rule operation (real_edges subject) (real_edges clip) edges
    → ((edge : Edge) → Contains others edge → Contains (subject ++ clip) edge × IsAlongAxis edge × (start_of edge ≢ end_of edge))
    → (one other : Edge) (x y : ℤ) → Contains (edges ++ others) one → Contains (edges ++ others) other → ¬ (CrossBeside one other x y)
bounds-cross rule operation subject clip edges others bounds runs one other x y first second =
    bounds-beside rule operation subject clip edges others bounds runs one other x y (carries-itself (edges ++ others) one first) (carries-itself (edges ++ others) other second)

-- Of the polygons of an overlay and edges along an axis that were among those given, no two cross at a point with fractions.
pub none-cross : (rule : FillRule) (operation : Operation) (subject clip others : List Edge) (polygons : List (List (List Point))) → IsOverlay rule operation subject clip polygons
    → ((edge : Edge) → Contains others edge → Contains (subject ++ clip) edge × IsAlongAxis edge × (start_of edge ≢ end_of edge))
    → (one other : Edge) (x y : ℤ) → Contains (polygon_edges polygons ++ others) one → Contains (polygon_edges polygons ++ others) other → ¬ (CrossBeside one other x y)
none-cross rule operation subject clip others polygons is runs one other x y first second =
    bounds-beside rule operation subject clip (flat_map ring_edges (rings_of is.whole)) others is.bounds.bounds runs one other x y (carried one first) (carried other second)
  where
    rings_are : rings_of polygons ≡ map outline (rings_of is.whole)
    rings_are = ap (λ (list : List (List (List Point))). rings_of list) is.outlined ∙ map-joined outline is.whole

    carried : (edge : Edge) → Contains (polygon_edges polygons ++ others) edge → AllCarried (flat_map ring_edges (rings_of is.whole) ++ others) edge
    carried edge held =
        let edges = flat_map ring_edges (rings_of is.whole) in
        ⊎_elim
        (λ ours. carried-more edges (edges ++ others) edge (Contains-append_left edges others) (outlines-carried (rings_of is.whole) edge (subst (λ (rings : List (List Point)). Contains (flat_map ring_edges rings) edge) rings_are ours)))
        (λ theirs. carries-itself (edges ++ others) edge (Contains-append_right edges others edge theirs))
        (Contains-append_cases (polygon_edges polygons) others edge held)
