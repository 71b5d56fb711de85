-- The stops of one edge stand together, and their points are its chain.
use Rattle.std.proofs.Common.{◌≡◌, ◌≢◌, inl, inr, ℕ, ℤ, ◌+◌, ◌-◌, ◌<◌, ◌≤◌, List, [], ◌∷◌, ◌++◌, Some, length, get_or, map, take, drop, sym, ap, ◌∙◌, subst, subst₂, append_assoc, arith}
use Rattle.std.specs.List.{AllPairs, Contains, flat_map, slice_get}
use Rattle.std.proofs.lemmas.Bool.{cases_eq, cases_lt}
use Rattle.std.proofs.lemmas.List.{get_or-drop, get_or-map, get_or-take, length-append, length-drop, length-map, length-take-le, map-append, take_more}
use Rattle.std.proofs.lemmas.Option.{same_Some}
use Rattle.plane.specs.declared.edge.Edge.{Edge}
use Rattle.plane.specs.declared.point.Point.{Point}
use Rattle.noding.specs.Chains.{AreChains, IsAlong, IsChain, IsHot, Passes, Upto}
use Rattle.noding.specs.Close.{PassesInside}
use Rattle.noding.specs.Local.{AreNodeChains, IsNode, IsNodeChain}
use Rattle.plane.specs.Ends.{start_of}
use Rattle.noding.specs.Offsets.{between, offsets}
use Rattle.noding.specs.Stops.{AreAt, AreNodeStops, AreRuns, AreStops, AreStopsOf, GoesToEnd, IsBefore, IsRun, IsStopOf, point_of, stop_of}
pub use Rattle.noding.specs.Stops.{Split}
use Rattle.noding.specs.declared.stops.Stop.{Stop}
use Rattle.noding.proofs.ChainLemmas.Ends.{IsAlong-ends}
use Rattle.plane.proofs.GainsLemmas.{held-at}
use Rattle.noding.proofs.ChainLemmas.Stops.{differ-before, point-of_stop, upto-before}
use Rattle.noding.proofs.SnapLemmas.Along.{Passes-end, Passes-start}
use Rattle.noding.proofs.SnapLemmas.Local.{ends_on}
use Rattle.noding.proofs.SnapLemmas.Paths.{AllZip-by, IsHot-from, IsHot-to}

-- ---- lists

-- where a list is read that is a part of another one
pub length-between : {X : Type 0} (start end : ℕ) (items : List X) → start ≤ end → end ≤ length items → length (between start end items) ≡ end - start
length-between start end items rising inside = length-take-le (end - start) (drop start items) (omega (arith, rising, inside, length-drop start items))

pub between-at : {X : Type 0} (start end k : ℕ) (items : List X) (d : X) → start + k < end → end ≤ length items → get_or (between start end items) k d ≡ get_or items (start + k) d
between-at start end k items d within inside = get_or-take (end - start) (drop start items) k d (omega (arith, within)) ∙ get_or-drop start items k d

-- one more
pub between-more : {X : Type 0} (start end : ℕ) (items : List X) (d : X) → start ≤ end → end < length items → between start (end + 1) items ≡ between start end items ++ get_or items end d ∷ []
between-more {X = X} start end items d rising inside =
    ap (λ (n : ℕ). take n (drop start items)) (omega (arith, rising))
    ∙ take_more (drop start items) (end - start) d (omega (arith, inside, rising, length-drop start items))
    ∙ ap (λ (x : X). between start end items ++ x ∷ []) (get_or-drop start items (end - start) d ∙ ap (λ (n : ℕ). get_or items n d) (omega (arith, rising)))

-- where each list stops, with one list more
pub offsets-more : {X : Type 0} (start : ℕ) (lists : List (List X)) (last : List X) → offsets start (lists ++ last ∷ []) ≡ offsets start lists ++ ((start + length (flat_map (λ list. list) lists)) + length last) ∷ []
offsets-more start [] last = ap (λ (n : ℕ). (n + length last) ∷ []) (omega arith)
offsets-more start (list ∷ lists) last =
    ap (λ (rest : List ℕ). (start + length list) ∷ rest)
    (offsets-more (start + length list) lists last ∙ ap (λ (n : ℕ). offsets (start + length list) lists ++ (n + length last) ∷ []) (omega (arith, length-append list (flat_map (λ list. list) lists))))

-- what is made of one more, at the end of what there was before
pub made-more : {X Y : Type 0} (f : X → Y) (before : List Y) (start end : ℕ) (items : List X) (d : X) → start ≤ end → end < length items
    → (before ++ map f (between start end items)) ++ f (get_or items end d) ∷ [] ≡ before ++ map f (between start (end + 1) items)
made-more f before start end items d rising inside =
    append_assoc before (map f (between start end items)) (f (get_or items end d) ∷ [])
    ∙ ap (λ rest. before ++ rest) (sym (ap (map f) (between-more start end items d rising inside) ∙ map-append f (between start end items) (get_or items end d ∷ [])))

-- ---- the stops of one edge

pub Split-none : (stops : List Stop) → Split 0 0 stops
Split-none stops = record {
  inside = omega arith;
  before = λ k d within. absurd (omega (arith, within));
  behind = λ k d from within. omega arith;
}

module _ (stops : List Stop) (in_order : AllPairs IsBefore stops) (place start end : ℕ) (split : Split place start stops) (run : AreAt place start end stops) where
  -- the last of them is followed by stops at later edges
  behind : (k : ℕ) (d : Stop) → end ≤ k → k < length stops → place + 1 ≤ (get_or stops k d).place
  behind k d from within =
      let rising = run.rising in
      let last = run.last d (omega (arith, from, within)) in
      let at_least = split.behind end d rising (omega (arith, from, within)) in
      elim (cases_eq end k) [
        | inl same ↦ subst (λ (n : ℕ). place + 1 ≤ (get_or stops n d).place) same (omega (arith, last, at_least))
        | inr differs ↦ later k d (omega (arith, from, differs)) within (omega (arith, last, at_least)) (in_order end k d (omega (arith, from, differs)) within)
      ]
    where
      later : (k : ℕ) (d : Stop) → end < k → k < length stops → place + 1 ≤ (get_or stops end d).place → IsBefore (get_or stops end d) (get_or stops k d) → place + 1 ≤ (get_or stops k d).place
      later k d above within least (inl lower) = omega (arith, least, lower)
      later k d above within least (inr (same, along)) = omega (arith, least, same)

  -- so the next edge's stops are split off where these end
  pub Split-run : Split (place + 1) end stops
  Split-run = record {
    inside = run.inside;
    before = λ k d within. elim (cases_lt k start) [
      | inl earlier ↦ let lower = split.before k d earlier in omega (arith, lower)
      | inr from ↦ let at = run.at k d from within in omega (arith, at)
    ];
    behind = behind;
  }

module _ {IsNode : Edge → ℤ → ℤ → Type 0} (edges : List Edge) (stops : List Stop) (are : AreStopsOf IsNode edges stops) (place start end : ℕ) (split : Split place start stops) (run : AreAt place start end stops) where
  pub Split-next : Split (place + 1) end stops
  Split-next = Split-run stops are.in_order place start end split run

  module _ (edge : Edge) (stands : slice_get edges place ≡ Some edge) where
    abbrev inner : List Point
    inner = map (point_of edge) (between start end stops)

    long : length inner ≡ end - start
    long = length-map (between start end stops) (point_of edge) ∙ length-between start end stops run.rising run.inside

    -- what stands among these points at a place
    inner-at : (k : ℕ) (d : Point) (e : Stop) → start + k < end → get_or inner k d ≡ point_of edge (get_or stops (start + k) e)
    inner-at k d e within =
        let inside : k < length (between start end stops) = omega (arith, within, length-between start end stops run.rising run.inside) in
        get_or-map (point_of edge) (between start end stops) k e d inside ∙ ap (point_of edge) (between-at start end k stops e within run.inside)

    -- a stop among these is one of the edge
    is_stop : (k : ℕ) (e : Stop) → start ≤ k → k < end → IsNode edge (point_of edge (get_or stops k e)).x (point_of edge (get_or stops k e)).y × (PassesInside edge (point_of edge (get_or stops k e)).x (point_of edge (get_or stops k e)).y)
    is_stop k e from within =
        let stop = get_or stops k e in
        let inside = run.inside in
        let is : IsStopOf IsNode edges stop = are.of k e (omega (arith, inside, within)) in
        let same : is.edge ≡ edge = same_Some _ _ (sym is.stands ∙ ap (slice_get edges) (run.at k e from within) ∙ stands) in
        subst (λ (it : Edge). IsNode it (point_of it stop).x (point_of it stop).y × (PassesInside it (point_of it stop).x (point_of it stop).y)) same (is.node, is.inside)

    abbrev some_stop : Stop
    some_stop = stop_of place edge (edge.x0) (edge.y0)

    inner_in_order : AllPairs (λ c d. Upto edge c.x c.y d.x d.y) inner
    inner_in_order i j d below within =
        let e = some_stop in
        let upto_end : start + j < end = omega (arith, within, long) in
        let upto_i : start + i < end = omega (arith, upto_end, below) in
        let inside = run.inside in
        let one = get_or stops (start + i) e in
        let other = get_or stops (start + j) e in
        let place_one = run.at (start + i) e (omega arith) upto_i in
        let place_other = run.at (start + j) e (omega arith) upto_end in
        let before = are.in_order (start + i) (start + j) e (omega (arith, below)) (omega (arith, upto_end, inside)) in
        subst₂ (λ (c d : Point). Upto edge c.x c.y d.x d.y) (sym (inner-at i d e upto_i)) (sym (inner-at j d e upto_end))
        (upto-before edge one other (place_one ∙ sym place_other) before (is_stop (start + i) e (omega arith) upto_i).1.0 (is_stop (start + j) e (omega arith) upto_end).1.0)

    inner_once : AllPairs (λ c d. c ≢ d) inner
    inner_once i j d below within =
        let e = some_stop in
        let upto_end : start + j < end = omega (arith, within, long) in
        let upto_i : start + i < end = omega (arith, upto_end, below) in
        let inside = run.inside in
        let one = get_or stops (start + i) e in
        let other = get_or stops (start + j) e in
        let place_one = run.at (start + i) e (omega arith) upto_i in
        let place_other = run.at (start + j) e (omega arith) upto_end in
        let before = are.in_order (start + i) (start + j) e (omega (arith, below)) (omega (arith, upto_end, inside)) in
        subst₂ (λ (c d : Point). c ≢ d) (sym (inner-at i d e upto_i)) (sym (inner-at j d e upto_end)) (differ-before edge one other (place_one ∙ sym place_other) before)

    -- each of these points is a node, and the edge passes it between its ends
    of_inner : (c : Point) → Contains inner c → IsNode edge c.x c.y × PassesInside edge c.x c.y
    of_inner c (k, within, at) =
        let e = some_stop in
        let upto_end : start + k < end = omega (arith, within, long) in
        subst (λ (p : Point). IsNode edge p.x p.y × PassesInside edge p.x p.y) (sym (inner-at k c e upto_end) ∙ at) (is_stop (start + k) e (omega arith) upto_end)

    -- and each such point is of them
    in_inner : (c : Point) → IsNode edge c.x c.y × PassesInside edge c.x c.y → Contains inner c
    in_inner c (node, inside) =
        let stop = stop_of place edge c.x c.y in
        let (k, within, at) = are.each place edge c.x c.y stands node inside in
        let here : (get_or stops k stop).place ≡ place = ap (λ (s : Stop). s.place) at in
        let from : start ≤ k = elim (cases_lt k start) [
          | inl earlier ↦ let lower = split.before k stop earlier in absurd (omega (arith, lower, here))
          | inr from ↦ from
        ] in
        let upto_end : k < end = elim (cases_lt k end) [
          | inl before ↦ before
          | inr later ↦ let above = behind stops are.in_order place start end split run k stop later within in absurd (omega (arith, above, here))
        ] in
        let whole : start + (k - start) ≡ k = omega (arith, from) in
        (k - start, omega (arith, long, from, upto_end), inner-at (k - start) c stop (omega (arith, whole, upto_end)) ∙ ap (λ (n : ℕ). point_of edge (get_or stops n stop)) whole ∙ ap (point_of edge) at ∙ point-of_stop place edge c.x c.y)

    -- the edge's ends, and these points between them, are its chain
    pub IsAlong-run : ((x y : ℤ) → IsNode edge x y → Passes edge x y) → IsNode edge edge.x0 edge.y0 → IsNode edge edge.x1 edge.y1
        → (chain : List Point) → GoesToEnd edge (start_of edge ∷ map (point_of edge) (between start end stops)) chain → IsAlong (IsNode edge) edge chain
    IsAlong-run passed starts ends = IsAlong-ends (IsNode edge) edge passed starts ends inner inner_in_order inner_once of_inner in_inner

-- ---- chains of all hot points, and of nodes

module _ (edges : List Edge) (edge : Edge) (among : Contains edges edge) where
  hot_ends : (IsHot edges edge.x0 edge.y0 × Passes edge edge.x0 edge.y0) × (IsHot edges edge.x1 edge.y1 × Passes edge edge.x1 edge.y1)
  hot_ends = ((IsHot-from edges edge among, Passes-start edge), (IsHot-to edges edge among, Passes-end edge))

  node_ends : IsNode edges edge edge.x0 edge.y0 × IsNode edges edge edge.x1 edge.y1
  node_ends =
      let on = ends_on edge in
      ((IsHot-from edges edge among, Passes-start edge, inl on.0), (IsHot-to edges edge among, Passes-end edge, inl on.1))

module _ (edges : List Edge) (stops : List Stop) (are : AreStops edges stops) (place start end : ℕ) (split : Split place start stops) (run : AreAt place start end stops) (edge : Edge) (stands : slice_get edges place ≡ Some edge) where
  pub IsChain-run : (chain : List Point) → GoesToEnd edge (start_of edge ∷ map (point_of edge) (between start end stops)) chain → IsChain edges edge chain
  IsChain-run =
      let its = hot_ends edges edge (held-at edges place edge stands) in
      IsAlong-run edges stops are place start end split run edge stands (λ x y node. node.1) its.0 its.1

module _ (edges : List Edge) (stops : List Stop) (are : AreNodeStops edges stops) (place start end : ℕ) (split : Split place start stops) (run : AreAt place start end stops) (edge : Edge) (stands : slice_get edges place ≡ Some edge) where
  pub IsNodeChain-run : (chain : List Point) → GoesToEnd edge (start_of edge ∷ map (point_of edge) (between start end stops)) chain → IsNodeChain edges edge chain
  IsNodeChain-run =
      let its = node_ends edges edge (held-at edges place edge stands) in
      IsAlong-run edges stops are place start end split run edge stands (λ x y node. node.1) its.0 its.1

-- ---- the chains of all edges

pub AreChains-runs : (edges : List Edge) (stops : List Stop) (chains : List (List Point)) → AreStops edges stops → AreRuns edges stops chains → AreChains edges chains
AreChains-runs edges stops chains are =
    AllZip-by (IsRun edges stops) (IsChain edges) edges chains (λ edge chain among is. IsChain-run edges stops are is.place is.start is.end is.split is.run edge is.stands chain is.goes)

pub AreNodeChains-runs : (edges : List Edge) (stops : List Stop) (chains : List (List Point)) → AreNodeStops edges stops → AreRuns edges stops chains → AreNodeChains edges chains
AreNodeChains-runs edges stops chains are =
    AllZip-by (IsRun edges stops) (IsNodeChain edges) edges chains (λ edge chain among is. IsNodeChain-run edges stops are is.place is.start is.end is.split is.run edge is.stands chain is.goes)
