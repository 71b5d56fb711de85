-- Of polygons that wind once around a point or not at all, each does by itself, where the edge just below a leftwards one is of the
-- same polygon.
use Rattle.std.proofs.Common.{◌≡◌, ◌⊎◌, inl, inr, ◌++◌, zero, suc, ℤ, pos, ◌<ℤ◌, Bool, true, false, ◌&&◌, ◌||◌, cond, List, [], ◌∷◌, refl, ap, ap₂, sym, subst, ◌∙◌, arith}
use Rattle.std.specs.Ordering.{int_eq}
use Rattle.std.specs.List.{All, Contains, filter, flat_map}
use Rattle.std.proofs.lemmas.Bool.{and_parts}
use Rattle.std.proofs.lemmas.Bool.Decides.{Decides-int_eq}
use Rattle.std.proofs.lemmas.List.{append-nil, append_assoc}
use Rattle.std.proofs.lemmas.List.Concat.{flat_map-append}
use Rattle.std.proofs.lemmas.List.Elements.{All-cons, All-contains, All-contains_itself, All-head, All-nil, All-tail, All-weaker, filter-append}
use Rattle.i_tree.proofs.RootLemmas.Joined.{All-front, AllPairs-across, AllPairs-behind}
use Rattle.i_tree.proofs.RootLemmas.Lists.{Contains-there}
use Rattle.plane.specs.declared.edge.Edge.{Edge}
use Rattle.plane.specs.declared.point.Point.{Point}
use Rattle.plane.specs.Meet.Edges.{RationalPoint}
use Rattle.noding.specs.Windings.{winding}
use Rattle.overlay.specs.Contours.Rings.{ring_edges}
use Rattle.overlay.specs.Fill.Filled.{AreDistinct, AreNoded, HaveSameEnds}
use Rattle.overlay.specs.Joined.{is_same}
use Rattle.overlay.specs.Nesting.{IsNextBelow}
use Rattle.overlay.specs.Overlay.{polygon_edges}
use Rattle.overlay.specs.Polygons.{rings_of}
use Rattle.overlay.proofs.FillLemmas.Premises.{All-among}
use Rattle.overlay.proofs.FillLemmas.Tests.{int_eq-true}
use Rattle.overlay.proofs.WindsLemmas.Each.{winds-own}
use Rattle.overlay.proofs.WindsLemmas.Paired.{IsOneOrNone}

-- A leftwards edge is one of these exactly if the edge just below it is, over each stretch.
abbrev pub KeepTogether : List Edge → List Edge → Type 0
KeepTogether edges mine = (x : ℤ) (one other : Edge) → IsNextBelow edges x one other → other.x1 <ℤ other.x0 → (Contains mine one → Contains mine other) × (Contains mine other → Contains mine one)

-- ---- which edges are of a list

abbrev pub holds : List Edge → Edge → Bool
holds [] edge = false
holds (first ∷ others) edge = is_same edge first || holds others edge

pub same-edge : (one other : Edge) → is_same one other ≡ true → other ≡ one
same-edge one other told =
    let (first, second) = and_parts (int_eq one.x0 other.x0 && int_eq one.y0 other.y0) (int_eq one.x1 other.x1 && int_eq one.y1 other.y1) told in
    let (a, b) = and_parts (int_eq one.x0 other.x0) (int_eq one.y0 other.y0) first in
    let (c, d) = and_parts (int_eq one.x1 other.x1) (int_eq one.y1 other.y1) second in
    let x0 = (Decides-int_eq one.x0 other.x0).0 a in
    let y0 = (Decides-int_eq one.y0 other.y0).0 b in
    let x1 = (Decides-int_eq one.x1 other.x1).0 c in
    let y1 = (Decides-int_eq one.y1 other.y1).0 d in
    ap₂ (λ (x y : ℤ). (let e : Edge = record { x0 = x; y0 = y; x1 = other.x1; y1 = other.y1 } in e)) (sym x0) (sym y0)
    ∙ ap₂ (λ (x y : ℤ). (let e : Edge = record { x0 = one.x0; y0 = one.y0; x1 = x; y1 = y } in e)) (sym x1) (sym y1)

pub is-same : (edge : Edge) → is_same edge edge ≡ true
is-same edge = rw (int_eq-true edge.x0 edge.x0 refl, int_eq-true edge.y0 edge.y0 refl, int_eq-true edge.x1 edge.x1 refl, int_eq-true edge.y1 edge.y1 refl) refl

either : (s t : Bool) → (s || t) ≡ true → (s ≡ true) ⊎ (t ≡ true)
either true t told = inl refl
either false t told = inr told

or-true : (s t : Bool) → t ≡ true → (s || t) ≡ true
or-true true t told = refl
or-true false t told = told

pub holds-is : (mine : List Edge) (edge : Edge) → holds mine edge ≡ true → Contains mine edge
holds-is [] edge told = absurd (never told)
  where
    never : false ≡ true → ⊥
    never h = cc
holds-is (first ∷ others) edge told = by (holds-is others edge) (either (is_same edge first) (holds others edge) told)
  where
    by : (holds others edge ≡ true → Contains others edge) → (is_same edge first ≡ true) ⊎ (holds others edge ≡ true) → Contains (first ∷ others) edge
    by rest (inl same) = (0, omega arith, same-edge edge first same)
    by rest (inr later) = Contains-there first others edge (rest later)

pub is-held : (mine : List Edge) (edge : Edge) → Contains mine edge → holds mine edge ≡ true
is-held [] edge (k, within, is) = absurd (omega (arith, within))
is-held (first ∷ others) edge (zero, within, is) = ap (λ (t : Bool). t || holds others edge) (subst (λ (e : Edge). is_same edge e ≡ true) (sym is) (is-same edge))
is-held (first ∷ others) edge (suc k, within, is) = or-true (is_same edge first) (holds others edge) (is-held others edge (k, omega (arith, within), is))

pub not-held : (mine : List Edge) (edge : Edge) → ¬ (Contains mine edge) → holds mine edge ≡ false
not-held mine edge none = by (holds mine edge) refl
  where
    by : (t : Bool) → holds mine edge ≡ t → holds mine edge ≡ false
    by true told = absurd (none (holds-is mine edge told))
    by false told = told

-- ---- what a filter leaves

all-kept : (test : Edge → Bool) (edges : List Edge) → All (λ edge. test edge ≡ true) edges → filter test edges ≡ edges
all-kept test [] all = refl
all-kept test (edge ∷ edges) all = by (test edge) (All-head (λ (e : Edge). test e ≡ true) edge edges all) (all-kept test edges (All-tail (λ (e : Edge). test e ≡ true) edge edges all))
  where
    by : (t : Bool) → t ≡ true → filter test edges ≡ edges → cond t (edge ∷ filter test edges) (filter test edges) ≡ edge ∷ edges
    by true told rest = ap (λ (list : List Edge). edge ∷ list) rest
    by false told rest = cc

none-left : (test : Edge → Bool) (edges : List Edge) → All (λ edge. test edge ≡ false) edges → filter test edges ≡ []
none-left test [] all = refl
none-left test (edge ∷ edges) all = by (test edge) (All-head (λ (e : Edge). test e ≡ false) edge edges all) (none-left test edges (All-tail (λ (e : Edge). test e ≡ false) edge edges all))
  where
    by : (t : Bool) → t ≡ false → filter test edges ≡ [] → cond t (edge ∷ filter test edges) (filter test edges) ≡ []
    by false told rest = rest
    by true told rest = cc

-- of distinct edges those that are of some in their middle are these
pub only-mine : (before mine after : List Edge) → AreDistinct (before ++ (mine ++ after)) → filter (holds mine) (before ++ (mine ++ after)) ≡ mine
only-mine before mine after distinct =
    let Differ : Edge → Edge → Type 0 = λ one other. ¬ (HaveSameEnds one other) in
    let first : All (λ one. All (Differ one) (mine ++ after)) before = AllPairs-across Differ before (mine ++ after) distinct in
    let second : All (λ one. All (Differ one) after) mine = AllPairs-across Differ mine after (AllPairs-behind Differ before (mine ++ after) distinct) in
    filter-append (holds mine) before (mine ++ after)
    ∙ ap₂ (λ (front back : List Edge). front ++ back)
    (none-left (holds mine) before
    (All-weaker (λ one. All (Differ one) (mine ++ after)) (λ one. holds mine one ≡ false)
    (λ one apart. not-held mine one (λ held. All-contains (Differ one) mine one (All-front-of mine after one apart) held (inl refl))) before first))
    (filter-append (holds mine) mine after
    ∙ ap₂ (λ (front back : List Edge). front ++ back)
    (all-kept (holds mine) mine (All-weaker (Contains mine) (λ one. holds mine one ≡ true) (is-held mine) mine (All-contains_itself mine)))
    (none-left (holds mine) after
    (All-among (λ one. holds mine one ≡ false) after (λ one inside. not-held mine one (λ held. All-contains (Differ one) after one (All-contains (λ one. All (Differ one) after) mine one second held) inside (inl refl)))))
    ∙ append-nil mine)
  where
    All-front-of : (xs ys : List Edge) (one : Edge) → All (λ other. ¬ (HaveSameEnds one other)) (xs ++ ys) → All (λ other. ¬ (HaveSameEnds one other)) xs
    All-front-of xs ys one all = All-front (λ other. ¬ (HaveSameEnds one other)) xs ys all

-- ---- polygons

module _ (edges : List Edge) (noded : AreNoded edges) (distinct : AreDistinct edges) (once : (point : RationalPoint) → IsOneOrNone (winding edges point)) where
  -- some edges that keep together
  winds-mine : (before mine after : List Edge) → edges ≡ before ++ (mine ++ after) → KeepTogether edges mine → (point : RationalPoint) → IsOneOrNone (winding mine point)
  winds-mine before mine after are together point =
      subst (λ (list : List Edge). IsOneOrNone (winding list point))
      (ap (λ (list : List Edge). filter (holds mine) list) are ∙ only-mine before mine after (subst AreDistinct are distinct))
      (winds-own edges noded distinct once point (holds mine) (λ x one other next back. alike one other (together x one other next back)))
    where
      alike : (one other : Edge) → (Contains mine one → Contains mine other) × (Contains mine other → Contains mine one) → holds mine one ≡ holds mine other
      alike one other (there, back) = by (holds mine one) (holds mine other) refl refl
        where
          by : (s t : Bool) → holds mine one ≡ s → holds mine other ≡ t → s ≡ t
          by true true first second = refl
          by false false first second = refl
          by true false first second = sym (is-held mine other (there (holds-is mine one first))) ∙ second
          by false true first second = sym first ∙ is-held mine one (back (holds-is mine other second))

  -- one polygon after another
  winds-each : (before : List Edge) (polygons : List (List (List Point))) → edges ≡ before ++ polygon_edges polygons → All (λ polygon. KeepTogether edges (flat_map ring_edges polygon)) polygons
      → All (λ polygon. (point : RationalPoint) → IsOneOrNone (winding (flat_map ring_edges polygon) point)) polygons
  winds-each before [] are together = All-nil (λ (polygon : List (List Point)). (point : RationalPoint) → IsOneOrNone (winding (flat_map ring_edges polygon) point))
  winds-each before (polygon ∷ polygons) are together =
      let mine = flat_map ring_edges polygon in
      let after = polygon_edges polygons in
      let split : edges ≡ before ++ (mine ++ after) = are ∙ ap (λ (list : List Edge). before ++ list) (flat_map-append ring_edges polygon (rings_of polygons)) in
      All-cons (λ (p : List (List Point)). (point : RationalPoint) → IsOneOrNone (winding (flat_map ring_edges p) point)) polygon polygons
      (winds-mine before mine after split (All-head (λ (p : List (List Point)). KeepTogether edges (flat_map ring_edges p)) polygon polygons together))
      (winds-each (before ++ mine) polygons (split ∙ sym (append_assoc before mine after)) (All-tail (λ (p : List (List Point)). KeepTogether edges (flat_map ring_edges p)) polygon polygons together))

-- So each polygon winds once around a point or not at all.
pub each-once : (polygons : List (List (List Point))) → AreNoded (polygon_edges polygons) → AreDistinct (polygon_edges polygons) → ((point : RationalPoint) → (winding (polygon_edges polygons) point ≡ pos 0) ⊎ (winding (polygon_edges polygons) point ≡ pos 1))
    → All (λ polygon. KeepTogether (polygon_edges polygons) (flat_map ring_edges polygon)) polygons
    → All (λ polygon. (point : RationalPoint) → (winding (flat_map ring_edges polygon) point ≡ pos 0) ⊎ (winding (flat_map ring_edges polygon) point ≡ pos 1)) polygons
each-once polygons noded distinct once together = winds-each (polygon_edges polygons) noded distinct once [] polygons refl together
