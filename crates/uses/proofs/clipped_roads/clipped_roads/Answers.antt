use Rattle.std.proofs.Common.{Err, ◌≡◌, ◌++◌, ◌-◌, [], ℕ, List, Option, length, take, drop, map, ap, sym, subst, ◌∙◌, arith}
use Rattle.std.specs.List.{AllZip}
use Rattle.std.proofs.lemmas.List.{append-nil, length-drop, take_all}
use Rattle.std.proofs.lemmas.List.Elements.{Contains-append_right}
use Rattle.plane.specs.declared.edge.Edge.{Edge}
use Rattle.plane.specs.declared.point.Point.{Point}
use Rattle.plane.specs.Locate.Answers.{IsPlaceBelow}
use Rattle.plane.specs.SweepLine.Crossings.{IsCrossing}
use Rattle.overlay.specs.declared.fill.rules.FillRule.TheVariants.{NonZero}
use Rattle.overlay.specs.declared.fill.rules.Operation.TheVariants.{Union}
use Rattle.overlay.specs.Boundary.{AreBroken}
use Rattle.overlay.specs.Fill.Filled.{AreNoded, IsFilled}
use Rattle.noding.specs.Windings.{IsClosed}
use Rattle.overlay.proofs.BoundaryLemmas.Bounding.{broken-noded, clip-closed}
use Rattle.overlay.proofs.ContourLemmas.Counts.{rings-closed}
use Rattle.overlay.specs.Rings.{rings_of}
use Rattle.uses.specs.Roads.{double, kept, twice_middle}
use Rattle.uses.proofs.RoadLemmas.{none-crosses}
use Rattle.uses.proofs.clipped_roads.clipped_roads.Goals as goal

-- what a slice to its list's end is
rest-is : (items list : List Edge) (count : ℕ) → list ≡ items → take (length list - count) (drop count list) ≡ drop count items
rest-is items list count is = take_all (length list - count) (drop count list) (let size = length-drop count list in omega (arith, size)) ∙ ap (λ (edges : List Edge). drop count edges) is

-- the last of edges that meet only at common ends do
noded-back : (front back list : List Edge) → AreNoded (front ++ back) → list ≡ back → AreNoded (list ++ [])
noded-back front back list noded is =
    subst AreNoded (sym (append-nil list ∙ is))
    (λ one other point first second of of_other. noded one other point (Contains-append_right front back one first) (Contains-append_right front back other second) of of_other)

pub fill-requires-clause-closed : goal.fill-requires-clause-closed
fill-requires-clause-closed c =
    let count = c.in_ok-pieces.count in
    let items = c.in_ok-pieces.pieces.items in
    let rings = c.deref.result.now in
    subst IsClosed (sym (rest-is items c.deref-2.result.now count c.deref-2.ensures.value))
    (clip-closed c.args.roads.now rings (take count items) (drop count items) c.in_ok-pieces.ensures.ok.1
    (subst IsClosed (sym (c.deref.ensures.value ∙ c.in_ok-ring_edges.ensures)) (λ test. rings-closed test (rings_of c.args.rings.points.now 0 c.args.rings.ends.now))))

pub fill-requires-clause-noded : goal.fill-requires-clause-noded
fill-requires-clause-noded c =
    let count = c.in_ok-pieces.count in
    let items = c.in_ok-pieces.pieces.items in
    noded-back (take count items) (drop count items) _ (broken-noded c.args.roads.now c.deref.result.now (take count items) (drop count items) c.in_ok-pieces.ensures.ok.1) (rest-is items c.deref-2.result.now count c.deref-2.ensures.value)

-- edges that bound the inside meet only at common ends, so they don't cross
pub unreachable-requires : goal.unreachable-requires
unreachable-requires c =
    let (edges, bounds_are, filled) = c.in_ok-fill.ensures.ok in
    let bounds = bounds_are ∙ ap (λ (before : List Edge). before ++ edges) c.new-bounds.ensures.items in
    let doubled = c.deref-5.ensures.value ∙ c.in_ok-doubled.ensures ∙ ap (λ (list : List Edge). map double list) (c.deref-4.ensures.value ∙ bounds) in
    let i = c.in-Err-Cross.field-0-0 in
    let j = c.in-Err-Cross.field-0-1 in
    none-crosses edges filled.noded i j (subst (λ (list : List Edge). IsCrossing list i j) doubled (c.locate.ensures.crossing i j (c.in-Err-Cross.is ∙ ap Err c.in-Err-Cross.field-0-is)))

pub returns-in-Ok : goal.returns-in-Ok
returns-in-Ok c =
    let count = c.in_ok-pieces.count in
    let items = c.in_ok-pieces.pieces.items in
    let (edges, bounds_are, filled) = c.in_ok-fill.ensures.ok in
    let (_, answers, places_are, located) = c.in-Ok.ensures.ok in
    let bounds = bounds_are ∙ ap (λ (before : List Edge). before ++ edges) c.new-bounds.ensures.items in
    let places = places_are ∙ ap (λ (before : List (Option ℕ)). before ++ answers) c.new-places.ensures.items in
    let doubled = c.deref-5.ensures.value ∙ c.in_ok-doubled.ensures ∙ ap (λ (list : List Edge). map double list) (c.deref-4.ensures.value ∙ bounds) in
    let middles = c.deref-6.ensures.value ∙ c.in_ok-middles.ensures ∙ ap (λ (list : List Edge). map twice_middle (take count list)) c.deref-3.ensures.value in
    record {
      ok = record {
        pieces = take count items;
        ring_pieces = drop count items;
        broken = subst (λ (rings : List Edge). AreBroken c.args.roads.now rings (take count items) (drop count items)) (c.deref.ensures.value ∙ c.in_ok-ring_edges.ensures) c.in_ok-pieces.ensures.ok.1;
        bounds = edges;
        filled = subst (λ (list : List Edge). IsFilled NonZero Union list [] edges) (rest-is items c.deref-2.result.now count c.deref-2.ensures.value) filled;
        places = answers;
        below = subst (λ (list : List Edge). AllZip (IsPlaceBelow list) (map twice_middle (take count items)) answers) doubled
            (subst (λ (points : List Point). AllZip (IsPlaceBelow c.deref-5.result.now) points answers) middles located);
        is = c.in_ok-kept_pieces-in-Ok.ensures
            ∙ ap (λ (list : List Edge). kept list (take count c.deref-3.result.now) c.deref-in-Ok-2.result.now) (c.deref-in-Ok.ensures.value ∙ bounds)
            ∙ ap (λ (list : List Edge). kept edges (take count list) c.deref-in-Ok-2.result.now) c.deref-3.ensures.value
            ∙ ap (λ (list : List (Option ℕ)). kept edges (take count items) list) (c.deref-in-Ok-2.ensures.value ∙ places);
      };
    }
