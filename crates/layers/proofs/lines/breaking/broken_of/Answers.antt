use Rattle.std.proofs.Common.{◌≡◌, ◌≤◌, ◌-◌, ◌++◌, [], ℕ, List, length, map, take, ap, ap₂, ◌∙◌, arith}
use Rattle.std.specs.List.{flat_map}
use Rattle.std.proofs.lemmas.List.{length-append}
use Rattle.plane.specs.declared.edge.Edge.{Edge}
use Rattle.plane.specs.declared.point.Point.{Point}
use Rattle.noding.specs.Offsets.{offsets}
use Rattle.noding.specs.Windings.{pieces}
use Rattle.noding.proofs.SnapLemmas.Paths.{IsPath-chains}
use Rattle.overlay.proofs.BoundaryLemmas.Broken.{chains-count, chains-some}
use Rattle.layers.specs.LineParts.{AreGathered, real_ring}
use Rattle.layers.specs.Lines.{line_edges}
use Rattle.layers.proofs.LineLemmas.Broken.{broken-edges, gathered-cut, gathered-within, rings-behind, stops-some}
use Rattle.layers.proofs.lines.breaking.broken_of.Goals as goal

-- chains that are appended to nothing stop so
stops : (chains : List (List Point)) (points : List Point) (before after now : List ℕ) → points ≡ [] → before ≡ [] → after ≡ before ++ offsets (length points) chains → now ≡ after → now ≡ offsets 0 chains
stops chains points before after now no_points none are is = is ∙ are ∙ ap₂ (λ (list : List ℕ) (all : List Point). list ++ offsets (length all) chains) none no_points

within : (lines rings : List (List Point)) (edges : List Edge) (line_ends ring_ends : List ℕ) (count : ℕ) → AreGathered lines rings edges line_ends ring_ends → count ≡ length (flat_map line_edges lines) → count ≤ length edges
within lines rings edges line_ends ring_ends count gathered is =
    let size = ap (λ (list : List Edge). length list) gathered.is in
    let sum = length-append (flat_map line_edges lines) (flat_map real_ring rings) in
    omega (arith, is, size, sum)

pub count_pieces-count-requires : goal.count_pieces-count-requires
count_pieces-count-requires g c =
    let (lines, rings, gathered, is) = c.requires in
    let edges = c.args.edges.now in
    let (chains, are, _, ends) = c.in_ok-snap.ensures.ok in
    let paths = IsPath-chains edges edges chains (λ edge among. among) are in (
      chains,
      stops chains c.in_ok-points.points.items c.in_ok-ends.ends.items c.snap.new.ends.items c.deref-3.result.now c.in_ok-points.ensures.items c.in_ok-ends.ensures.items ends c.deref-3.ensures.value,
      chains-some edges chains paths,
      chains-count edges chains c.args.count (within lines rings edges c.args.line_ends.now c.args.ring_ends.now c.args.count gathered is) paths,
    )

pub counts_of-requires : goal.counts_of-requires
counts_of-requires g c =
    let (lines, rings, gathered, is) = c.requires in
    let edges = c.args.edges.now in
    let (chains, are, _, ends) = c.in_ok-snap.ensures.ok in
    stops-some edges c.deref-4.result.now chains c.args.line_ends.now are
    (stops chains c.in_ok-points.points.items c.in_ok-ends.ends.items c.snap.new.ends.items c.deref-4.result.now c.in_ok-points.ensures.items c.in_ok-ends.ensures.items ends c.deref-4.ensures.value)
    (gathered-within lines rings edges c.args.line_ends.now c.args.ring_ends.now gathered).0

pub counts_of-requires-2 : goal.counts_of-requires-2
counts_of-requires-2 g c =
    let (lines, rings, gathered, is) = c.requires in
    let edges = c.args.edges.now in
    let (chains, are, _, ends) = c.in_ok-snap.ensures.ok in
    stops-some edges c.deref-5.result.now chains c.args.ring_ends.now are
    (stops chains c.in_ok-points.points.items c.in_ok-ends.ends.items c.snap.new.ends.items c.deref-5.result.now c.in_ok-points.ensures.items c.in_ok-ends.ensures.items ends c.deref-5.ensures.value)
    (gathered-within lines rings edges c.args.line_ends.now c.args.ring_ends.now gathered).1

pub moved_back-requires : goal.moved_back-requires
moved_back-requires g c =
    let (lines, rings, gathered, is) = c.requires in
    let edges = c.args.edges.now in
    let (chains, are, _, ends) = c.in_ok-snap.ensures.ok in
    let paths = IsPath-chains edges edges chains (λ edge among. among) are in
    let some = chains-some edges chains paths in
    let inside = chains-count edges chains c.args.count (within lines rings edges c.args.line_ends.now c.args.ring_ends.now c.args.count gathered is) paths in
    let stops_3 = stops chains c.in_ok-points.points.items c.in_ok-ends.ends.items c.snap.new.ends.items c.deref-3.result.now c.in_ok-points.ensures.items c.in_ok-ends.ensures.items ends c.deref-3.ensures.value in
    let stops_5 = stops chains c.in_ok-points.points.items c.in_ok-ends.ends.items c.snap.new.ends.items c.deref-5.result.now c.in_ok-points.ensures.items c.in_ok-ends.ensures.items ends c.deref-5.ensures.value in
    rings-behind lines rings chains (gathered-cut lines rings edges c.args.line_ends.now c.args.ring_ends.now chains gathered are) c.count_pieces-count.result c.deref-6.result.now
    (c.count_pieces-count.ensures chains stops_3 some inside ∙ ap (λ (n : ℕ). length (flat_map pieces (take n chains))) is)
    (c.deref-6.ensures.value ∙ c.in_ok-of_rings.ensures chains stops_5 some ∙ ap (λ (numbers : List ℕ). map (λ number. length (flat_map pieces (take number chains))) numbers) gathered.rings_end)

pub returns-clause-ok : goal.returns-clause-ok
returns-clause-ok g c = λ lines rings gathered is.
    let edges = c.args.edges.now in
    let (chains, are, points, ends) = c.in_ok-snap.ensures.ok in
    let paths = IsPath-chains edges edges chains (λ edge among. among) are in
    let some = chains-some edges chains paths in
    let inside = chains-count edges chains c.args.count (within lines rings edges c.args.line_ends.now c.args.ring_ends.now c.args.count gathered is) paths in
    let none = c.in_ok-points.ensures.items in
    let stops_2 = stops chains c.in_ok-points.points.items c.in_ok-ends.ends.items c.snap.new.ends.items c.deref-2.result.now none c.in_ok-ends.ensures.items ends c.deref-2.ensures.value in
    let stops_3 = stops chains c.in_ok-points.points.items c.in_ok-ends.ends.items c.snap.new.ends.items c.deref-3.result.now none c.in_ok-ends.ensures.items ends c.deref-3.ensures.value in
    let stops_4 = stops chains c.in_ok-points.points.items c.in_ok-ends.ends.items c.snap.new.ends.items c.deref-4.result.now none c.in_ok-ends.ensures.items ends c.deref-4.ensures.value in
    let stops_5 = stops chains c.in_ok-points.points.items c.in_ok-ends.ends.items c.snap.new.ends.items c.deref-5.result.now none c.in_ok-ends.ensures.items ends c.deref-5.ensures.value in
    let joined = c.deref.ensures.value ∙ points ∙ ap (λ (list : List Point). list ++ flat_map (λ chain. chain) chains) none in
    let counted : List ℕ → List ℕ = λ numbers. map (λ number. length (flat_map pieces (take number chains))) numbers in
    broken-edges lines rings chains (gathered-cut lines rings edges c.args.line_ends.now c.args.ring_ends.now chains gathered are) c.in_ok-pieces.pieces.items c.count_pieces-count.result c.in_ok-of_lines.of_lines.items c.in_ok-moved_back.field-0.items
    (c.in_ok-pieces.ensures chains (joined, stops_2))
    (c.count_pieces-count.ensures chains stops_3 some inside ∙ ap (λ (n : ℕ). length (flat_map pieces (take n chains))) is)
    (c.in_ok-of_lines.ensures chains stops_4 some ∙ ap counted gathered.lines_end)
    (c.in_ok-moved_back.ensures ∙ ap (λ (numbers : List ℕ). map (λ end. end - c.count_pieces-count.result) numbers) (c.deref-6.ensures.value ∙ c.in_ok-of_rings.ensures chains stops_5 some ∙ ap counted gathered.rings_end))
