use Rattle.std.proofs.Common.{◌≡◌, ◌<◌, [], Bool, List, false, get_or, length, true, ap, sym, ◌∙◌, arith}
use Rattle.std.proofs.lemmas.List.{get_or-map}
use Rattle.overlay.specs.Polygons.{is_counterclockwise}
use Rattle.overlay.specs.Rings.{rings_of}
use Rattle.overlay.proofs.EachRing.{rings-size}
use Rattle.overlay.proofs.GroupingLemmas.Callers.{marks-size}
use Rattle.overlay.proofs.GroupingLemmas.Homes.{firsts-kept}
use Rattle.overlay.proofs.grouping.holes.holes.Goals as goal

pub bounds-are_outer-ring : goal.bounds-are_outer-ring
bounds-are_outer-ring g c = let size = marks-size c.args.points.now c.args.ends.now c.args.are_outer.now c.requires.outer in let inside = c.loop-ring-test.true in omega (arith, size, inside)

pub loop-ring-preserved-then-are_outer-ring : goal.loop-ring-preserved-then-are_outer-ring
loop-ring-preserved-then-are_outer-ring g c =
    let rings = rings_of c.args.points.now 0 c.args.ends.now in
    let k = c.loop-ring.ring in
    let size = rings-size c.args.points.now 0 c.args.ends.now in
    let inside = c.loop-ring-test.true in
    let mark = ap (λ (marks : List Bool). get_or marks k false) c.requires.outer ∙ get_or-map is_counterclockwise rings k [] false (omega (arith, size, inside)) in
    (firsts-kept rings k _ c.loop-ring.invariant.0 (λ edge clockwise first. never (sym c.if-are_outer-ring.true ∙ mark ∙ clockwise)), c.loop-ring.invariant.1)
  where
    never : true ≡ false → ⊥
    never h = cc

pub loop-ring-preserved : goal.loop-ring-preserved
loop-ring-preserved g c =
    let rings = rings_of c.args.points.now 0 c.args.ends.now in
    let k = c.loop-ring.ring in
    let size = rings-size c.args.points.now 0 c.args.ends.now in
    let inside = c.loop-ring-test.true in
    let within : k < length rings = omega (arith, size, inside) in
    let mark = ap (λ (marks : List Bool). get_or marks k false) c.requires.outer ∙ get_or-map is_counterclockwise rings k [] false within in
    (c.in_ok-append_hole.ensures.firsts rings within c.ring_at.ensures (ap is_counterclockwise c.ring_at.ensures ∙ sym mark ∙ c.if-are_outer-ring.false) c.loop-ring.invariant.0, c.in_ok-append_hole.ensures.untold c.loop-ring.invariant.1)
