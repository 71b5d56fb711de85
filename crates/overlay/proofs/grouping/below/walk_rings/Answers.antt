use Rattle.std.proofs.Common.{◌<◌, ◌++◌, [], List, get_or, length, refl, ap, sym, subst, take, ◌∙◌, arith}
use Rattle.std.specs.List.{All, flat_map}
use Rattle.std.proofs.lemmas.List.{take_all}
use Rattle.plane.specs.declared.edge.Edge.{Edge}
use Rattle.plane.specs.declared.point.Point.{Point}
use Rattle.overlay.specs.Contours.Rings.{ring_edges}
use Rattle.overlay.specs.Grouping.{IsTold, begins_of}
use Rattle.overlay.specs.declared.grouping.sides.Side.{Side}
use Rattle.overlay.proofs.EachRing.{rings-size}
use Rattle.overlay.proofs.GroupingLemmas.Told.{edges-next, none-told}
use Rattle.overlay.proofs.grouping.below.walk_rings.Goals as goal

pub loop-ring-init : goal.loop-ring-init
loop-ring-init g c = record { same = refl; of = c.requires.1.1.1.1.1.0; told = none-told c.args.holes.now }

pub walk-requires : goal.walk-requires
walk-requires g c =
    let size = rings-size c.args.points.now 0 c.args.ends.now in
    let same = ap (λ (rings : List (List Point)). length rings) c.requires.1.1.1.0 in
    let inside = c.loop-ring-test.true in (
      c.requires.0 ∙ ap (λ (sides : List Side). begins_of sides) (sym c.loop-ring.invariant.same),
      (
        c.requires.1.0,
        (
          c.requires.1.1.1.1.0,
          (
            omega (arith, size, same, inside),
            (c.ring_at.ensures ∙ ap (λ (rings : List (List Point)). get_or rings c.loop-ring.ring []) (sym c.requires.1.1.1.0), c.loop-ring.invariant.of),
          ),
        ),
      ),
    )

pub loop-ring-preserved : goal.loop-ring-preserved
loop-ring-preserved g c =
    let k = c.loop-ring.ring in
    let size = rings-size c.args.points.now 0 c.args.ends.now in
    let same = ap (λ (rings : List (List Point)). length rings) c.requires.1.1.1.0 in
    let test = c.loop-ring-test.true in
    let inside : k < length g.rings = omega (arith, size, same, test) in
    let ring = c.ring_at.ensures ∙ ap (λ (rings : List (List Point)). get_or rings k []) (sym c.requires.1.1.1.0) in
    let before = flat_map ring_edges (take k g.rings) in
    record {
      same = c.walk.ensures.same ∙ c.loop-ring.invariant.same;
      of = c.walk.ensures.holes;
      told = subst (λ (edges : List Edge). All (IsTold edges) c.walk.new.holes) (ap (λ (points : List Point). before ++ ring_edges points) ring ∙ sym (edges-next g.rings k inside)) (c.walk.ensures.told before c.loop-ring.invariant.told);
    }

pub returns : goal.returns
returns g c =
    let size = rings-size c.args.points.now 0 c.args.ends.now in
    let same = ap (λ (rings : List (List Point)). length rings) c.requires.1.1.1.0 in
    let past = c.loop-ring-test.false in
    record {
      same = c.loop-ring.invariant.same;
      of = c.loop-ring.invariant.of;
      told = subst (λ (rings : List (List Point)). All (IsTold (flat_map ring_edges rings)) c.loop-ring.holes) (take_all c.loop-ring.ring g.rings (omega (arith, size, same, past))) c.loop-ring.invariant.told;
    }
