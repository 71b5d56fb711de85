use Rattle.std.proofs.Common.{[], ◌∷◌, ◌++◌, List, subst, arith}
use Rattle.std.specs.List.{flat_map}
use Rattle.plane.specs.declared.point.Point.{Point}
use Rattle.overlay.specs.Contours.Rings.{ring_edges}
use Rattle.overlay.proofs.EachRing.{rings_all}
use Rattle.tiles.specs.Crop.{IsCropped}
use Rattle.tiles.specs.Tile.{AreInPlace}
use Rattle.tiles.proofs.InPlace.{AreInPlace-none, AreInPlace-ring, AreJoined-more}
use Rattle.tiles.proofs.near.near_rings.Goals as goal

pub loop-ring-init : goal.loop-ring-init
loop-ring-init g c = ([], (c.new-points.ensures.items, c.new-ends.ensures.items), AreInPlace-none c.args.window)

pub loop-ring-preserved : goal.loop-ring-preserved
loop-ring-preserved g c =
    let (cropped, joined, in_place) = c.loop-ring.invariant in
    let (_, (next, is, points_are)) = c.in_ok-crop.ensures.ok in
    let told = c.len.ensures in (
      cropped ++ next ∷ [],
      AreJoined-more cropped next _ _ _ _ c.len.result points_are c.in_ok-push.ensures.items (omega (arith, told)) joined,
      AreInPlace-ring c.args.window c.args.rings.points.now c.args.rings.ends.now c.loop-ring.ring cropped next c.loop-ring-test.true
          (subst (λ (ring : List Point). IsCropped c.args.window ring next) c.ring_at.ensures is) in_place,
    )

pub returns-clause-ok : goal.returns-clause-ok
returns-clause-ok g c =
    let (cropped, joined, in_place) = c.loop-ring.invariant in
    let past = c.loop-ring-test.false in (
      cropped,
      joined,
      subst (λ (rings : List (List Point)). AreInPlace c.args.window (flat_map ring_edges rings) (flat_map ring_edges cropped)) (rings_all c.args.rings.points.now c.args.rings.ends.now c.loop-ring.ring (omega (arith, past))) in_place,
    )
