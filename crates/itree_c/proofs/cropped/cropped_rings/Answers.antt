use Rattle.std.proofs.Common.{◌≡◌, [], ◌∷◌, ◌++◌, ◌∙◌, ℕ, List, ap, arith, subst}
use Rattle.plane.specs.declared.point.Point.{Point}
use Rattle.tiles.specs.Crop.{IsCropped}
use Rattle.tiles.specs.Window.{LiesBeyond, widened}
use Rattle.itree_c.proofs.CropLemmas.{all-cropped, none-cropped, nothing-cropped, one-more-cropped}
use Rattle.itree_c.proofs.cropped.cropped_rings.Goals as goal

pub loop-ring-init : goal.loop-ring-init
loop-ring-init c =
    let (_, (cropped, is, points_are)) = c.in_ok-crop.ensures.ok in
    none-cropped c.args.window _ _ (points_are ∙ ap (λ (all : List Point). all ++ cropped) c.new-points.ensures.items ∙ nothing-cropped c.args.window cropped is)
    (c.in_ok-push.ensures.items ∙ ap (λ (all : List ℕ). all ++ 0 ∷ []) c.new-offsets.ensures.items)

pub loop-ring-preserved : goal.loop-ring-preserved
loop-ring-preserved c =
    let (_, (next, is, points_are)) = c.in_ok-crop-2.ensures.ok in
    let told = c.len.ensures in
    one-more-cropped c.args.window c.args.rings.points.now c.args.rings.ends.now c.loop-ring.ring next _ _ _ _ c.len.result c.loop-ring-test.true
    (subst (λ (ring : List Point). IsCropped c.args.window ring next) c.ring_at.ensures is)
    (subst (λ (ring : List Point). LiesBeyond (widened c.args.window) ring → c.crop-in-loop-ring.new.out.items ≡ c.loop-ring.points.items) c.ring_at.ensures c.in_ok-crop-2.ensures.gone)
    points_are c.in_ok-push-2.ensures.items (omega (arith, told)) c.loop-ring.invariant

pub returns-clause-ok : goal.returns-clause-ok
returns-clause-ok c =
    let can = c.in_ok-crop.ensures.ok.0 in
    (can, all-cropped c.args.window c.args.rings.points.now c.args.rings.ends.now c.loop-ring.ring _ _ c.loop-ring-test.false c.loop-ring.invariant)
