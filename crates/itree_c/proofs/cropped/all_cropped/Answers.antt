use Rattle.std.proofs.Common.{pos, inr, length, refl, subst, sym}
use Rattle.overlay.specs.Rings.{AreEnds}
use Rattle.tiles.specs.Tile.{IsTileFault}
use Rattle.tiles.specs.Window.{CanCropTo}
use Rattle.itree_c.specs.Tiles.{HoldsCrop}
use Rattle.itree_c.proofs.TileLemmas.{ends-stable}
use Rattle.itree_c.proofs.cropped.all_cropped.Goals as goal

pub returns-in-Err-Empty : goal.returns-in-Err-Empty
returns-in-Err-Empty c =
    let told = c.in-Err-Empty.field-0-is in
    let fault = subst (IsTileFault c.args.window.now) told c.in-Err-Empty.ensures.fault in
    let none : ¬ (CanCropTo c.args.window.now) = λ can. fault can.some in
    let ends : AreEnds 0 c.args.ends.now (length c.args.points.now) = ends-stable 0 c.args.ends.now (length c.args.points.now) (λ wrong. let is = c.in-Err-Empty.ensures.lengths.1 wrong in cc) in
    let held = subst (HoldsCrop c.args.window.now c.args.points.now c.args.ends.now (pos 10)) (sym c.null-in-Err-Empty.ensures) (inr (inr refl)) in
    (held, (λ is. cc, λ wrong. absurd (wrong ends)), (λ is. (ends, none), λ all. refl))

pub returns-in-Err-Margin : goal.returns-in-Err-Margin
returns-in-Err-Margin c =
    let told = c.in-Err-Margin.field-0-is in
    let fault = subst (IsTileFault c.args.window.now) told c.in-Err-Margin.ensures.fault in
    let none : ¬ (CanCropTo c.args.window.now) = λ can. fault.1 can.margin in
    let ends : AreEnds 0 c.args.ends.now (length c.args.points.now) = ends-stable 0 c.args.ends.now (length c.args.points.now) (λ wrong. let is = c.in-Err-Margin.ensures.lengths.1 wrong in cc) in
    let held = subst (HoldsCrop c.args.window.now c.args.points.now c.args.ends.now (pos 10)) (sym c.null-in-Err-Margin.ensures) (inr (inr refl)) in
    (held, (λ is. cc, λ wrong. absurd (wrong ends)), (λ is. (ends, none), λ all. refl))
