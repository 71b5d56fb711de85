use Rattle.std.proofs.Common.{rules, pos, inr, refl, subst, sym}
use Rattle.tiles.specs.Tile.{IsTileFault}
use Rattle.tiles.specs.Window.{CanCropTo}
use Rattle.itree_c.specs.Choices.{AreChoices}
use Rattle.itree_c.specs.Tiles.{HaveEnds, HoldsTile}
use Rattle.itree_c.proofs.TileLemmas.{sides-stable}
use Rattle.itree_c.proofs.tiled.all_of_tile.Goals as goal

pub returns-in-Err-Empty : goal.returns-in-Err-Empty
returns-in-Err-Empty c =
    let told = c.in-Err-Empty.field-0-is in
    let fault = subst (IsTileFault c.args.window.now) told c.in-Err-Empty.ensures.fault in
    let none : ¬ (CanCropTo c.args.window.now) = λ can. fault can.some in
    let choices : AreChoices c.args.rule c.args.operation = search (rules) in
    let ends : HaveEnds c.args.subject.points.now c.args.subject.ends.now c.args.clip.points.now c.args.clip.ends.now = sides-stable c.args.subject.points.now c.args.subject.ends.now c.args.clip.points.now c.args.clip.ends.now (λ wrong. let is = c.in-Err-Empty.ensures.lengths.1 wrong in cc) in
    let held = subst (HoldsTile c.args.window.now c.args.subject.points.now c.args.subject.ends.now c.args.clip.points.now c.args.clip.ends.now c.args.rule c.args.operation (pos 10)) (sym c.null-in-Err-Empty.ensures) (inr (inr (inr refl))) in
    (held, (λ is. cc, λ wrong. absurd (wrong choices)), (λ is. cc, λ wrong. absurd (wrong.1 ends)), (λ is. (choices, ends, none), λ all. refl))

pub returns-in-Err-Margin : goal.returns-in-Err-Margin
returns-in-Err-Margin c =
    let told = c.in-Err-Margin.field-0-is in
    let fault = subst (IsTileFault c.args.window.now) told c.in-Err-Margin.ensures.fault in
    let none : ¬ (CanCropTo c.args.window.now) = λ can. fault.1 can.margin in
    let choices : AreChoices c.args.rule c.args.operation = search (rules) in
    let ends : HaveEnds c.args.subject.points.now c.args.subject.ends.now c.args.clip.points.now c.args.clip.ends.now = sides-stable c.args.subject.points.now c.args.subject.ends.now c.args.clip.points.now c.args.clip.ends.now (λ wrong. let is = c.in-Err-Margin.ensures.lengths.1 wrong in cc) in
    let held = subst (HoldsTile c.args.window.now c.args.subject.points.now c.args.subject.ends.now c.args.clip.points.now c.args.clip.ends.now c.args.rule c.args.operation (pos 10)) (sym c.null-in-Err-Margin.ensures) (inr (inr (inr refl))) in
    (held, (λ is. cc, λ wrong. absurd (wrong choices)), (λ is. cc, λ wrong. absurd (wrong.1 ends)), (λ is. (choices, ends, none), λ all. refl))
