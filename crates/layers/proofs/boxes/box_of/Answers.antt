use Rattle.std.proofs.Common.{◌+◌, ◌<◌, [], length, take, pos, arith, sym, subst, ◌∙◌}
use Rattle.std.proofs.lemmas.Bool.{eqb-false}
use Rattle.std.proofs.lemmas.List.{take_all}
use Rattle.plane.specs.declared.pairs.items.Bounds.{Bounds}
use Rattle.plane.specs.declared.point.Point.{Point}
use Rattle.layers.proofs.BoxLemmas.{IsBoxUpto, IsBoxUpto-begins, IsBoxUpto-more, IsBoxOf-all, IsBox-of}
use Rattle.layers.proofs.boxes.box_of.Goals as goal

none : Point
none = record { x = pos 0; y = pos 0 }

pub loop-point-init : goal.loop-point-init
unfolding none
loop-point-init c =
    let points = c.args.points.now in
    let some : 0 < length points = (let not_empty = eqb-false _ _ (sym c.is_empty.ensures ∙ c.if-is_empty.false) in omega (arith, not_empty)) in
    subst (λ (bounds : Bounds). IsBoxUpto points [] bounds) (sym c.box_at-bounds.ensures) (IsBoxUpto-begins points 0 none some)

pub loop-point-preserved : goal.loop-point-preserved
unfolding none
loop-point-preserved c =
    let points = c.args.points.now in
    let k = c.loop-point.point-index in
    subst (λ (bounds : Bounds). IsBoxUpto points (take (k + 1) points) bounds) (sym c.grown-bounds.ensures) (IsBoxUpto-more points k none c.loop-point-test.true c.loop-point.bounds c.loop-point.invariant)

pub returns : goal.returns
returns c =
    let points = c.args.points.now in
    let past = c.loop-point-test.false in
    let is = IsBoxOf-all points (take c.loop-point.point-index points) c.loop-point.bounds (take_all c.loop-point.point-index points past) c.loop-point.invariant in
    (is, IsBox-of points c.loop-point.bounds is)
