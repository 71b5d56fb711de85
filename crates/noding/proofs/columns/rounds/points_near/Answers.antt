use Rattle.std.proofs.Common.{[], List, pos, subst, sym}
use Rattle.plane.specs.declared.point.Point.{Point}
use Rattle.plane.specs.Gains.{GainsThese, IsOfSome}
use Rattle.noding.specs.Columns.Rounds.{IsOneWithin}
use Rattle.plane.proofs.GainsLemmas.{gains-all, gains-next, gains-none, none_of}
use Rattle.noding.proofs.columns.rounds.points_near.Goals as goal

pub loop-point-init : goal.loop-point-init
loop-point-init g c =
    let around = c.box_around-around.result in
    subst (λ (list : List Point). GainsThese (IsOfSome (IsOneWithin around) []) [] list) (sym c.new-near.ensures.items) (gains-none (IsOfSome (IsOneWithin around) []) [] (none_of (IsOneWithin around)))

pub loop-point-preserved : goal.loop-point-preserved
loop-point-preserved g c =
    let none : Point = record { x = pos 0; y = pos 0 } in
    gains-next (IsOneWithin c.box_around-around.result) c.args.hot.now c.loop-point.point-index none [] c.loop-point.near.items c.push_if_within.new.points.items c.loop-point-test.true c.loop-point.invariant c.in_ok-push_if_within.ensures

pub returns : goal.returns
returns g c = (
  c.box_around-around.result,
  c.box_around-around.ensures,
  gains-all (IsOneWithin c.box_around-around.result) c.args.hot.now c.loop-point.point-index [] c.loop-point.near.items c.loop-point-test.false c.loop-point.invariant,
)
