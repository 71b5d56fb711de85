use Rattle.std.proofs.Common.{Vec, subst₂, sym}
use Rattle.overlay.specs.Contours.Fans.{AreFans}
use Rattle.overlay.specs.declared.contours.fans.Fan.{Fan}
use Rattle.overlay.specs.declared.contours.fans.Spoke.{Spoke}
use Rattle.overlay.proofs.contours.fans.fans_of.Goals.{else-loop-place-test, then-loop-place-test+then-place-end+else-place-end-place-gt64, then-loop-place-test+else-place-end+in_default+else-place-end-place-gt64-2, then-loop-place-test+else-place-end+in-Some+in_ok-fan+in_ok-append_fan+else-place-end-place-gt64-3}
use Rattle.overlay.proofs.contours.fans.fans_of.Goals as goal

pub loop-place-preserved : goal.loop-place-preserved
loop-place-preserved g c = c.in_ok-append_fan.ensures

pub returns : goal.returns
returns g c =
    let sorted = c.args.sorted.now in
    elim c.loop-place-test.branch [
      | else-loop-place-test w ↦ subst₂ (λ (fans : Vec Fan g.row.A.Denot) (spokes : Vec Spoke g.row.A.Denot). AreFans sorted spokes.items fans.items) (sym w.fans-is) (sym w.spokes-is) c.loop-place.invariant
      | then-loop-place-test+then-place-end+else-place-end-place-gt64 w ↦ subst₂ (λ (fans : Vec Fan g.row.A.Denot) (spokes : Vec Spoke g.row.A.Denot). AreFans sorted spokes.items fans.items) (sym w.fans-is) (sym w.spokes-is) c.loop-place.invariant
      | then-loop-place-test+else-place-end+in_default+else-place-end-place-gt64-2 w ↦ subst₂ (λ (fans : Vec Fan g.row.A.Denot) (spokes : Vec Spoke g.row.A.Denot). AreFans sorted spokes.items fans.items) (sym w.fans-is) (sym w.spokes-is) c.loop-place.invariant
      | then-loop-place-test+else-place-end+in-Some+in_ok-fan+in_ok-append_fan+else-place-end-place-gt64-3 w ↦
          subst₂ (λ (fans : Vec Fan g.row.A.Denot) (spokes : Vec Spoke g.row.A.Denot). AreFans sorted spokes.items fans.items) (sym w.fans-is) (sym w.spokes-is) w.in_ok-append_fan.ensures
    ]
