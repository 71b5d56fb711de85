use Rattle.std.proofs.Common.{◌≡◌, List, length, ap, sym, subst₂, ◌∙◌, arith}
use Rattle.overlay.specs.Contours.Fans.{AreFans}
use Rattle.overlay.specs.declared.contours.fans.Fan.{Fan}
use Rattle.overlay.specs.declared.contours.fans.Spoke.{Spoke}
use Rattle.overlay.proofs.ContourLemmas.Fans.{fans-more}
use Rattle.overlay.proofs.contours.fans.append_fan.Goals as goal

pub returns : goal.returns
returns g c =
    let sorted = c.args.sorted.now in
    let fan : Fan = record { corner = c.args.corner; start = c.len-start.result; end = c.len-end.result } in
    let start : c.len-start.result ≡ length c.args.spokes.now.items = (let told = c.len-start.ensures in omega (arith, told)) in
    let end : c.len-end.result ≡ length c.extend_from_slice.new.self.items = (let told = c.len-end.ensures in omega (arith, told)) in
    subst₂ (λ (spokes : List Spoke) (fans : List Fan). AreFans sorted spokes fans) (sym c.in_ok-extend_from_slice.ensures.items) (sym c.in_ok-push.ensures.items)
    (fans-more sorted c.args.spokes.now.items c.args.fan.now c.args.fans.now.items fan c.requires.fans start (end ∙ ap (λ (list : List Spoke). length list) c.in_ok-extend_from_slice.ensures.items) c.requires.all
    c.if-not-are_clockwise.ensures)
