use Rattle.std.proofs.Common.{refl, sym, subst}
use Rattle.plane.specs.declared.point.Point.{Point}
use Rattle.overlay.specs.Contours.Order.{IsFirstFrom}
use Rattle.overlay.proofs.ContourLemmas.Order.{corner-from}
use Rattle.overlay.proofs.contours.fans.crowded_corner.Goals as goal

pub returns : goal.returns
returns c =
    let sorted = c.args.sorted.now in
    let at = c.start_of.result in
    let (same, is) = corner-from sorted c.requires at c.first_from.result c.first_from.ensures c.args.place c.if-not-is_crowded.ensures (sym c.start_of.ensures) in (
      is.inside,
      subst (λ (p : Point). IsFirstFrom sorted p c.first_from.result) (sym same) c.first_from.ensures,
    )
