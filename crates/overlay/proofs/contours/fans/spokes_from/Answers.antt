use Rattle.overlay.specs.Contours.Order.{point_at}
use Rattle.overlay.proofs.ContourLemmas.Fans.{AreAllFrom-permuted}
use Rattle.overlay.proofs.contours.fans.spokes_from.Goals as goal

pub returns : goal.returns
returns g c =
    AreAllFrom-permuted c.args.sorted.now (point_at c.args.sorted.now c.args.corner) c.append_spokes.new.spokes.items c.sort_unstable_by.new.self.items c.sort_unstable_by.ensures.permutation c.in_ok-append_spokes.ensures
