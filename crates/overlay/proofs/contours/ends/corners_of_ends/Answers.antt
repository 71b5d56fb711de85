use Rattle.std.proofs.Common.{subst}
use Rattle.plane.specs.declared.point.Point.{Point}
use Rattle.overlay.specs.Contours.Order.{IsFirstFrom}
use Rattle.overlay.proofs.ContourLemmas.Ends.{corners-more}
use Rattle.overlay.proofs.contours.ends.corners_of_ends.Goals as goal

pub loop-edge-preserved : goal.loop-edge-preserved
loop-edge-preserved g c =
    let (size, each) = c.loop-edge.invariant in
    let sorted = c.args.sorted.now in
    let corners = c.loop-edge.corners.items in
    let from = subst (λ (at : Point). IsFirstFrom sorted at c.first_at.result) c.end_of.ensures c.first_at.ensures in
    corners-more sorted corners c.push.new.self.items c.loop-edge.edge-index c.first_at.result size each from c.in_ok-push.ensures.items
