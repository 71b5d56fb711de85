use Rattle.std.proofs.Common.{refl}
use Rattle.overlay.proofs.Callers.{AreJoined-first}
use Rattle.offset.proofs.sum.bounding_rings.Goals as goal

-- the rings that were made are those of the points
pub returns-clause-ok : goal.returns-clause-ok
returns-clause-ok g c =
    let (rings, bounds, _, _, points_are, ends_are) = c.in_ok-append_boundary.ensures.ok in
    (rings, bounds, AreJoined-first rings _ _ _ _ _ _ c.new-points.ensures.items c.new-ends.ensures.items points_are ends_are refl refl)
