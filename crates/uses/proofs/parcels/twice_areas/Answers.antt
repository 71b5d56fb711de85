use Rattle.overlay.specs.Polygons.{rings_of}
use Rattle.overlay.proofs.Callers.{AreAppended-first, AreEnds-joined, AreJoined-appended}
use Rattle.uses.proofs.parcels.twice_areas.Goals as goal

-- the rings of what is common stop where they begin or later
pub twice_area_of-requires : goal.twice_area_of-requires
twice_area_of-requires c =
    let (polygons, _, are) = c.in_ok-overlay.ensures.ok in
    let first = AreAppended-first polygons _ _ _ _ _ _ are c.new-common.ensures.points c.new-common.ensures.ring_ends c.new-common.ensures.polygon_ends in
    AreEnds-joined (rings_of polygons) _ _ (AreJoined-appended polygons _ _ _ first)
