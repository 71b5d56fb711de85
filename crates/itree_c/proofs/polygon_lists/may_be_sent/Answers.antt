use denote.Param.Send.{sendable}
use Rattle.std.proofs.Crossing.{crosses}
use Rattle.itree_c.proofs.polygon_lists.PolygonLists.TheSendSync.{the_send}
use Rattle.itree_c.proofs.polygon_lists.may_be_sent.Goals as goal

-- src/polygon_lists.rt
pub take_over-requires-after_bounds : goal.take_over-requires-after_bounds
take_over-requires-after_bounds c κs = search (sendable, crosses, the_send) depth 20
