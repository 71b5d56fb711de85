use denote.Param.Send.{sendable}
use Rattle.std.proofs.Crossing.{crosses}
use Rattle.itree_c.proofs.pairs.Pairs.TheSendSync.{the_send}
use Rattle.itree_c.proofs.pairs.may_be_sent.Goals as goal

-- src/pairs.rt:27:5
pub take_over-requires-after_bounds : goal.take_over-requires-after_bounds
take_over-requires-after_bounds c κs = search (sendable, crosses, the_send) depth 20
