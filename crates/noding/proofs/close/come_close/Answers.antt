use Rattle.noding.proofs.ChainLemmas.Beside.{apart_tested, far_apart, shared_tested}
use Rattle.noding.proofs.close.come_close.Goals as goal

pub returns-then-share_end : goal.returns-then-share_end
returns-then-share_end c = shared_tested c.args.one c.args.other c.pass_beside.result c.if-share_end.ensures c.pass_beside.ensures

pub returns-then-not-boxes_meet : goal.returns-then-not-boxes_meet
returns-then-not-boxes_meet c = far_apart c.args.one c.args.other c.if-share_end.ensures (rw (c.bounds.ensures, c.bounds-2.ensures) at c.if-not-boxes_meet.ensures)

pub returns : goal.returns
returns c = apart_tested c.args.one c.args.other c.lie_apart.result c.if-share_end.ensures (rw (c.bounds.ensures, c.bounds-2.ensures) at c.if-not-boxes_meet.ensures) c.lie_apart.ensures
