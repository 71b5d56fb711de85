use Rattle.std.proofs.lemmas.Result.{on_ok_weaker}
use Rattle.itree.proofs.fault.tell.tell_reason.Goals as goal

pub returns : goal.returns
returns g c = on_ok_weaker c.writeln.result (λ written. (c.as_str-reason.result.now, written)) c.writeln.ensures.bytes
