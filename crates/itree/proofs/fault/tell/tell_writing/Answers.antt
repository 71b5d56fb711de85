use Rattle.std.proofs.Common.{◌++◌, ◌∷◌, [], codes, refl}
use Rattle.std.proofs.lemmas.Result.{on_ok_weaker}
use Rattle.itree.proofs.fault.tell.tell_writing.Goals as goal

pub returns : goal.returns
returns g c =
    let reason = c.as_str-reason.result.now in
    on_ok_weaker c.writeln.result (λ written. (codes "itree: writing failed: " ++ (reason ++ 10 ∷ []), (reason, refl), written)) c.writeln.ensures.bytes
