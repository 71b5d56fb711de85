use Rattle.std.proofs.Common.{◌++◌, ◌∷◌, [], codes, refl, sym, ◌∙◌}
use Rattle.std.proofs.lemmas.Result.{on_ok_weaker}
use Rattle.itree.proofs.fault.tell.tell_reading.Goals as goal

pub returns-in-OutOfMemory : goal.returns-in-OutOfMemory
returns-in-OutOfMemory g c =
    on_ok_weaker c.write_all.result (λ written. (codes "itree: memory was refused\n", (λ is. refl, λ other. absurd (other (sym c.kind.ensures ∙ c.in-OutOfMemory.is))), written)) c.write_all.ensures.bytes

pub returns-in_default : goal.returns-in_default
returns-in_default g c =
    on_ok_weaker c.tell_reason.result (λ (reason, written). (codes "itree: reading failed: " ++ (reason ++ 10 ∷ []), (λ is. absurd (c.in_default.not-OutOfMemory (c.kind.ensures ∙ is)), λ other. (reason, refl)), written)) c.tell_reason.ensures
