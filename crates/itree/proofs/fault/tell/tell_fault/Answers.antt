use Rattle.std.proofs.Common.{sym, subst}
use Rattle.std.proofs.lemmas.Result.{on_ok_weaker}
use Rattle.itree.specs.Faults.{TellsFault}
use Rattle.itree.specs.declared.fault.Fault.{Fault}
use Rattle.itree.proofs.fault.tell.tell_fault.Goals as goal

pub returns-in-Reading : goal.returns-in-Reading
returns-in-Reading g c =
    on_ok_weaker c.tell_reading.result
    (λ (line, tells, written). (line, subst (λ (fault : Fault). TellsFault c.args.words.now c.args.text.now fault line) (sym c.in-Reading.is) tells, written))
    c.tell_reading.ensures
