use Rattle.std.proofs.Common.{◌≡◌, subst, sym}
use Rattle.std.proofs.lemmas.Result.{IfErr-weaker}
use Rattle.offset.specs.declared.joins.Join.{Join}
use Rattle.offset.specs.Faults.{IsRawFault}
use Rattle.offset.specs.Joins.{joined_of_two}
use Rattle.offset.proofs.joins.append_joined_of_two.Goals as goal

pub returns-in-Round-clause-fault : goal.returns-in-Round-clause-fault
returns-in-Round-clause-fault g c =
    IfErr-weaker c.append_raw_of_two.result _ (IsRawFault (joined_of_two c.args.join c.args.corners.now (c.args.edge, c.args.next)))
    (λ fault fails. subst (λ (join : Join). IsRawFault (joined_of_two join c.args.corners.now (c.args.edge, c.args.next)) fault) (sym c.in-Round.is) fails)
    c.append_raw_of_two.ensures.fault

pub returns-in-Bevel-clause-fault : goal.returns-in-Bevel-clause-fault
returns-in-Bevel-clause-fault g c =
    IfErr-weaker c.append_bevelled.result _ (IsRawFault (joined_of_two c.args.join c.args.corners.now (c.args.edge, c.args.next)))
    (λ fault fails. subst (λ (join : Join). IsRawFault (joined_of_two join c.args.corners.now (c.args.edge, c.args.next)) fault) (sym c.in-Bevel.is) fails)
    c.append_bevelled.ensures.fault

pub returns-in-Mitre-clause-fault : goal.returns-in-Mitre-clause-fault
returns-in-Mitre-clause-fault g c =
    IfErr-weaker c.append_mitred.result _ (IsRawFault (joined_of_two c.args.join c.args.corners.now (c.args.edge, c.args.next)))
    (λ fault fails. subst (λ (join : Join). IsRawFault (joined_of_two join c.args.corners.now (c.args.edge, c.args.next)) fault) (sym c.in-Mitre.is) fails)
    c.append_mitred.ensures.fault
