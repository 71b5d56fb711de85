use Rattle.std.proofs.Common.{◌∙◌, ◌++◌, ap, append_assoc, List}
use Rattle.std.proofs.lemmas.Result.{IfErr-weaker, on_ok_weaker}
use Rattle.plane.specs.declared.edge.Edge.{Edge}
use Rattle.offset.specs.declared.joins.Join.TheVariants.{Mitre}
use Rattle.offset.specs.Faults.{IsRawFault}
use Rattle.offset.specs.Joins.{joined_of_two, mitre}
use Rattle.offset.specs.Raw.{raw_of_two}
use Rattle.offset.proofs.RawLemmas.{earlier-fails, handed-on, later-fails}
use Rattle.offset.proofs.joins.append_mitred.Goals as goal

pub returns-in_err-append_raw_of_two-clause-fault : goal.returns-in_err-append_raw_of_two-clause-fault
returns-in_err-append_raw_of_two-clause-fault g c =
    let corners = c.args.corners.now in
    handed-on c.from_residual.result _ (IsRawFault (joined_of_two (Mitre c.args.limit) corners (c.args.edge, c.args.next))) c.from_residual.ensures.1
    (earlier-fails (raw_of_two corners (c.args.edge, c.args.next)) (mitre c.args.limit corners c.args.edge c.args.next) _ c.in_err-append_raw_of_two.ensures.fault)

pub returns-clause-ok : goal.returns-clause-ok
returns-clause-ok g c =
    let corners = c.args.corners.now in
    let raw = raw_of_two corners (c.args.edge, c.args.next) in
    let more = mitre c.args.limit corners c.args.edge c.args.next in
    on_ok_weaker c.append_mitre.result
    (λ second. second ∙ ap (λ (edges : List Edge). edges ++ more) c.in_ok-append_raw_of_two.ensures.ok ∙ append_assoc c.args.edges.now.items raw more)
    c.append_mitre.ensures.ok

pub returns-clause-fault : goal.returns-clause-fault
returns-clause-fault g c =
    let corners = c.args.corners.now in
    IfErr-weaker c.append_mitre.result _ (IsRawFault (joined_of_two (Mitre c.args.limit) corners (c.args.edge, c.args.next)))
    (λ fault fails. later-fails (raw_of_two corners (c.args.edge, c.args.next)) (mitre c.args.limit corners c.args.edge c.args.next) fault fails)
    c.append_mitre.ensures.fault

pub returns-clause-near : goal.returns-clause-near
returns-clause-near g c = on_ok_weaker c.append_mitre.result (λ made. c.in_ok-append_raw_of_two.ensures.near) c.append_mitre.ensures.ok
