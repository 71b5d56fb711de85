use Rattle.std.proofs.Common.{◌++◌, List, ap, append-nil, subst, sym, ◌∙◌}
use Rattle.std.proofs.lemmas.Result.{IfErr-weaker, on_ok_weaker}
use Rattle.plane.specs.declared.edge.Edge.{Edge}
use Rattle.offset.specs.Faults.{IsRawFault}
use Rattle.offset.specs.Raw.{ways}
use Rattle.offset.proofs.RawLemmas.{ways-apart, ways-none}
use Rattle.offset.proofs.raw.append_ways.Goals as goal

pub returns-then-differ-clause-ok : goal.returns-then-differ-clause-ok
returns-then-differ-clause-ok g c =
    let same = ways-apart c.args.corners.now c.args.edge c.args.next c.furthest-from.result c.furthest-to.result c.end_of.result c.differ.result c.furthest-from.ensures c.furthest-to.ensures c.end_of.ensures c.differ.ensures c.if-differ.true in
    on_ok_weaker c.append_ways_by.result
    (λ made. made ∙ ap (λ (edges : List Edge). c.args.edges.now.items ++ edges) same)
    c.append_ways_by.ensures.ok

pub returns-then-differ-clause-fault : goal.returns-then-differ-clause-fault
returns-then-differ-clause-fault g c =
    let same = ways-apart c.args.corners.now c.args.edge c.args.next c.furthest-from.result c.furthest-to.result c.end_of.result c.differ.result c.furthest-from.ensures c.furthest-to.ensures c.end_of.ensures c.differ.ensures c.if-differ.true in
    IfErr-weaker c.append_ways_by.result _ (IsRawFault (ways c.args.corners.now c.args.edge c.args.next))
    (λ fault fails. subst (λ (edges : List Edge). IsRawFault edges fault) same fails)
    c.append_ways_by.ensures.fault

pub returns-else-differ-clause-ok : goal.returns-else-differ-clause-ok
returns-else-differ-clause-ok g c =
    let none = ways-none c.args.corners.now c.args.edge c.args.next c.furthest-from.result c.furthest-to.result c.differ.result c.furthest-from.ensures c.furthest-to.ensures c.differ.ensures c.if-differ.false in
    sym (ap (λ (edges : List Edge). c.args.edges.now.items ++ edges) none ∙ append-nil c.args.edges.now.items)
