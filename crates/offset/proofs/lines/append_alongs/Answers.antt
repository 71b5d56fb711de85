use Rattle.std.proofs.Common.{◌∙◌, ◌++◌, ◌≡◌, ◌<◌, ap, arith, length, List, subst}
use Rattle.std.specs.List.{flat_map}
use Rattle.std.proofs.lemmas.List.{take_all}
use Rattle.plane.specs.declared.edge.Edge.{Edge}
use Rattle.noding.specs.Windings.{pieces}
use Rattle.offset.specs.Faults.{IsRawFault}
use Rattle.offset.specs.Lines.{along}
use Rattle.offset.specs.Raw.{nowhere}
use Rattle.offset.proofs.LineLemmas.Paths.{length-pieces}
use Rattle.offset.proofs.RawLemmas.{handed-on, made-fails, made-more}
use Rattle.offset.proofs.lines.append_alongs.Goals as goal

pub returns-in_err-append_along-clause-fault : goal.returns-in_err-append_along-clause-fault
returns-in_err-append_along-clause-fault g c =
    let all = pieces c.args.path.now in
    let size = length-pieces c.args.path.now in
    handed-on c.from_residual.result _ (IsRawFault (flat_map (along c.args.shape.now) all)) c.from_residual.ensures.1
    (made-fails (along c.args.shape.now) all c.loop-index.index nowhere _ (omega (arith, size, c.loop-index-test.true))
    (subst (λ (edge : Edge). IsRawFault (along c.args.shape.now edge) c.in_err-append_along.field-0.0) c.piece_at.ensures c.in_err-append_along.ensures.fault))

pub loop-index-preserved : goal.loop-index-preserved
loop-index-preserved g c =
    let all = pieces c.args.path.now in
    let size = length-pieces c.args.path.now in
    let inside : c.loop-index.index < length all = omega (arith, size, c.loop-index-test.true) in
    c.in_ok-append_along.ensures.ok
    ∙ ap (λ (edge : Edge). c.loop-index.edges.items ++ along c.args.shape.now edge) c.piece_at.ensures
    ∙ made-more (along c.args.shape.now) all c.loop-index.index nowhere c.args.edges.now.items c.loop-index.edges.items inside c.loop-index.invariant

pub returns-clause-ok : goal.returns-clause-ok
returns-clause-ok g c =
    let all = pieces c.args.path.now in
    let size = length-pieces c.args.path.now in
    c.loop-index.invariant
    ∙ ap (λ (edges : List Edge). c.args.edges.now.items ++ flat_map (along c.args.shape.now) edges) (take_all c.loop-index.index all (omega (arith, size, c.loop-index-test.false)))
