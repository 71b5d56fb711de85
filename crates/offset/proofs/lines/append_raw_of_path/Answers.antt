use Rattle.std.proofs.Common.{◌∙◌, ◌++◌, ap, append_assoc, List}
use Rattle.std.specs.List.{flat_map}
use Rattle.std.proofs.lemmas.Result.{IfErr-weaker, on_ok_weaker}
use Rattle.plane.specs.declared.edge.Edge.{Edge}
use Rattle.noding.specs.Windings.{pieces}
use Rattle.offset.specs.Faults.{IsRawFault}
use Rattle.offset.specs.Lines.{along, raw_of_path, shape_at}
use Rattle.offset.proofs.RawLemmas.{earlier-fails, handed-on, later-fails}
use Rattle.offset.proofs.lines.append_raw_of_path.Goals as goal

pub returns-in_err-append_shapes-clause-fault : goal.returns-in_err-append_shapes-clause-fault
returns-in_err-append_shapes-clause-fault g c =
    handed-on c.from_residual.result _ (IsRawFault (raw_of_path c.args.shape.now c.args.path.now)) c.from_residual.ensures.1
    (earlier-fails (flat_map (shape_at c.args.shape.now) c.args.path.now) (flat_map (along c.args.shape.now) (pieces c.args.path.now)) _ c.in_err-append_shapes.ensures.fault)

pub returns-clause-ok : goal.returns-clause-ok
returns-clause-ok g c =
    let shapes = flat_map (shape_at c.args.shape.now) c.args.path.now in
    let alongs = flat_map (along c.args.shape.now) (pieces c.args.path.now) in
    on_ok_weaker c.append_alongs.result
    (λ second. second ∙ ap (λ (edges : List Edge). edges ++ alongs) c.in_ok-append_shapes.ensures.ok ∙ append_assoc c.args.edges.now.items shapes alongs)
    c.append_alongs.ensures.ok

pub returns-clause-fault : goal.returns-clause-fault
returns-clause-fault g c =
    IfErr-weaker c.append_alongs.result _ (IsRawFault (raw_of_path c.args.shape.now c.args.path.now))
    (λ fault fails. later-fails (flat_map (shape_at c.args.shape.now) c.args.path.now) (flat_map (along c.args.shape.now) (pieces c.args.path.now)) fault fails)
    c.append_alongs.ensures.fault
