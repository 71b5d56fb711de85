use Rattle.std.proofs.Common.{◌≡◌, ◌∙◌, ◌<◌, ◌++◌, [], List, ap, arith, length, subst}
use Rattle.std.specs.List.{flat_map}
use Rattle.plane.specs.declared.edge.Edge.{Edge}
use Rattle.plane.specs.declared.point.Point.{Point}
use Rattle.overlay.specs.Rings.{rings_of}
use Rattle.overlay.proofs.EachRing.{rings-size, rings_all}
use Rattle.offset.specs.Faults.{IsRawFault}
use Rattle.offset.specs.Lines.{raw_of_path, raw_of_paths}
use Rattle.offset.proofs.RawLemmas.{handed-on, made-fails, made-more}
use Rattle.offset.proofs.lines.raw_of_lines.Goals as goal

pub returns-in_err-append_raw_of_path-clause-fault : goal.returns-in_err-append_raw_of_path-clause-fault
returns-in_err-append_raw_of_path-clause-fault g c =
    let shape = c.args.shape.now in
    let rings = rings_of c.args.points.now 0 c.args.ends.now in
    let size = rings-size c.args.points.now 0 c.args.ends.now in
    handed-on c.from_residual.result _ (IsRawFault (raw_of_paths shape rings)) c.from_residual.ensures.1
    (made-fails (raw_of_path shape) rings c.loop-line.line [] _ (omega (arith, size, c.loop-line-test.true))
    (subst (λ (ring : List Point). IsRawFault (raw_of_path shape ring) c.in_err-append_raw_of_path.field-0.0) c.ring_at.ensures c.in_err-append_raw_of_path.ensures.fault))

pub loop-line-preserved : goal.loop-line-preserved
loop-line-preserved g c =
    let shape = c.args.shape.now in
    let rings = rings_of c.args.points.now 0 c.args.ends.now in
    let size = rings-size c.args.points.now 0 c.args.ends.now in
    c.in_ok-append_raw_of_path.ensures.ok
    ∙ ap (λ (ring : List Point). c.loop-line.raw.items ++ raw_of_path shape ring) c.ring_at.ensures
    ∙ made-more (raw_of_path shape) rings c.loop-line.line [] [] c.loop-line.raw.items (omega (arith, size, c.loop-line-test.true)) c.loop-line.invariant

pub returns-clause-ok : goal.returns-clause-ok
returns-clause-ok g c =
    c.loop-line.invariant ∙ ap (λ (all : List (List Point)). flat_map (raw_of_path c.args.shape.now) all) (rings_all c.args.points.now c.args.ends.now c.loop-line.line c.loop-line-test.false)
