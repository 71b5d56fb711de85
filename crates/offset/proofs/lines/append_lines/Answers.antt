use Rattle.std.proofs.Common.{◌∙◌, List, subst, sym}
use Rattle.plane.proofs.PairsLemmas.Extends.{Extends-same, OnErr-always}
use Rattle.noding.specs.Windings.{IsClosed}
use Rattle.overlay.specs.Rings.{rings_of}
use Rattle.offset.specs.Faults.{IsRawFault}
use Rattle.offset.specs.Lines.{raw_of_paths}
use Rattle.offset.proofs.LineLemmas.Lines.{paths-closed}
use Rattle.offset.proofs.RawLemmas.{handed-on}
use Rattle.offset.proofs.WoundLemmas.{grown-lines}
use Rattle.offset.proofs.lines.append_lines.Goals as goal

pub append_wound-requires : goal.append_wound-requires
append_wound-requires g c =
    subst IsClosed (sym (c.deref.ensures.value ∙ c.in_ok-raw.ensures.ok)) (paths-closed c.args.shape.now c.requires.shape (rings_of c.args.lines.points.now 0 c.args.lines.ends.now))

pub returns-clause-ok : goal.returns-clause-ok
returns-clause-ok g c =
    let (polygons, wound, appended) = c.in_ok-append_wound.ensures.ok in
    (polygons, grown-lines c.args.shape.now c.requires.shape (rings_of c.args.lines.points.now 0 c.args.lines.ends.now) c.deref.result.now polygons (c.deref.ensures.value ∙ c.in_ok-raw.ensures.ok) wound, appended)

pub returns-in_err-raw-clause-fault : goal.returns-in_err-raw-clause-fault
returns-in_err-raw-clause-fault g c =
    handed-on c.from_residual-in_err-raw.result _ (IsRawFault (raw_of_paths c.args.shape.now (rings_of c.args.lines.points.now 0 c.args.lines.ends.now))) c.from_residual-in_err-raw.ensures.1 c.in_err-raw.ensures.fault

pub returns-in_err-raw-clause-err : goal.returns-in_err-raw-clause-err
returns-in_err-raw-clause-err g c =
    let out = c.args.out.now in
    OnErr-always c.from_residual-in_err-raw.result _ (Extends-same out.points.items, Extends-same out.ring_ends.items, Extends-same out.polygon_ends.items)
