use Rattle.std.proofs.Common.{◌*ℤ◌, rules}
use Rattle.plane.specs.SweepLine.Heights.{height_by_run, run}
use Rattle.plane.proofs.ColumnLemmas.StatusDescent.{is_upto}
use Rattle.plane.proofs.columns.descent.is_upto_asked.Goals as goal

pub returns : goal.returns
returns c =
    let says = is_upto (height_by_run c.args.edge c.args.asked.x) (c.args.asked.high *ℤ run c.args.edge) c.compare_to_point.result (search rules) in
    rw c.is_le.ensures says
