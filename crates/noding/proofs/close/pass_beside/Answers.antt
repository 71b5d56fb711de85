use Rattle.std.proofs.Common.{subst}
use Rattle.plane.specs.declared.pairs.items.Bounds.{Bounds}
use Rattle.plane.specs.Meet.Boxes.{bounds_of}
use Rattle.noding.specs.Close.{HaveOnePoint}
use Rattle.noding.proofs.ChainLemmas.Beside.{none-beside}
use Rattle.noding.proofs.close.pass_beside.Goals as goal

pub returns-then-have_one_point : goal.returns-then-have_one_point
returns-then-have_one_point c =
    let one = c.args.one in
    let other = c.args.other in
    none-beside one other c.requires
    (subst (λ (box : Bounds). HaveOnePoint box (bounds_of other)) c.bounds.ensures (subst (λ (box : Bounds). HaveOnePoint c.bounds.result box) c.bounds-2.ensures c.if-have_one_point.ensures))
