use Rattle.i_tree.specs.Rb.Shape.{entries}
use Rattle.plane.proofs.ColumnLemmas.StatusEntries.{AreOnce-entries, behind_last, first_of_all, last_live}
use Rattle.plane.proofs.columns.status.handle_behind.Goals as goal

pub returns-then-last-eq-EMPTY_REF : goal.returns-then-last-eq-EMPTY_REF
returns-then-last-eq-EMPTY_REF g c =
    let tree = c.args.tree.now.shape in
    λ front back cut last_is.
    first_of_all (entries tree) (AreOnce-entries tree c.first.ensures.core.handles) front back cut c.args.last c.first.result c.if-last-eq-EMPTY_REF.true last_is c.first.ensures.value

pub after-requires : goal.after-requires
after-requires g c =
    let (front, back, cut, last_is) = c.requires in
    last_live c.args.tree.now.shape front back cut c.args.last last_is c.if-last-eq-EMPTY_REF.false

pub returns : goal.returns
returns g c =
    let tree = c.args.tree.now.shape in
    λ front back cut last_is. behind_last (entries tree) front back cut c.args.last c.after.result c.if-last-eq-EMPTY_REF.false last_is c.after.ensures.value
