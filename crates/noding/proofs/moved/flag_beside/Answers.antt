use Rattle.std.proofs.Common.{◌≡◌, ◌∙◌, Some, pos, get_or, sym, subst, ⊎_elim, rules, w32, FitsSigned}
use Rattle.std.specs.List.{slice_get}
use Rattle.std.proofs.lemmas.Int.{to_z-of_z}
use Rattle.std.proofs.lemmas.Option.{slice_get-get_or}
use Rattle.plane.specs.declared.edge.Edge.{Edge}
use Rattle.plane.specs.Meet.Kinds.{HasPoint}
use Rattle.noding.specs.Moving.{IsMovedPlace}
use Rattle.noding.proofs.moved.flag_beside.Goals as goal

pub returns : goal.returns
returns g c =
    let edges = c.args.edges.now in
    let place = c.args.place in
    let point = c.args.point in
    let none : Edge = record { x0 = pos 0; y0 = pos 0; x1 = pos 0; y1 = pos 0 } in
    let x : FitsSigned w32 c.args.point.x = search rules in
    let y : FitsSigned w32 c.args.point.y = search rules in
    let edge = get_or edges place none in
    let stands : slice_get edges place ≡ Some edge = slice_get-get_or edges place none c.requires.within in
    let beside : ¬ (HasPoint edge point.x point.y) = simp to_z-of_z at c.if-has_point.ensures in
    let own : IsMovedPlace edges place = record { edge = edge; stands = stands; moved = (point.x, point.y, c.requires.moves, c.requires.passes edge stands, beside) } in
    let told = c.in_ok-flag.ensures in record {
      size = told.size ∙ c.requires.found.size;
      flagged = told.flagged;
      moved = λ other held. ⊎_elim (c.requires.found.moved other) (λ same. subst (IsMovedPlace edges) (sym same) own) ((told.gains other).0 held);
    }
