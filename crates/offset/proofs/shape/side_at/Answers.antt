use Rattle.std.proofs.Common.{◌∙◌, ap, get_or, length, pos, sym, ℕ}
use Rattle.plane.specs.declared.point.Point.{Point}
use Rattle.plane.specs.Ends.{edge_between}
use Rattle.offset.specs.Raw.{nowhere}
use Rattle.offset.proofs.ShapeLemmas.{side-at}
use Rattle.offset.proofs.shape.side_at.Goals as goal

pub returns : goal.returns
returns c =
    let corners = c.args.corners.now in
    let none : Point = record { x = pos 0; y = pos 0 } in
    c.edge_between.ensures
    ∙ ap (λ (n : ℕ). edge_between (get_or corners c.args.index none) (get_or corners n none)) c.next_place.ensures
    ∙ sym (side-at corners c.args.index none nowhere c.requires)
