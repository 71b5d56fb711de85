use Rattle.std.proofs.Common.{◌∙◌, ap}
use Rattle.offset.specs.Raw.{is_furthest}
use Rattle.offset.proofs.ShapeLemmas.{two-at}
use Rattle.offset.proofs.raw.is_furthest_at.Goals as goal

pub returns : goal.returns
returns c =
    c.is_furthest.ensures
    ∙ ap (is_furthest c.args.edge) (two-at c.args.corners.now c.args.place c.next_place-next.result c.side_at.result c.side_at-2.result c.requires c.next_place-next.ensures c.side_at.ensures c.side_at-2.ensures)
