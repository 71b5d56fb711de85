use Rattle.std.proofs.Common.{◌∙◌}
use Rattle.noding.proofs.Callers.{IsNext-at}
use Rattle.itree.proofs.lines.rings.ring_at.Goals as goal

pub points_between-requires : goal.points_between-requires
points_between-requires c =
    let (rings, are, within) = c.requires in
    let next = IsNext-at rings c.args.points.now c.args.ends.now c.args.place c.ring_start.result are within (c.ring_start.ensures rings are.1) in
    (next.rising, next.within)

pub returns : goal.returns
returns c = λ rings are.
    let (_, _, within) = c.requires in
    c.points_between.ensures ∙ (IsNext-at rings c.args.points.now c.args.ends.now c.args.place c.ring_start.result are within (c.ring_start.ensures rings are.1)).is
