use Rattle.std.proofs.Common.{◌*◌, ◌/◌, pos, subst, sym}
use Rattle.plane.specs.declared.point.Point.{Point}
use Rattle.offset.specs.Circle.{IsWithinCircle}
use Rattle.offset.proofs.CircleLemmas.{within-turned}
use Rattle.offset.proofs.circles.corner_at.Goals as goal

pub returns-clause-within : goal.returns-clause-within
returns-clause-within c =
    subst (λ (point : Point). IsWithinCircle (pos c.args.radius) point) (sym c.turned.ensures)
    (within-turned (pos c.args.radius) (c.args.index / (2 * c.args.parts)) c.first_corner-first.result c.first_corner-first.ensures.within)
