use Rattle.std.proofs.Common.{◌*◌, get_or}
use Rattle.offset.specs.Raw.{nowhere}
use Rattle.offset.specs.Shape.{sides}
use Rattle.offset.proofs.CircleLemmas.{IsLeast}
use Rattle.offset.proofs.circles.inner_radius.Given as goal

-- the least square of a distance so far, or that of the radius
abbrev pub invariant-loop-index : goal.invariant-loop-index
invariant-loop-index l = IsLeast (λ k. get_or (sides l.corners) k nowhere) (l.reach * l.reach) l.index l.least
