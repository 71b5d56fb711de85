use Rattle.std.proofs.Common.{◌≡◌, true, take}
use Rattle.std.specs.List.{list_all}
use Rattle.offset.specs.Joins.{is_within_limit, point_at}
use Rattle.offset.specs.Shape.{sides}
use Rattle.offset.proofs.mitres.is_of_limit.Given as goal

-- it is of each side so far
abbrev pub invariant-loop-index : goal.invariant-loop-index
invariant-loop-index l = list_all (is_within_limit l.limit (point_at l.x l.y)) (take l.index (sides l.corners)) ≡ true
