use Rattle.std.proofs.Common.{◌≡◌, [], filter, take}
use Rattle.offset.specs.Raw.{is_furthest}
use Rattle.offset.specs.Shape.{neighbours, sides}
use Rattle.offset.proofs.raw.furthest_place.Given as goal

-- none of the corners so far is
abbrev pub invariant-loop-index : goal.invariant-loop-index
invariant-loop-index l = filter (is_furthest l.edge) (take l.index (neighbours (sides l.corners))) ≡ []
