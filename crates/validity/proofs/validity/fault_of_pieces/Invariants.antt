use Rattle.std.proofs.Common.{take}
use Rattle.std.specs.List.{All}
use Rattle.overlay.specs.OnePiece.{TouchAlongNoCircle}
use Rattle.validity.specs.Given.{directed, polygons_of}
use Rattle.validity.proofs.validity.fault_of_pieces.Given as goal

-- the rings of the polygons before this one touch along no circle
abbrev pub invariant-loop-polygon : goal.invariant-loop-polygon
invariant-loop-polygon g l = All (λ polygon. TouchAlongNoCircle (directed polygon)) (take l.polygon (polygons_of l.set))
