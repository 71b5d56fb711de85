use Rattle.std.proofs.Common.{take}
use Rattle.std.specs.List.{All}
use Rattle.overlay.specs.Nesting.{PolygonWindsOnce}
use Rattle.validity.specs.Given.{directed, polygons_of}
use Rattle.validity.proofs.validity.fault_of_polygons.Given as goal

-- the polygons before this one wind once
abbrev pub invariant-loop-polygon : goal.invariant-loop-polygon
invariant-loop-polygon g l = All (λ polygon. PolygonWindsOnce (directed polygon)) (take l.polygon (polygons_of l.set))
