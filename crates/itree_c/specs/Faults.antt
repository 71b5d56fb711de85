-- What is wrong with polygons, as C reads it.
use Rattle.std.specs.Prelude.{◌≡◌, ℕ, pos, List, Option, Some, None, MatchOption}
use Rattle.plane.specs.declared.edge.Edge.{Edge}
use Rattle.plane.specs.declared.point.Point.{Point}
use Rattle.validity.specs.Given.{polygons_of, rings_at}
use Rattle.validity.specs.Validity.{IsFault, IsValid}
use Rattle.validity.specs.declared.fault.Fault.{Fault}
use Rattle.validity.specs.declared.fault.Fault.TheVariants.{FewPoints, MeetsItself, RingsCross, HolesOutside, PolygonsOverlap, Disconnected}
use Rattle.validity.specs.declared.given.PolygonSet.{PolygonSet}
use Rattle.itree_c.specs.declared.faults.FaultPlace.{FaultPlace}
use Rattle.itree_c.specs.declared.faults.TheConstants.{VALID, FEW_POINTS, MEETS_ITSELF, RINGS_CROSS, HOLES_OUTSIDE, POLYGONS_OVERLAP, DISCONNECTED}

-- where no point and no edge is told
abbrev pub no_point : Point
no_point = record { x = pos 0; y = pos 0 }

abbrev pub no_edge : Edge
no_edge = record { x0 = pos 0; y0 = pos 0; x1 = pos 0; y1 = pos 0 }

-- what is written of a fault that a point tells
abbrev pub at_point : ℕ → ℕ → ℕ → Point → FaultPlace
at_point kind polygon ring point = record { kind = kind; polygon = polygon; ring = ring; point = point; one = no_edge; other = no_edge }

-- and of one that two edges tell
abbrev pub at_edges : ℕ → ℕ → Edge → Edge → FaultPlace
at_edges kind ring one other = record { kind = kind; polygon = 0; ring = ring; point = no_point; one = one; other = other }

-- a fault as it is written
abbrev pub place_of_some : Fault → FaultPlace
place_of_some (FewPoints ring) = at_point FEW_POINTS 0 ring no_point
place_of_some (MeetsItself ring one other) = at_edges MEETS_ITSELF ring one other
place_of_some (RingsCross one other) = at_edges RINGS_CROSS 0 one other
place_of_some (HolesOutside polygon point) = at_point HOLES_OUTSIDE polygon 0 point
place_of_some (PolygonsOverlap point) = at_point POLYGONS_OVERLAP 0 0 point
place_of_some (Disconnected polygon ring point) = at_point DISCONNECTED polygon ring point

-- the same, or that there is none
abbrev pub place_of_fault : Option Fault → FaultPlace
place_of_fault None = at_point VALID 0 0 no_point
place_of_fault (Some fault) = place_of_some fault

-- it tells that the polygons are valid, or something that is wrong with them
abbrev pub TellsFault : PolygonSet → FaultPlace → Type 0
TellsFault polygons told =
    (found : Option Fault) × MatchOption found (IsValid (rings_at polygons.rings) (polygons_of polygons)) (IsFault (rings_at polygons.rings) (polygons_of polygons))
    × (told ≡ place_of_fault found)
