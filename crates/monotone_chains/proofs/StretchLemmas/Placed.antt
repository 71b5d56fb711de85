-- Where edges lie among stretches.
use Rattle.std.proofs.Common.{◌≡◌, ◌⊎◌, List}
use Rattle.std.specs.List.{Contains}
use Rattle.plane.specs.declared.edge.Edge.{Edge}
use Rattle.plane.specs.declared.point.Point.{Point}
use Rattle.noding.specs.Chains.{Passes}
use Rattle.plane.specs.Ends.{reversed}
use Rattle.monotone_chains.specs.Stretches.{IsLong, chord}

-- both ends of the edge are points that the chord of the stretch passes
abbrev pub LiesIn : List Point → Edge → Type 0
LiesIn points edge = Passes (chord points) edge.x0 edge.y0 × Passes (chord points) edge.x1 edge.y1

-- the edge is the chord of a stretch of several edges, one way or the other, or lies along one of a single edge
abbrev pub IsPlaced : List (List Point) → Edge → Type 0
IsPlaced stretches edge =
    ((stretch : List Point) × Contains stretches stretch × IsLong stretch × ((edge ≡ chord stretch) ⊎ (edge ≡ reversed (chord stretch))))
    ⊎ ((stretch : List Point) × Contains stretches stretch × (¬ (IsLong stretch)) × LiesIn stretch edge)
