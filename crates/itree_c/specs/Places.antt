-- The places of edges below points as C reads them: a flag and a place each.
use Rattle.std.specs.Prelude.{◌≡◌, ℕ, List, Option, Some, None, map}
use Rattle.std.specs.List.{AllZip}
use Rattle.itree_c.specs.declared.places.Place.{Place}
use Rattle.plane.specs.Locate.Answers.{IsPlaceBelow}
use Rattle.plane.specs.declared.edge.Edge.{Edge}
use Rattle.plane.specs.declared.point.Point.{Point}

-- a place as it is written: found is 1 and place the edge's, or both are 0
abbrev pub place_of : Option ℕ → Place
place_of (Some place) = record { found = 1; place = place }
place_of None = record { found = 0; place = 0 }

-- what is written are the places of the edges straight below the points, in their order
abbrev pub ArePlaces : List Edge → List Point → List Place → Type 0
ArePlaces edges points places =
    (answers : List (Option ℕ)) × (places ≡ map place_of answers) × AllZip (IsPlaceBelow edges) points answers
