-- What the private calls of `locate` tell of the status: which entry answers for a point, and which entries cross.
use Rattle.std.specs.Prelude.{◌≡◌, ◌≢◌, ◌≤◌, ◌<ℤ◌, ◌⊎◌, ⊤, ℕ, List, Contains, Option, Some, None}
use Rattle.std.specs.declared.cmp.Ordering.TheVariants.{Greater}
use Rattle.plane.specs.declared.point.Point.{Point}
use Rattle.plane.specs.declared.sweep_line.active.ActiveEdge.{ActiveEdge}
use Rattle.i_tree.specs.Root.Along.{IsLast}
use Rattle.plane.specs.SweepLine.Crossings.{Cross}
use Rattle.plane.specs.SweepLine.Active.{Entry, cmp_active, cmp_to_point}

-- Two active edges cross, and these are their places, the lesser first.
pub record ArePlacesOfCrossing (one other : ActiveEdge) (i j : ℕ) : Type 0 where
  pub cross : Cross one.edge other.edge
  pub places : (i ≡ one.place) × (j ≡ other.place) ⊎ (i ≡ other.place) × (j ≡ one.place)
  pub in_order : i ≤ j

-- two of the entries cross, and these are their places, the lesser first
abbrev pub HaveCrossing : List Entry → ℕ → ℕ → Type 0
HaveCrossing entries i j =
    (one : Entry) × (other : Entry) × Contains entries one × Contains entries other × ArePlacesOfCrossing one.0 other.0 i j

-- two entries, where both are there, cross, and these are their places
abbrev pub AreCrossing : Option Entry → Option Entry → ℕ → ℕ → Type 0
AreCrossing (Some one) (Some other) i j = ArePlacesOfCrossing one.0 other.0 i j
AreCrossing _ _ i j = ⊥

-- the place of an entry, or none where there is none
abbrev pub place_of : Option Entry → Option ℕ
place_of (Some entry) = Some entry.0.place
place_of None = None

-- it is the place of the last of the entries that isn't above the point, or none where all are above
abbrev pub IsPlaceUnder : Point → List Entry → Option ℕ → Type 0
IsPlaceUnder point entries place =
    (found : Option Entry) × IsLast (λ entry. cmp_to_point point entry.0 ≢ Greater) entries found × (place ≡ place_of found)

-- two entries, where both are there, go to the right, and the first doesn't stand behind the second along the line
abbrev pub AreInOrder : Option Entry → Option Entry → Type 0
AreInOrder (Some one) (Some other) = (one.0.edge.x0 <ℤ one.0.edge.x1) × (other.0.edge.x0 <ℤ other.0.edge.x1) × (cmp_active one.0 other.0 ≢ Greater)
AreInOrder _ _ = ⊤
