-- Stretches: edges that follow each other along x, where nothing else comes to, and the chord from the first point to the last.
pub mod Cut
pub mod Spans
pub mod Widening
use Rattle.std.specs.Prelude.{◌≡◌, ◌≢◌, ◌⊎◌, ◌++◌, ◌∷◌, [], ◌+◌, ◌-◌, ◌≤◌, ◌<◌, ℤ, pos, ◌+ℤ◌, ◌<ℤ◌, List, All, AllPairs, Contains, length, reverse, take, unsigned_abs}
use Rattle.std.specs.List.{AllZip, flat_map}
use Rattle.plane.specs.declared.edge.Edge.{Edge}
use Rattle.plane.specs.declared.point.Point.{Point}
use Rattle.overlay.specs.Contours.Outlines.{ring_point}
use Rattle.overlay.specs.Contours.Rings.{ring_edges}
use Rattle.plane.specs.Ends.{edge_between, end_of, reversed, start_of}
use Rattle.noding.specs.Windings.{further, pieces}

-- Along the points x rises, or it falls.
abbrev pub Rises : List Point → Type 0
Rises points = AllPairs (λ one later. one.x <ℤ later.x) points

abbrev pub Falls : List Point → Type 0
Falls points = AllPairs (λ one later. later.x <ℤ one.x) points

-- The two ends of an edge, or more points along which x rises, or falls.
pub record IsStretch (points : List Point) : Type 0 where
  pub some : 2 ≤ length points
  pub along : (length points ≡ 2) ⊎ (Rises points ⊎ Falls points)

-- It has several edges.
abbrev pub IsLong : List Point → Type 0
IsLong points = 2 < length points

-- Some line keeps the points from the others: in a direction (u, v), all of the others lie further than each of these, by more
-- than a unit on both axes.
pub record AreApart (points others : List Point) : Type 0 where
  pub u : ℤ
  pub v : ℤ
  pub beyond : (p q : Point) → Contains points p → Contains others q → (further u v p +ℤ pos (unsigned_abs u + unsigned_abs v)) <ℤ further u v q

-- They share a point, and all others of the first lie to the left of it, all others of the second to the right.
pub record GoesOn (points others : List Point) : Type 0 where
  pub at : Point
  pub of : Contains points at
  pub of_others : Contains others at
  pub left : (p : Point) → Contains points p → (p ≡ at) ⊎ (p.x <ℤ at.x)
  pub right : (q : Point) → Contains others q → (q ≡ at) ⊎ (at.x <ℤ q.x)

-- Neither comes to the other, but where one goes on as the other.
abbrev pub AreClear : List Point → List Point → Type 0
AreClear points others = AreApart points others ⊎ (GoesOn points others ⊎ GoesOn others points)

-- The edges of subject and clip, cut into stretches: nothing comes to one that has several edges.
pub record AreStretches (subject clip : List Edge) (stretches clip_stretches : List (List Point)) : Type 0 where
  pub is : subject ≡ flat_map pieces stretches
  pub clip_is : clip ≡ flat_map pieces clip_stretches
  pub each : All IsStretch (stretches ++ clip_stretches)
  pub clear : AllPairs (λ one other. IsLong one ⊎ IsLong other → AreClear one other) (stretches ++ clip_stretches)

-- The edge from the first of the points to the last.
abbrev pub chord : List Point → Edge
chord points = edge_between (ring_point points 0) (ring_point points (length points - 1))

-- The points along which an edge goes: those of the stretch whose chord it is, from the one end to the other or back, or
-- its own ends where it is the chord of none that has several edges.
abbrev pub GoesAlong : List (List Point) → Edge → List Point → Type 0
GoesAlong stretches edge points =
    ((chord points ≡ edge) × (Contains stretches points ⊎ Contains stretches (reverse points)))
    ⊎ ((points ≡ start_of edge ∷ end_of edge ∷ []) × ((stretch : List Point) → Contains stretches stretch → IsLong stretch → (chord stretch ≢ edge) × (chord stretch ≢ reversed edge)))

-- All of the points but the last.
abbrev pub but_last : List Point → List Point
but_last points = take (length points - 1) points

-- The ring with the points of stretches in place of their chords.
abbrev pub IsWidened : List (List Point) → List Point → List Point → Type 0
IsWidened stretches ring widened = (ways : List (List Point)) × AllZip (GoesAlong stretches) (ring_edges ring) ways × (widened ≡ flat_map but_last ways)
