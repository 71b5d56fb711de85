-- How a sweep by columns sees edges, and the points that they may pass. For private contracts.
use Rattle.std.specs.Prelude.{◌≡◌, ◌↔◌, Bool, true, false, cond, ℕ, ℤ, pos, negsuc, ◌+ℤ◌, ◌-ℤ◌, List, AllPairs, Contains, FitsSigned, nat_lt, unsigned_abs, ◌≢◌}
use Rattle.std.specs.Int.{saturate_to_bits, w32}
use Rattle.plane.specs.declared.columns.Asked.{Asked}
use Rattle.plane.specs.declared.edge.Edge.{Edge}
use Rattle.plane.specs.declared.point.Point.{Point}
use Rattle.noding.specs.Close.{PassesPoint}

-- The edge goes further along y than along x.
abbrev pub is_steep : Edge → Bool
is_steep edge = nat_lt (unsigned_abs (edge.x1 -ℤ edge.x0)) (unsigned_abs (edge.y1 -ℤ edge.y0))

-- The edge whose x and y have changed places.
abbrev pub exchanged : Edge → Edge
exchanged edge = record { x0 = edge.y0; y0 = edge.x0; x1 = edge.y1; y1 = edge.x1 }

-- Right and left exchanged: what is an i32 stays one. The sweep covers of an edge its lesser end and not its greater; an edge that
-- isn't steep passes points in the column of its greater end besides its own, and none such in that of its lesser.
abbrev pub mirrored_x : ℤ → ℤ
mirrored_x x = negsuc 0 -ℤ x

abbrev pub mirrored : Edge → Edge
mirrored edge = record { x0 = mirrored_x edge.x0; y0 = edge.y0; x1 = mirrored_x edge.x1; y1 = edge.y1 }

-- An edge that is a point. It reaches nothing.
abbrev pub nowhere : Edge
nowhere = record { x0 = pos 0; y0 = pos 0; x1 = pos 0; y1 = pos 0 }

-- What a sweep for the steep edges, or for the others, has in place of an edge.
abbrev pub swept_edge : Bool → Edge → Edge
swept_edge true edge = cond (is_steep edge) (mirrored (exchanged edge)) nowhere
swept_edge false edge = cond (is_steep edge) nowhere (mirrored edge)

-- What the sweep is asked about (x, y): which edges come there within a unit below y or above it.
abbrev pub asked_around : ℤ → ℤ → Asked
asked_around x y = record { x = mirrored_x x; low = saturate_to_bits 31 (y -ℤ pos 1); high = saturate_to_bits 31 (y +ℤ pos 1) }

-- And about a point.
abbrev pub asked_of : Bool → Point → Asked
asked_of true point = asked_around point.y point.x
asked_of false point = asked_around point.x point.y

-- Both ends of the edge are at heights of an i32.
pub record HasHeights (edge : Edge) : Type 0 where
  pub first : FitsSigned w32 edge.y0
  pub last : FitsSigned w32 edge.y1

-- The edge is steep, or isn't, and passes the point between its ends.
abbrev pub PassesAs : Bool → Edge → Point → Type 0
PassesAs steep edge point = (is_steep edge ≡ steep) × PassesPoint edge point

-- Of a list of pairs those are kept that stand in the relation, each as often as it stands there.
pub record AreKept (Is : ℕ → ℕ → Type 0) (pairs kept : List (ℕ × ℕ)) : Type 0 where
  pub once : AllPairs (λ pair later. pair ≢ later) pairs → AllPairs (λ pair later. pair ≢ later) kept
  pub exact : (i j : ℕ) → Contains kept (i, j) ↔ (Contains pairs (i, j) × Is i j)
