-- Which points lie in which shapes.
use Rattle.std.specs.Prelude.{ℕ, ◌≡◌, ◌<◌, ◌⊎◌, IsTrue, List, AllPairs}
use Rattle.std.proofs.Common.{lit<}
use Rattle.std.specs.List.{Any}
use Rattle.plane.specs.declared.edge.Edge.{Edge}
use Rattle.plane.specs.declared.point.Point.{Point}
use Rattle.plane.specs.Meet.Edges.{RationalPoint, IsOf}
use Rattle.plane.specs.Meet.Kinds.{AreSame}
use Rattle.plane.specs.Pairs.Pairs.{ArePairsBetween}
use Rattle.overlay.specs.declared.fill.rules.FillRule.{FillRule}
use Rattle.overlay.specs.Fill.Rules.{is_inside}
use Rattle.noding.specs.Windings.{winding}
use Rattle.layers.specs.declared.around.half_point.HalfPoint.{HalfPoint}
use Rattle.layers.specs.declared.points.Border.{Border}
use Rattle.layers.specs.declared.points.Border.TheVariants.{Closed, Open, HalfOpen}

-- A point, as one with rational coordinates.
abbrev pub whole : Point → RationalPoint
whole point = record { n = 1; x = point.x; y = point.y; positive = lit< tt }

-- Half of each of the coordinates that it has twice.
abbrev pub halved : HalfPoint → RationalPoint
halved point = record { n = 2; x = point.twice_x; y = point.twice_y; positive = lit< tt }

-- The point is of the edge, whichever way its coordinates are written as fractions.
abbrev pub IsOn : Edge → RationalPoint → Type 0
IsOn edge point = (written : RationalPoint) × IsOf edge written × AreSame point written

-- It is of one of the edges.
abbrev pub IsOnAny : List Edge → RationalPoint → Type 0
IsOnAny edges point = Any (λ edge. IsOn edge point) edges

-- The point lies in the shape with these edges. With its border, or without it, or with that of its border around which the edges wind.
abbrev pub LiesIn : FillRule → Border → RationalPoint → List Edge → Type 0
LiesIn rule Closed point edges = IsTrue (is_inside rule (winding edges point)) ⊎ IsOnAny edges point
LiesIn rule Open point edges = IsTrue (is_inside rule (winding edges point)) × ¬ (IsOnAny edges point)
LiesIn rule HalfOpen point edges = IsTrue (is_inside rule (winding edges point))

-- The one pair of places stands before the other: by the first place, and then by the second.
abbrev pub IsBefore : ℕ × ℕ → ℕ × ℕ → Type 0
IsBefore pair later = (pair.0 < later.0) ⊎ ((pair.0 ≡ later.0) × (pair.1 < later.1))

-- The pairs of places, of a point and of a shape in which it lies: each once, by point, and then by shape.
pub record ArePairsIn (rule : FillRule) (border : Border) (points : List RationalPoint) (shapes : List (List Edge)) (pairs : List (ℕ × ℕ)) : Type 0 where
  pub all : ArePairsBetween (LiesIn rule border) points shapes pairs
  pub ordered : AllPairs IsBefore pairs
