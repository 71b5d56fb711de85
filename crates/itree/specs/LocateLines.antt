-- What the lines of edges and points say, and which of them are told: the line of an edge below a point, or those of two
-- edges that cross.
use Rattle.std.specs.Prelude.{◌≡◌, ◌<◌, ℕ, List, [], ◌∷◌, Option, Some, None, codes, slice_get}
use Rattle.std.specs.List.{filter_map}
use Rattle.itree.specs.MeetingsLines.{SaysEdge}
use Rattle.itree.specs.Grammar.{Says, LinesSay, command_lines}
use Rattle.itree.specs.declared.lines.locate.LocateLine.{LocateLine}
use Rattle.itree.specs.declared.lines.locate.LocateLine.TheVariants as locate_line
use Rattle.plane.specs.Locate.Answers.{IsPlaceBelow}
use Rattle.plane.specs.SweepLine.Crossings.{IsCrossing}
use Rattle.plane.specs.declared.edge.Edge.{Edge}
use Rattle.plane.specs.declared.point.Point.{Point}

-- the words say the edge, or the point
abbrev pub SaysLocateLine : List (List ℕ) → LocateLine → Type 0
SaysLocateLine words (locate_line.Edge edge) = SaysEdge words edge
SaysLocateLine words (locate_line.Point point) = Says words (codes "point") (point.x ∷ point.y ∷ [])

-- the words say neither
abbrev pub SaysNoLocateLine : List (List ℕ) → Type 0
SaysNoLocateLine words = (said : LocateLine) → ¬ (SaysLocateLine words said)

-- the edge, where one is said
abbrev pub edge_in : LocateLine → Option Edge
edge_in (locate_line.Edge edge) = Some edge
edge_in (locate_line.Point point) = None

-- the point, where one is said
abbrev pub point_in : LocateLine → Option Point
point_in (locate_line.Edge edge) = None
point_in (locate_line.Point point) = Some point

-- the edges that are said, in order
abbrev pub edges_of : List LocateLine → List Edge
edges_of said = filter_map edge_in said

-- the points that are said, in order
abbrev pub points_of : List LocateLine → List Point
points_of said = filter_map point_in said

-- of lines that say these and have these numbers, the numbers of those that say edges
abbrev pub edge_numbers : List LocateLine → List ℕ → List ℕ
edge_numbers [] numbers = []
edge_numbers (line ∷ said) [] = []
edge_numbers (locate_line.Edge edge ∷ said) (number ∷ numbers) = number ∷ edge_numbers said numbers
edge_numbers (locate_line.Point point ∷ said) (number ∷ numbers) = edge_numbers said numbers

-- the numbers of the lines that say edges, counted from 1, in the order of the edges
abbrev pub edge_lines : List (List ℕ) → List LocateLine → List ℕ
edge_lines lines said = edge_numbers said (command_lines lines)

-- the line of this number says the edge straight below the point, or no edge is under it
abbrev pub IsLineBelow : List (List ℕ) → List LocateLine → Point → Option ℕ → Type 0
IsLineBelow lines said point (Some number) =
    (place : ℕ) × IsPlaceBelow (edges_of said) point (Some place)
    × (slice_get (edge_lines lines said) place ≡ Some number)
IsLineBelow lines said point None = IsPlaceBelow (edges_of said) point None

-- The lines of these numbers, counted from 1, say edges that cross, and the first of them comes before the second.
pub record AreCrossingLines (lines : List (List ℕ)) (first second : ℕ) : Type 0 where
  pub said : List LocateLine
  pub one : ℕ
  pub other : ℕ
  pub says : LinesSay SaysLocateLine lines said
  pub crosses : IsCrossing (edges_of said) one other
  pub says_one : slice_get (edge_lines lines said) one ≡ Some first
  pub says_other : slice_get (edge_lines lines said) other ≡ Some second
  pub in_order : first < second
