-- What the lines of edges and ranges say, and which of them the reply to a line tells: the lines of the edges that cross its edge,
-- or reach its range.
use Rattle.std.specs.Prelude.{◌≡◌, ◌⊎◌, ◌<◌, ◌↔◌, ℕ, ℤ, ◌^◌, ◌-ℤ◌, pos, List, [], ◌∷◌, Some, codes, AllPairs, Contains, slice_get}
use Rattle.itree.specs.Grammar.{Says, command_lines}
use Rattle.itree.specs.MeetingsLines.{SaysEdge}
use Rattle.itree.specs.declared.lines.crossings.CrossingsLine.{CrossingsLine}
use Rattle.itree.specs.declared.lines.crossings.CrossingsLine.TheVariants as crossings_line
use Rattle.plane.specs.Columns.Asked.{Reaches}
use Rattle.plane.specs.SweepLine.Crossings.{Cross}
use Rattle.plane.specs.declared.columns.Asked.{Asked}
use Rattle.plane.specs.declared.edge.Edge.{Edge}

-- the words say the edge, or the range
abbrev pub SaysCrossingsLine : List (List ℕ) → CrossingsLine → Type 0
SaysCrossingsLine words (crossings_line.Edge edge) = SaysEdge words edge
SaysCrossingsLine words (crossings_line.Range range) = Says words (codes "range") (range.x ∷ range.low ∷ range.high ∷ [])

-- the words say neither
abbrev pub SaysNoCrossingsLine : List (List ℕ) → Type 0
SaysNoCrossingsLine words = (said : CrossingsLine) → ¬ (SaysCrossingsLine words said)

-- The lines at these two places say edges that cross, and the first place is below the second.
pub record SayCrossing (said : List CrossingsLine) (earlier place : ℕ) : Type 0 where
  pub below : earlier < place
  pub one : Edge
  pub other : Edge
  pub first : slice_get said earlier ≡ Some (crossings_line.Edge one)
  pub second : slice_get said place ≡ Some (crossings_line.Edge other)
  pub cross : Cross one other

-- The line at the first place says an edge that reaches the range which the line at the second says.
pub record SayReaching (said : List CrossingsLine) (reaching place : ℕ) : Type 0 where
  pub edge : Edge
  pub range : Asked
  pub first : slice_get said reaching ≡ Some (crossings_line.Edge edge)
  pub second : slice_get said place ≡ Some (crossings_line.Range range)
  pub reaches : Reaches edge range

-- the reply to the line at the second place tells the line at the first
abbrev pub IsToldTo : List CrossingsLine → ℕ → ℕ → Type 0
IsToldTo said told place = SayCrossing said told place ⊎ SayReaching said told place

-- the line of this number says an earlier edge that crosses that of the line at this place, or an edge that reaches its range
abbrev pub IsToldLine : List (List ℕ) → List CrossingsLine → ℕ → ℕ → Type 0
IsToldLine lines said place number =
    (told : ℕ) × IsToldTo said told place × (slice_get (command_lines lines) told ≡ Some number)

-- The numbers are those of the lines that the reply to the line at this place tells, each once, in rising order.
pub record AreToldLines (lines : List (List ℕ)) (said : List CrossingsLine) (place : ℕ) (numbers : List ℕ) : Type 0 where
  pub rising : AllPairs (λ number later. number < later) numbers
  pub exact : (number : ℕ) → Contains numbers number ↔ IsToldLine lines said place number

-- Below are definitions for private contracts.

-- the edge that is said, and else a point
abbrev pub edge_or_point : CrossingsLine → Edge
edge_or_point (crossings_line.Edge edge) = edge
edge_or_point (crossings_line.Range range) = record { x0 = pos 0; y0 = pos 0; x1 = pos 0; y1 = pos 0 }

-- the range that is said, and else one without heights
abbrev pub range_or_none : CrossingsLine → Asked
range_or_none (crossings_line.Edge edge) = record { x = pos 2147483647; low = pos 1; high = pos 0 }
range_or_none (crossings_line.Range range) = range
