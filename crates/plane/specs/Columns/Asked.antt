-- What is asked at a column of a sweep by columns: which edges it has between two heights.
use Rattle.std.specs.Prelude.{◌*ℤ◌, ◌≤ℤ◌, ◌<ℤ◌}
use Rattle.plane.specs.declared.edge.Edge.{Edge}
use Rattle.plane.specs.declared.columns.Asked.{Asked}
use Rattle.plane.specs.SweepLine.Heights.{Covers, height_by_run, rightwards, run}

-- Of an edge that goes to the right: its height at the column is below the lower of the two, above the higher, or neither.
abbrev pub IsBelowAsked : Asked → Edge → Type 0
IsBelowAsked asked edge = height_by_run edge asked.x <ℤ (asked.low *ℤ run edge)

abbrev pub IsAboveAsked : Asked → Edge → Type 0
IsAboveAsked asked edge = (¬ (IsBelowAsked asked edge)) × ((asked.high *ℤ run edge) <ℤ height_by_run edge asked.x)

abbrev pub IsWithinAsked : Asked → Edge → Type 0
IsWithinAsked asked edge = (¬ (IsBelowAsked asked edge)) × (height_by_run edge asked.x ≤ℤ (asked.high *ℤ run edge))

-- The edge covers the column that is asked about, at a height between the two.
pub record Reaches (edge : Edge) (asked : Asked) : Type 0 where
  pub covers : Covers edge asked.x
  pub within : IsWithinAsked asked (rightwards edge)
