-- Descents of the status of a sweep by columns. For its private contracts.
use Rattle.std.specs.Prelude.{⊤, ◌≡◌, ◌<ℤ◌, ◌≤ℤ◌, ◌*ℤ◌, ℕ, List, ◌++◌, All}
use Rattle.i_tree.specs.Rb.Items.{items_of}
use Rattle.i_tree.specs.Rb.Place.{IsPlaceBetween, place_below}
use Rattle.i_tree.specs.Rb.Shape.{Shape, last_handle}
use Rattle.plane.specs.declared.edge.Edge.{Edge}
use Rattle.plane.specs.declared.columns.Asked.{Asked}
use Rattle.plane.specs.declared.columns.descent.DescentEnd.{DescentEnd}
use Rattle.plane.specs.declared.columns.descent.Sought.{Sought}
use Rattle.plane.specs.declared.columns.descent.Sought.TheVariants.{Beginning, Within}
use Rattle.plane.specs.declared.sweep_line.active.ActiveEdge.{ActiveEdge}
use Rattle.plane.specs.Columns.Asked.{IsBelowAsked}
use Rattle.plane.specs.Columns.Status.{StandsBelow}
use Rattle.plane.specs.SweepLine.Heights.{height_by_run, run}

-- of an edge that goes to the right: at the column it is at most as high as the higher of the two that are asked
abbrev pub IsUptoAsked : Asked → Edge → Type 0
IsUptoAsked asked edge = height_by_run edge asked.x ≤ℤ (asked.high *ℤ run edge)

-- an edge that begins goes to the right
abbrev pub GoesRight : Sought → Type 0
GoesRight (Beginning beginning) = beginning.edge.x0 <ℤ beginning.edge.x1
GoesRight (Within asked) = ⊤

-- the edge stands in front of what is sought
abbrev pub StandsInFront : Sought → ActiveEdge → Type 0
StandsInFront (Beginning beginning) other = StandsBelow beginning other
StandsInFront (Within asked) other = IsBelowAsked asked other.edge

-- Along the line first come the edges in front of what is sought, and behind them all others.
pub record IsPartedBy (sought : Sought) (edges front back : List ActiveEdge) : Type 0 where
  pub is : edges ≡ front ++ back
  pub passed : All (StandsInFront sought) front
  pub others : All (λ other. ¬ (StandsInFront sought other)) back

-- No subtree is where the descent has ended, and that parts the edges so.
pub record DescendsTo (sought : Sought) (tree : Shape ActiveEdge) (end : DescentEnd) : Type 0 where
  pub front : List (ℕ × ActiveEdge)
  pub back : List (ℕ × ActiveEdge)
  pub between : IsPlaceBetween tree front back (place_below end.above end.on_right)
  pub last_is : end.last ≡ last_handle front
  pub passed : All (StandsInFront sought) (items_of front)
  pub others : All (λ other. ¬ (StandsInFront sought other)) (items_of back)
