-- The order in which edges begin that go rightwards: by x, by y, and of those that begin at one point the flatter one first.
use Rattle.std.specs.Prelude.{◌≡◌, ◌⊎◌, ℤ, pos, ◌*ℤ◌, ◌≤ℤ◌, ◌<ℤ◌, AllPairs, List}
use Rattle.std.specs.Int.{int_max}
use Rattle.std.specs.Ordering.{int_cmp}
use Rattle.std.specs.declared.cmp.Ordering.{Ordering}
use Rattle.plane.specs.declared.edge.Edge.{Edge}
use Rattle.plane.specs.SweepLine.Active.{then_cmp}
use Rattle.plane.specs.SweepLine.Heights.{run, rise}
use Rattle.overlay.specs.declared.fill.pieces.Piece.{Piece}

-- how far the edge goes along x, and 1 where it goes nowhere
abbrev pub steps : Edge → ℤ
steps edge = int_max (run edge) (pos 1)

-- The order in which edges begin: by the x of their starts, then by y, and then by how steeply they rise.
abbrev pub cmp_begins : Edge → Edge → Ordering
cmp_begins one other = then_cmp (int_cmp one.x0 other.x0) (then_cmp (int_cmp one.y0 other.y0) (int_cmp (rise one *ℤ steps other) (rise other *ℤ steps one)))

-- The one begins before the other, or as it does.
abbrev pub BeginsUpto : Edge → Edge → Type 0
BeginsUpto one other =
    (one.x0 <ℤ other.x0)
    ⊎ (one.x0 ≡ other.x0) × ((one.y0 <ℤ other.y0) ⊎ (one.y0 ≡ other.y0) × ((rise one *ℤ steps other) ≤ℤ (rise other *ℤ steps one)))

-- The pieces begin in this order.
abbrev pub BeginInOrder : List Piece → Type 0
BeginInOrder pieces = AllPairs (λ one other. BeginsUpto one.edge other.edge) pieces
