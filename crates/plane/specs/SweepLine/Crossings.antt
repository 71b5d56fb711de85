-- When two edges cross, and which edges of a list do.
use Rattle.std.specs.Prelude.{◌≡◌, ◌⊎◌, ℤ, ℕ, ◌<◌, List, AllPairs, Some, slice_get}
use Rattle.std.specs.declared.cmp.Ordering.{Ordering}
use Rattle.std.specs.declared.cmp.Ordering.TheVariants.{Less, Greater}
use Rattle.plane.specs.declared.edge.Edge.{Edge}
use Rattle.plane.specs.SweepLine.Heights.{Spans, IsLowerAt}

-- At this x, which both edges span, the one is below the other.
pub record IsBelowAt (one other : Edge) (x : ℤ) : Type 0 where
  pub spanned : Spans one x
  pub other_spanned : Spans other x
  pub lower : IsLowerAt x one other

-- Two edges cross where at some whole x that both span the one is below the other, and at another above it. Edges that
-- touch, end on each other, or lie along one line don't cross.
pub record Cross (one other : Edge) : Type 0 where
  pub below : ℤ
  pub above : ℤ
  pub is_below : IsBelowAt one other below
  pub is_above : IsBelowAt other one above

-- Two comparisons that say less and greater, or greater and less.
abbrev pub AreOpposite : Ordering → Ordering → Type 0
AreOpposite one other = (one ≡ Less) × (other ≡ Greater) ⊎ (one ≡ Greater) × (other ≡ Less)

-- The edges at these two places of the list cross, and the first place is below the second.
pub record IsCrossing (edges : List Edge) (i j : ℕ) : Type 0 where
  pub below : i < j
  pub one : Edge
  pub other : Edge
  pub first : slice_get edges i ≡ Some one
  pub second : slice_get edges j ≡ Some other
  pub cross : Cross one other

-- No two edges of the list cross.
abbrev pub NoneCross : List Edge → Type 0
NoneCross edges = AllPairs (λ one other. ¬ (Cross one other)) edges
