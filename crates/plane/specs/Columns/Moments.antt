-- Moments of a sweep by whole columns, and when two edges stand the wrong way round at one. A moment is a number: 2 x at the
-- column x, and 2 x + 1 just behind it, before the next column. All edges here go to the right.
use Rattle.std.specs.Prelude.{◌≡◌, ◌⊎◌, ℤ, pos, ◌+ℤ◌, ◌*ℤ◌, ◌≤ℤ◌, ◌<ℤ◌}
use Rattle.std.specs.Int.{int_max, int_min}
use Rattle.plane.specs.declared.edge.Edge.{Edge}
use Rattle.plane.specs.SweepLine.Heights.{height_by_runs, rise_by_run}

abbrev pub at_column : ℤ → ℤ
at_column x = pos 2 *ℤ x

abbrev pub behind_column : ℤ → ℤ
behind_column x = (pos 2 *ℤ x) +ℤ pos 1

-- the one is higher than the other at x
abbrev pub IsHigher : Edge → Edge → ℤ → Type 0
IsHigher one other x = height_by_runs other one x <ℤ height_by_runs one other x

-- it goes up more
abbrev pub IsSteeper : Edge → Edge → Type 0
IsSteeper one other = rise_by_run other one <ℤ rise_by_run one other

-- just behind x it is higher
abbrev pub IsHigherBehind : Edge → Edge → ℤ → Type 0
IsHigherBehind one other x =
    IsHigher one other x ⊎ ((height_by_runs one other x ≡ height_by_runs other one x) × IsSteeper one other)

-- At the moment the one is higher than the other: where it stands below it, the two are the wrong way round.
abbrev pub IsAbove : Edge → Edge → ℤ → Type 0
IsAbove one other moment =
    (x : ℤ) × ((moment ≡ at_column x) × IsHigher one other x ⊎ (moment ≡ behind_column x) × IsHigherBehind one other x)

-- the moment at which the second of the two begins, and that at which the first of them ends
abbrev pub first_common : Edge → Edge → ℤ
first_common one other = behind_column (int_max one.x0 other.x0)

abbrev pub last_common : Edge → Edge → ℤ
last_common one other = at_column (int_min one.x1 other.x1)

-- It is the first moment from this one on, while both live, at which the one is above the other.
pub record IsFirstAbove (one other : Edge) (from : ℤ) (moment : ℤ) : Type 0 where
  pub behind : from ≤ℤ moment
  pub common : moment ≤ℤ last_common one other
  pub above : IsAbove one other moment
  pub steeper : IsSteeper one other
  pub not_before : (earlier : ℤ) → from ≤ℤ earlier → earlier <ℤ moment → ¬ (IsAbove one other earlier)

-- A gap, of which so much is gained from each column to the next, is overcome so many moments behind a column: it is closed
-- at a column, and overcome just behind that; or the next column is the first at which none of it is left.
abbrev pub Overcomes : ℤ → ℤ → ℤ → ℤ → Type 0
Overcomes gap gain columns moments =
    (gap ≡ (columns *ℤ gain)) × (moments ≡ behind_column columns)
    ⊎ ((columns *ℤ gain) <ℤ gap) × (gap <ℤ ((columns +ℤ pos 1) *ℤ gain)) × (moments ≡ at_column (columns +ℤ pos 1))
