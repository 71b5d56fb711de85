-- The box of an edge, and when the boxes of two edges meet: the ranges of their x meet, and those of their y.
use Rattle.std.specs.Prelude.{ℤ, ◌≤ℤ◌}
use Rattle.std.specs.Int.{int_min, int_max}
use Rattle.plane.specs.declared.edge.Edge.{Edge}
use Rattle.plane.specs.declared.pairs.items.Bounds.{Bounds}

-- The least box that has both ends.
abbrev pub bounds_of : Edge → Bounds
bounds_of edge = record {
  left = int_min edge.x0 edge.x1;
  right = int_max edge.x0 edge.x1;
  low = int_min edge.y0 edge.y1;
  high = int_max edge.y0 edge.y1;
}

-- Some number lies between both the first two numbers and the last two, whichever of each two is the lesser.
pub record RangesMeet (start end other_start other_end : ℤ) : Type 0 where
  pub first : int_min start end ≤ℤ int_max other_start other_end
  pub second : int_min other_start other_end ≤ℤ int_max start end

pub record BoxesMeet (one other : Edge) : Type 0 where
  pub x : RangesMeet one.x0 one.x1 other.x0 other.x1
  pub y : RangesMeet one.y0 one.y1 other.y0 other.y1
