-- Windows of the plane, and what lies in them.
use Rattle.std.specs.Prelude.{◌⊎◌, pos, ◌^◌, ◌+ℤ◌, ◌-ℤ◌, ◌*ℤ◌, ◌≤ℤ◌, ◌<ℤ◌, List, All}
use Rattle.plane.specs.declared.point.Point.{Point}
use Rattle.plane.specs.Meet.Edges.{RationalPoint}
use Rattle.tiles.specs.declared.window.Window.{Window}
use Rattle.tiles.specs.declared.fault.CropFault.{CropFault}
use Rattle.tiles.specs.declared.fault.CropFault.TheVariants.{OutOfMemory, Empty, Margin}

-- The point lies in the window: from its left and its lower side on, and before its right and its upper one. So of windows side
-- by side one has it.
pub record InWindow (window : Window) (point : RationalPoint) : Type 0 where
  pub from_left : (pos point.n *ℤ window.left) ≤ℤ point.x
  pub before_right : point.x <ℤ (pos point.n *ℤ window.right)
  pub from_low : (pos point.n *ℤ window.low) ≤ℤ point.y
  pub below_high : point.y <ℤ (pos point.n *ℤ window.high)

-- Some point lies in the window.
pub record HasPoints (window : Window) : Type 0 where
  pub wide : window.left <ℤ window.right
  pub tall : window.low <ℤ window.high

-- The window with a margin of 2 on each side.
abbrev pub widened : Window → Window
widened window = record {
  left = window.left -ℤ pos 2;
  low = window.low -ℤ pos 2;
  right = window.right +ℤ pos 2;
  high = window.high +ℤ pos 2;
}

-- Its sides are numbers of 32 bits.
pub record IsIn32Bits (window : Window) : Type 0 where
  pub left : (pos 0 -ℤ pos (2 ^ 31)) ≤ℤ window.left
  pub low : (pos 0 -ℤ pos (2 ^ 31)) ≤ℤ window.low
  pub right : window.right <ℤ pos (2 ^ 31)
  pub high : window.high <ℤ pos (2 ^ 31)

-- A ring can be cropped to it.
pub record CanCropTo (window : Window) : Type 0 where
  pub some : HasPoints window
  pub margin : IsIn32Bits (widened window)

-- Why a ring wasn't cropped to it: no point lies in it, or its margin leaves 32 bits, or it can be, and memory was refused.
abbrev pub IsFault : Window → CropFault → Type 0
IsFault window Empty = ¬ (HasPoints window)
IsFault window Margin = HasPoints window × ¬ (IsIn32Bits (widened window))
IsFault window OutOfMemory = CanCropTo window

-- Both points lie beyond one side of the window.
abbrev pub AreBeyond : Window → Point → Point → Type 0
AreBeyond window one other =
    ((one.x <ℤ window.left) × (other.x <ℤ window.left)) ⊎ ((window.right <ℤ one.x) × (window.right <ℤ other.x))
    ⊎ ((one.y <ℤ window.low) × (other.y <ℤ window.low)) ⊎ ((window.high <ℤ one.y) × (window.high <ℤ other.y))

-- All points of the ring lie beyond one side of the window, or on the line along it.
abbrev pub LiesBeyond : Window → List Point → Type 0
LiesBeyond window ring =
    All (λ point. point.x ≤ℤ window.left) ring ⊎ (All (λ point. window.right ≤ℤ point.x) ring
    ⊎ (All (λ point. point.y ≤ℤ window.low) ring ⊎ All (λ point. window.high ≤ℤ point.y) ring))

-- The whole point lies in the window or on one of its sides.
pub record IsWithin (window : Window) (point : Point) : Type 0 where
  pub from_left : window.left ≤ℤ point.x
  pub upto_right : point.x ≤ℤ window.right
  pub from_low : window.low ≤ℤ point.y
  pub upto_high : point.y ≤ℤ window.high
