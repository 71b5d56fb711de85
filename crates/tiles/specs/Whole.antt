-- Windows that make up one.
use Rattle.std.specs.Prelude.{◌↔◌, ◌*◌, ◌-ℤ◌, ℕ, List, All, AllPairs, unsigned_abs}
use Rattle.std.specs.List.{Any}
use Rattle.plane.specs.Meet.Edges.{RationalPoint}
use Rattle.tiles.specs.Join.{AreApart}
use Rattle.tiles.specs.Window.{HasPoints, InWindow}
use Rattle.tiles.specs.declared.join_fault.JoinFault.{JoinFault}
use Rattle.tiles.specs.declared.join_fault.JoinFault.TheVariants.{Lengths, Empty, Overlap, Outside, Covered, OutOfMemory}
use Rattle.tiles.specs.declared.window.Window.{Window}

-- Each point of the window lies in one of these, and each point of one of these in it.
pub record IsWhole (whole : Window) (windows : List Window) : Type 0 where
  pub some : HasPoints whole
  pub same : (point : RationalPoint) → InWindow whole point ↔ Any (λ window. InWindow window point) windows

-- Why it wasn't told what windows make up: the first of these, and nothing else.
abbrev pub IsWholeFault : List Window → JoinFault → Type 0
IsWholeFault windows Lengths = ⊥
IsWholeFault windows Empty = ¬ (All HasPoints windows)
IsWholeFault windows Overlap = All HasPoints windows × (¬ (AllPairs AreApart windows))
IsWholeFault windows Outside = ⊥
IsWholeFault windows Covered = ⊥
IsWholeFault windows OutOfMemory = ⊥

-- ---- for private contracts

-- How many unit squares the window has.
abbrev pub area : Window → ℕ
area window = unsigned_abs (window.right -ℤ window.left) * unsigned_abs (window.high -ℤ window.low)
