-- Runs of eight boxes that follow each other. For private contracts.
use Rattle.std.specs.Prelude.{◌≡◌, ◌<◌, ◌≤◌, ◌+◌, ◌*◌, ℕ, List, get_or, length}
use Rattle.plane.specs.Pairs.Bounds.{IsAroundThese}
use Rattle.plane.specs.declared.pairs.items.Bounds.{Bounds}
use Rattle.plane.specs.declared.pairs.runs.Run.{Run}

-- It is the run at this place, with a box around what it has.
pub record IsRunAt (boxes : List Bounds) (place : ℕ) (run : Run) : Type 0 where
  pub from : run.from ≡ place * 8
  pub to : run.to ≡ place * 8 + 8
  pub around : IsAroundThese run.from run.to boxes run.around

-- These are runs of boxes, one behind another.
abbrev pub AreRunsAt : List Bounds → List Run → Type 0
AreRunsAt boxes runs = (place : ℕ) (d : Run) → place < length runs → IsRunAt boxes place (get_or runs place d)

-- And they have all boxes.
pub record AreRuns (boxes : List Bounds) (runs : List Run) : Type 0 where
  pub each : AreRunsAt boxes runs
  pub all : length boxes ≤ length runs * 8
