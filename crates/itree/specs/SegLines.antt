-- Which words say which command of segments.
use Rattle.std.specs.Prelude.{ℕ, ℤ, List, [], ◌∷◌, codes}
use Rattle.itree.specs.Grammar.{Says}
use Rattle.runs.specs.declared.segments.SegCommand.{SegCommand}
use Rattle.runs.specs.declared.segments.SegCommand.TheVariants.{Insert, Query, Clear}
use Rattle.itree.specs.declared.timed_val.TimedVal.{TimedVal}

-- a command of a line
abbrev pub SegLine : Type 0
SegLine = SegCommand ℤ ℤ TimedVal

-- the words say the command
abbrev pub SaysSegCommand : List (List ℕ) → SegLine → Type 0
SaysSegCommand words (Insert range val) = Says words (codes "insert") (range.min ∷ range.max ∷ val.expiration ∷ val.val ∷ [])
SaysSegCommand words (Query range time) = Says words (codes "query") (range.min ∷ range.max ∷ time ∷ [])
SaysSegCommand words Clear = Says words (codes "clear") []

-- the words say no command
abbrev pub SaysNoSegCommand : List (List ℕ) → Type 0
SaysNoSegCommand words = (command : SegLine) → ¬ (SaysSegCommand words command)
