-- Which words say which command of a set.
use Rattle.std.specs.Prelude.{ℕ, ℤ, List, [], ◌∷◌, codes}
use Rattle.itree.specs.Grammar.{Says}
use Rattle.runs.specs.declared.sets.SetCommand.{SetCommand}
use Rattle.runs.specs.declared.sets.SetCommand.TheVariants.{Insert, Delete, Find, Before}
use Rattle.itree.specs.declared.set_key.SetKey.{SetKey}

-- a command of a line
abbrev pub SetLine : Type 0
SetLine = SetCommand ℤ SetKey

-- the words say the command
abbrev pub SaysSetCommand : List (List ℕ) → SetLine → Type 0
SaysSetCommand words (Insert value) = Says words (codes "insert") (value.key ∷ [])
SaysSetCommand words (Delete key) = Says words (codes "delete") (key ∷ [])
SaysSetCommand words (Find key) = Says words (codes "find") (key ∷ [])
SaysSetCommand words (Before key) = Says words (codes "before") (key ∷ [])
