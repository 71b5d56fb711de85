-- Which words say which command of keys that expire.
use Rattle.std.specs.Prelude.{◌≡◌, ℕ, ℤ, pos, List, [], ◌∷◌, codes}
use Rattle.itree.specs.Grammar.{Says}
use Rattle.runs.specs.declared.keys.KeyCommand.{KeyCommand}
use Rattle.runs.specs.declared.keys.KeyCommand.TheVariants.{Insert, Less, LessOrEqualBy, Clear}
use Rattle.itree.specs.declared.timed_key.TimedKey.{TimedKey}

-- a command of a line
abbrev pub KeyLine : Type 0
KeyLine = KeyCommand TimedKey ℤ ℤ ℤ

-- The words say the command. A key that is only sought lasts as long as a key can.
abbrev pub SaysKeyCommand : List (List ℕ) → KeyLine → Type 0
SaysKeyCommand words (Insert key val time) = Says words (codes "insert") (key.key ∷ key.expiration ∷ val ∷ time ∷ [])
SaysKeyCommand words (Less time default key) = Says words (codes "less") (time ∷ default ∷ key.key ∷ []) × (key.expiration ≡ pos 0x7fff_ffff)
SaysKeyCommand words (LessOrEqualBy time default probe) = Says words (codes "leq") (time ∷ default ∷ probe ∷ [])
SaysKeyCommand words Clear = Says words (codes "clear") []

-- the words say no command
abbrev pub SaysNoKeyCommand : List (List ℕ) → Type 0
SaysNoKeyCommand words = (command : KeyLine) → ¬ (SaysKeyCommand words command)
