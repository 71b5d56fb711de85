-- The grammar of a text: its lines and their words, what each line says, and which line is the first faulty one.
use Rattle.std.specs.Prelude.{◌≡◌, ◌==◌, ℕ, ℤ, ◌+◌, nat_lt, if◌then◌else◌, ⊤, List, [], ◌∷◌, ◌++◌, Option, Some, None, All, filter, length}
use Rattle.std.specs.Borrow.{Bor}
use Rattle.std.specs.Char.{is_ascii_whitespace}
use Rattle.std.specs.List.{slice_split, cons_option}
use Rattle.std.specs.Str.{IsAscii}
use Rattle.itree.specs.Words.{Reads}

-- the words are read as the numbers, one for one
abbrev pub ReadsAll : List (List ℕ) → List ℤ → Type 0
ReadsAll [] [] = ⊤
ReadsAll (word ∷ words) (number ∷ numbers) = Reads word number × ReadsAll words numbers
ReadsAll [] (number ∷ numbers) = ⊥
ReadsAll (word ∷ words) [] = ⊥

-- the first word is the name, and the others are read as the numbers
abbrev pub Says : List (List ℕ) → List ℕ → List ℤ → Type 0
Says [] name numbers = ⊥
Says (word ∷ words) name numbers = (word ≡ name) × ReadsAll words numbers

-- the words of a line: what stands between ASCII white space
abbrev pub words_of : List ℕ → List (List ℕ)
words_of line = filter (λ word. nat_lt 0 (length word)) (slice_split is_ascii_whitespace line)

-- the lines of a text, each ended by a line feed or by the end of the text
abbrev pub lines_of : List ℕ → List (List ℕ)
lines_of text = slice_split (λ byte. byte == 10) text

-- the lines of what is left of a text, if anything is
abbrev pub lines_left : Option (Bor (List ℕ)) → List (List ℕ)
lines_left None = []
lines_left (Some text) = lines_of text.now

-- the numbers of the lines that have words, where the first line has this number
abbrev pub numbers_from : ℕ → List (List ℕ) → List ℕ
numbers_from number [] = []
numbers_from number (line ∷ lines) =
    let later = numbers_from (number + 1) lines in
    (if nat_lt 0 (length (words_of line)) then number ∷ later else later)

-- The numbers of the lines that say commands, counted from 1, in the order of the commands. Where all lines are sound, those
-- with words say commands.
abbrev pub command_lines : List (List ℕ) → List ℕ
command_lines lines = numbers_from 1 lines

-- `SaysCommand` tells which words say which command
module _ {Command : Type 0} (SaysCommand : List (List ℕ) → Command → Type 0) where
  -- the line is ASCII, and it says this command, or none where it has no words
  abbrev pub LineSays : List ℕ → Option Command → Type 0
  LineSays line None = IsAscii line × (words_of line ≡ [])
  LineSays line (Some command) = IsAscii line × SaysCommand (words_of line) command

  -- the line is not ASCII, or it has words that say no command
  abbrev pub IsFaulty : List ℕ → Type 0
  IsFaulty line = (said : Option Command) → ¬ (LineSays line said)

  -- the lines say the commands, in order
  abbrev pub LinesSay : List (List ℕ) → List Command → Type 0
  LinesSay [] commands = commands ≡ []
  LinesSay (line ∷ lines) commands =
      (said : Option Command) × (others : List Command)
      × LineSays line said × LinesSay lines others × (commands ≡ cons_option said others)

  -- the line of this number, counted from 1, is faulty, and no line before it is
  pub record IsFirstFaulty (lines : List (List ℕ)) (number : ℕ) : Type 0 where
    pub before : List (List ℕ)
    pub line : List ℕ
    pub after : List (List ℕ)
    pub together : lines ≡ before ++ line ∷ after
    pub counted : number ≡ length before + 1
    pub sound : All (λ earlier. ¬ (IsFaulty earlier)) before
    pub faulty : IsFaulty line
