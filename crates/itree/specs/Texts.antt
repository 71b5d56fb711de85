-- What the program answers to a text in a mode, and which of its lines are told as a fault.
use Rattle.std.specs.Prelude.{◌⊎◌, ⊤, ℕ, List, Option, IfSome}
use Rattle.std.specs.Borrow.{Bor}
use Rattle.itree.specs.Grammar.{lines_of, LinesSay, IsFirstFaulty}
use Rattle.itree.specs.Modes.{row_of, Names}
use Rattle.itree.specs.declared.fault.Fault.{Fault}
use Rattle.itree.specs.declared.fault.Fault.TheVariants.{Arguments, Line, Overlap, Cross, Unfit, Memory, Reading, Writing}
use Rattle.itree.specs.declared.fault.Unfit.{Unfit as unfit}
use Rattle.itree.specs.declared.mode.Mode.{Mode}

-- the output answers the commands that the lines of the text say; whether a tree or a list is kept makes no difference
abbrev pub Answers : Mode → List ℕ → List ℕ → Type 0
Answers mode text output =
    (commands : List (row_of mode).Command) × LinesSay (row_of mode).SaysCommand (lines_of text) commands
    × (row_of mode).AnswersAll (lines_of text) commands output

-- the line of this number is the first one that is faulty in the mode
abbrev pub HasFirstFaulty : Mode → List ℕ → ℕ → Type 0
HasFirstFaulty mode text number = IsFirstFaulty (row_of mode).SaysCommand (lines_of text) number

-- a line of the text is faulty in the mode
abbrev pub HasFaultyLine : Mode → List ℕ → Type 0
HasFaultyLine mode text = (number : ℕ) × HasFirstFaulty mode text number

-- in a sweep, the line of this number says the first segment that overlaps; no other mode has one
abbrev pub HasOverlapLine : Mode → List ℕ → ℕ → Type 0
HasOverlapLine mode text number = (row_of mode).IsOverlap (lines_of text) number

-- among edges and points, the lines of these numbers say edges that cross; no other mode has them
abbrev pub HasCrossingLines : Mode → List ℕ → ℕ → ℕ → Type 0
HasCrossingLines mode text first second = (row_of mode).AreCrossing (lines_of text) first second

-- of what grows or shrinks, the lines of the text say what has no answer, for this reason; no other mode has such
abbrev pub HasUnfit : Mode → List ℕ → unfit → Type 0
HasUnfit mode text why =
    (commands : List (row_of mode).Command) × LinesSay (row_of mode).SaysCommand (lines_of text) commands
    × (row_of mode).IsUnfit commands why

-- a line of the text is faulty in the mode, or, in a sweep, says the first segment that overlaps, or, among edges and points,
-- two lines say edges that cross, or, of what grows or shrinks, the lines say what has no answer
abbrev pub HasFault : Mode → List ℕ → Type 0
HasFault mode text =
    HasFaultyLine mode text
    ⊎ (((number : ℕ) × HasOverlapLine mode text number)
    ⊎ (((first : ℕ) × (second : ℕ) × HasCrossingLines mode text first second)
    ⊎ ((why : unfit) × HasUnfit mode text why)))

-- what a fault says of the input, in the mode that the arguments name: which of its lines are told
abbrev pub IsFaultOf : List (Bor (List ℕ)) → Option (List ℕ) → Fault → Type 0
IsFaultOf words input (Line number) = (mode : Mode) → Names words mode → IfSome input (λ text. HasFirstFaulty mode text number)
IsFaultOf words input (Overlap number) = (mode : Mode) → Names words mode → IfSome input (λ text. HasOverlapLine mode text number)
IsFaultOf words input (Cross first second) =
    (mode : Mode) → Names words mode → IfSome input (λ text. HasCrossingLines mode text first second)
IsFaultOf words input (Unfit why) = (mode : Mode) → Names words mode → IfSome input (λ text. HasUnfit mode text why)
IsFaultOf words input Arguments = ⊤
IsFaultOf words input Memory = ⊤
IsFaultOf words input (Reading error) = ⊤
IsFaultOf words input (Writing error) = ⊤
