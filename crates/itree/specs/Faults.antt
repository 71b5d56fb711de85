-- How a fault of the program is told: by the status, and by a line.
use Rattle.std.specs.Prelude.{◌≡◌, ◌≢◌, ◌==◌, ◌||◌, true, ◌<◌, ◌≤◌, ◌+◌, ◌-◌, ◌⊎◌, ℕ, ℤ, Bool, List, [], ◌∷◌, ◌++◌, Some, codes, drop, length, slice_get}
use Rattle.std.specs.Borrow.{Bor}
use Rattle.std.specs.Char.{is_ascii_graphic}
use Rattle.std.specs.Fmt.{decimal}
use Rattle.std.specs.Fmt.Cut.{IsTextOrCut}
use Rattle.std.specs.IoError.{error_kind}
use Rattle.std.specs.List.{between, list_all}
use Rattle.std.specs.Str.{IsAscii}
use Rattle.std.specs.declared.io.Error.{Error}
use Rattle.std.specs.declared.io.ErrorKind.TheVariants.{OutOfMemory}
use Rattle.itree.specs.Grammar.{lines_of, words_of}
use Rattle.itree.specs.Words.{Reads}
use Rattle.itree.specs.declared.fault.Fault.{Fault}
use Rattle.itree.specs.declared.fault.Fault.TheVariants.{Arguments, Line, Overlap, Cross, Unfit, Memory, Reading, Writing}
use Rattle.itree.specs.declared.fault.Unfit.{Unfit as unfit}
use Rattle.itree.specs.declared.fault.Unfit.TheVariants.{Shape, Range}
use Rattle.itree.specs.declared.fault.wanted.Wanted.{Wanted}
use Rattle.itree.specs.declared.fault.wanted.Wanted.TheVariants as wanted
use Rattle.itree.specs.declared.fault.words.FaultyWord.{FaultyWord}

-- what the process ends with
abbrev pub status_of : Fault → ℕ
status_of Arguments = 2
status_of (Line number) = 2
status_of (Overlap number) = 2
status_of (Cross first second) = 2
status_of (Unfit why) = 2
status_of Memory = 1
status_of (Reading error) = 1
status_of (Writing error) = 1

-- what is wanted, in words
abbrev pub wanted_text : Wanted → List ℕ
wanted_text wanted.OfKeys = codes "insert, less, leq or clear is wanted"
wanted_text wanted.OfSets = codes "insert, delete, find or before is wanted"
wanted_text wanted.OfSegments = codes "insert, query or clear is wanted"
wanted_text wanted.OfSweep = codes "segment or point is wanted"
wanted_text wanted.OfEdges = codes "edge is wanted"
wanted_text wanted.OfLocate = codes "edge or point is wanted"
wanted_text wanted.OfCrossings = codes "edge or range is wanted"
wanted_text wanted.OfRings = codes "subject or clip is wanted"
wanted_text wanted.OfGrowth = codes "subject or shape is wanted"
wanted_text wanted.OfPaths = codes "line or shape is wanted"
wanted_text wanted.Number = codes "a whole number from -2147483648 to 2147483647 is wanted"
wanted_text wanted.OneMore = codes "one more number is wanted behind it"
wanted_text wanted.NoMore = codes "no further word is wanted"
wanted_text wanted.Mode = codes "a mode is wanted; itree help lists them"
wanted_text wanted.Greater = codes "a number that is at least 31 more than the one before is wanted"
wanted_text wanted.Side = codes "a whole number from -2147483646 to 2147483645 is wanted"
wanted_text wanted.Above = codes "a number that is greater than the one two words before is wanted"
wanted_text wanted.SidesBehind = codes "four numbers, X0 Y0 X1 Y1, are wanted behind it"
wanted_text wanted.Operation = codes "union, intersection, difference or xor is wanted"
wanted_text wanted.OperationBehind = codes "union, intersection, difference or xor is wanted behind it"
wanted_text wanted.Rule = codes "evenodd, nonzero, positive or negative is wanted"
wanted_text wanted.RuleBehind = codes "evenodd, nonzero, positive or negative is wanted behind it"
wanted_text wanted.Choice = codes "--operation, --rule or --window is wanted"
wanted_text wanted.Growth = codes "grow, shrink or lines is wanted"
wanted_text wanted.GrowthBehind = codes "grow, shrink or lines is wanted behind it"

-- the byte is printed as it is, in ASCII
abbrev pub is_plain : ℕ → Bool
is_plain byte = is_ascii_graphic byte || byte == 32

-- all bytes of the word are
abbrev pub IsPlain : List ℕ → Type 0
IsPlain word = IsAscii word × (list_all is_plain word ≡ true)

-- a word as it is told: where all of its bytes are printed, it stands as it is, or something that ends in three dots
abbrev pub Shows : List ℕ → List ℕ → Type 0
Shows word shown = IsPlain word → IsTextOrCut 40 word shown

-- a word of the line stands from the one place on, and before the other, and the words behind it are those of what is left
abbrev pub IsWordAt : List ℕ → ℕ → ℕ → Type 0
IsWordAt line start end =
    (start < end) × (end ≤ length line)
    × (before : List (List ℕ)) × (words_of line ≡ before ++ between start end line ∷ words_of (drop end line))

-- The word stands there in the line. Where a number is wanted in its place, it isn't ASCII, or is read as none.
abbrev pub IsFaultyWord : List ℕ → FaultyWord → Type 0
IsFaultyWord line found =
    IsWordAt line found.start found.end
    × (found.wanted ≡ wanted.Number → IsAscii (between found.start found.end line) → (number : ℤ) → ¬ (Reads (between found.start found.end line) number))

-- The line tells that the arguments are faulty: at which word, where there is one, and what is wanted there, or behind it.
abbrev pub TellsArguments : List (Bor (List ℕ)) → List ℕ → Type 0
TellsArguments words told =
    (told ≡ codes "itree: arguments: a mode is wanted; itree help lists them\n")
    ⊎ ((place : ℕ) × (word : Bor (List ℕ)) × (shown : List ℕ) × (what : Wanted)
    × (slice_get words place ≡ Some word) × Shows word.now shown
    × (told ≡ codes "itree: arguments: '" ++ (shown ++ (codes "': " ++ (wanted_text what ++ 10 ∷ [])))))

-- The line tells the faulty line of this number, and where it tells more, then a word of that line, its column, and what is wanted
-- there, or behind it.
abbrev pub TellsLine : List ℕ → ℕ → List ℕ → Type 0
TellsLine text number told =
    (told ≡ codes "itree: line " ++ (decimal number ++ 10 ∷ []))
    ⊎ ((line : List ℕ) × (found : FaultyWord) × (shown : List ℕ)
    × (slice_get (lines_of text) (number - 1) ≡ Some line) × IsFaultyWord line found × Shows (between found.start found.end line) shown
    × (told ≡ codes "itree: line " ++ (decimal number ++ (codes ": column " ++ (decimal (found.start + 1) ++ (codes ": '" ++ (shown ++ (codes "': " ++ (wanted_text found.wanted ++ 10 ∷ [])))))))))

-- the line tells why sound lines of what grows or shrinks have no answer
abbrev pub TellsUnfit : unfit → List ℕ → Type 0
TellsUnfit Shape told = told ≡ codes "itree: shape: its corners go round no convex polygon, counterclockwise, with the origin inside\n"
TellsUnfit Range told = told ≡ codes "itree: range: a corner goes beyond the whole numbers from -2147483648 to 2147483647\n"

-- the line tells that memory was refused
abbrev pub TellsMemory : List ℕ → Type 0
TellsMemory told = told ≡ codes "itree: memory was refused\n"

-- the line tells that reading failed, and what the system says of it; or, where the error says so, that memory was refused
abbrev pub TellsReading : Error → List ℕ → Type 0
TellsReading error told =
    (error_kind error ≡ OutOfMemory → TellsMemory told)
    × (error_kind error ≢ OutOfMemory → (reason : List ℕ) × (told ≡ codes "itree: reading failed: " ++ (reason ++ 10 ∷ [])))

-- the line tells that writing failed
abbrev pub TellsWriting : List ℕ → Type 0
TellsWriting told = (reason : List ℕ) × (told ≡ codes "itree: writing failed: " ++ (reason ++ 10 ∷ []))

-- the line tells the fault, which came of these words and this text
abbrev pub TellsFault : List (Bor (List ℕ)) → List ℕ → Fault → List ℕ → Type 0
TellsFault words text Arguments told = TellsArguments words told
TellsFault words text (Line number) told = TellsLine text number told
TellsFault words text (Overlap number) told = told ≡ codes "itree: overlap " ++ (decimal number ++ 10 ∷ [])
TellsFault words text (Cross first second) told = told ≡ codes "itree: cross " ++ (decimal first ++ (codes " " ++ (decimal second ++ 10 ∷ [])))
TellsFault words text (Unfit why) told = TellsUnfit why told
TellsFault words text Memory told = TellsMemory told
TellsFault words text (Reading error) told = TellsReading error told
TellsFault words text (Writing error) told = TellsWriting told
