-- The modes of the program, a row each, and which arguments name them or ask for a text of the program's own.
use Rattle.std.specs.Prelude.{◌≡◌, ◌⊎◌, ⊤, ℕ, ◌^◌, ℤ, ◌+ℤ◌, ◌-ℤ◌, ◌≤ℤ◌, ◌<ℤ◌, pos, List, [], ◌∷◌, map, codes}
use Rattle.std.specs.Borrow.{Bor}
use Rattle.i_tree.specs.Seg.Buckets.{HasLayout}
use Rattle.itree.specs.Answers.{AnswersKeys, AnswersSet, AnswersRange, AnswersSweep, AnswersMeetings, AnswersLocate, AnswersCrossings, AnswersSnap, AnswersNode, AnswersOverlay, AnswersTile, AnswersGrown, AnswersShrunk, AnswersPaths, IsUnfitGrown, IsUnfitShrunk, IsUnfitPaths}
use Rattle.itree.specs.MeetingsLines.{SaysEdge}
use Rattle.itree.specs.CrossingsLines.{SaysCrossingsLine}
use Rattle.itree.specs.Grammar.{ReadsAll}
use Rattle.itree.specs.KeyLines.{KeyLine, SaysKeyCommand}
use Rattle.itree.specs.LocateLines.{SaysLocateLine, AreCrossingLines}
use Rattle.itree.specs.RingLines.{RingLine, SaysRing}
use Rattle.itree.specs.SegLines.{SegLine, SaysSegCommand}
use Rattle.itree.specs.SetLines.{SetLine, SaysSetCommand}
use Rattle.itree.specs.SweepLines.{SaysSweepLine, IsOverlapLine}
use Rattle.itree.specs.declared.lines.crossings.CrossingsLine.{CrossingsLine}
use Rattle.itree.specs.declared.lines.locate.LocateLine.{LocateLine}
use Rattle.itree.specs.declared.lines.sweep.SweepLine.{SweepLine}
use Rattle.plane.specs.declared.edge.Edge.{Edge}
use Rattle.itree.specs.declared.fault.Unfit.{Unfit}
use Rattle.itree.specs.declared.lines.rings.RingKind.TheVariants as kinds
use Rattle.itree.specs.declared.mode.Mode.{Mode}
use Rattle.itree.specs.declared.mode.Mode.TheVariants.{KeyTree, KeyList, SetTree, SetList, Segments, Sweep, Meetings, Locate, Crossings, Snap, Node, Overlay, Tile, Grow, Shrink, Paths}
use Rattle.overlay.specs.declared.fill.rules.FillRule.{FillRule}
use Rattle.overlay.specs.declared.fill.rules.FillRule.TheVariants.{EvenOdd, NonZero, Positive, Negative}
use Rattle.overlay.specs.declared.fill.rules.Operation.{Operation}
use Rattle.overlay.specs.declared.fill.rules.Operation.TheVariants.{Union, Intersection, Difference, Xor}
use Rattle.tiles.specs.Window.{CanCropTo}
use Rattle.tiles.specs.declared.window.Window.{Window}

-- A mode: the word that names it, the words behind it that choose, and the numbers behind these, which are to fit; which words of a
-- line say which command; which output answers lines and the commands that they say; which line of a text, and which two, tell a
-- fault beside a faulty one; and which commands have no answer, and why.
pub record Row : Type 1 where
  pub word : List ℕ
  pub choices : List (List ℕ)
  pub numbers : List ℤ
  pub Fits : Type 0
  pub Command : Type 0
  pub SaysCommand : List (List ℕ) → Command → Type 0
  pub AnswersAll : List (List ℕ) → List Command → List ℕ → Type 0
  pub IsOverlap : List (List ℕ) → ℕ → Type 0
  pub AreCrossing : List (List ℕ) → ℕ → ℕ → Type 0
  pub IsUnfit : List Command → Unfit → Type 0

-- keys that expire, from nothing on
abbrev pub keys_row : List ℕ → Row
keys_row word = record {
  word = word;
  choices = [];
  numbers = [];
  Fits = ⊤;
  Command = KeyLine;
  SaysCommand = SaysKeyCommand;
  AnswersAll = λ lines. AnswersKeys [];
  IsOverlap = λ lines number. ⊥;
  AreCrossing = λ lines first second. ⊥;
  IsUnfit = λ commands why. ⊥;
}

-- a set, from nothing on
abbrev pub set_row : List ℕ → Row
set_row word = record {
  word = word;
  choices = [];
  numbers = [];
  Fits = ⊤;
  Command = SetLine;
  SaysCommand = SaysSetCommand;
  AnswersAll = λ lines. AnswersSet [];
  IsOverlap = λ lines number. ⊥;
  AreCrossing = λ lines first second. ⊥;
  IsUnfit = λ commands why. ⊥;
}

-- segments over a range that has a layout, from nothing on
abbrev pub segments_row : ℤ → ℤ → Row
segments_row min max = record {
  word = codes "seg";
  choices = [];
  numbers = min ∷ max ∷ [];
  Fits = HasLayout 31 min max;
  Command = SegLine;
  SaysCommand = SaysSegCommand;
  AnswersAll = λ lines. AnswersRange min max;
  IsOverlap = λ lines number. ⊥;
  AreCrossing = λ lines first second. ⊥;
  IsUnfit = λ commands why. ⊥;
}

-- the points of a sweep, over its segments
abbrev pub sweep_row : Row
sweep_row = record {
  word = codes "sweep";
  choices = [];
  numbers = [];
  Fits = ⊤;
  Command = SweepLine;
  SaysCommand = SaysSweepLine;
  AnswersAll = λ lines. AnswersSweep;
  IsOverlap = IsOverlapLine;
  AreCrossing = λ lines first second. ⊥;
  IsUnfit = λ commands why. ⊥;
}

-- edges of the plane, each beside the earlier ones
abbrev pub meetings_row : Row
meetings_row = record {
  word = codes "meetings";
  choices = [];
  numbers = [];
  Fits = ⊤;
  Command = Edge;
  SaysCommand = SaysEdge;
  AnswersAll = AnswersMeetings;
  IsOverlap = λ lines number. ⊥;
  AreCrossing = λ lines first second. ⊥;
  IsUnfit = λ commands why. ⊥;
}

-- the points among edges of the plane
abbrev pub locate_row : Row
locate_row = record {
  word = codes "locate";
  choices = [];
  numbers = [];
  Fits = ⊤;
  Command = LocateLine;
  SaysCommand = SaysLocateLine;
  AnswersAll = AnswersLocate;
  IsOverlap = λ lines number. ⊥;
  AreCrossing = AreCrossingLines;
  IsUnfit = λ commands why. ⊥;
}

-- edges of the plane and ranges, beside the edges
abbrev pub crossings_row : Row
crossings_row = record {
  word = codes "crossings";
  choices = [];
  numbers = [];
  Fits = ⊤;
  Command = CrossingsLine;
  SaysCommand = SaysCrossingsLine;
  AnswersAll = AnswersCrossings;
  IsOverlap = λ lines number. ⊥;
  AreCrossing = λ lines first second. ⊥;
  IsUnfit = λ commands why. ⊥;
}

-- edges of the plane, each over its chain
abbrev pub chains_row : List ℕ → (List Edge → List ℕ → Type 0) → Row
chains_row word AnswersThese = record {
  word = word;
  choices = [];
  numbers = [];
  Fits = ⊤;
  Command = Edge;
  SaysCommand = SaysEdge;
  AnswersAll = λ lines. AnswersThese;
  IsOverlap = λ lines number. ⊥;
  AreCrossing = λ lines first second. ⊥;
  IsUnfit = λ commands why. ⊥;
}

-- the word of an operation
abbrev pub operation_word : Operation → List ℕ
operation_word Union = codes "union"
operation_word Intersection = codes "intersection"
operation_word Difference = codes "difference"
operation_word Xor = codes "xor"

-- the word of a fill rule
abbrev pub rule_word : FillRule → List ℕ
rule_word EvenOdd = codes "evenodd"
rule_word NonZero = codes "nonzero"
rule_word Positive = codes "positive"
rule_word Negative = codes "negative"

-- the rings of a subject and of a clip, and the polygons of what the operation makes of them
abbrev pub overlay_row : Operation → FillRule → Row
overlay_row operation rule = record {
  word = codes "overlay";
  choices = operation_word operation ∷ rule_word rule ∷ [];
  numbers = [];
  Fits = ⊤;
  Command = RingLine;
  SaysCommand = SaysRing kinds.Overlay;
  AnswersAll = λ lines. AnswersOverlay operation rule;
  IsOverlap = λ lines number. ⊥;
  AreCrossing = λ lines first second. ⊥;
  IsUnfit = λ commands why. ⊥;
}

-- the sides of a window
abbrev pub sides_of : Window → List ℤ
sides_of window = window.left ∷ window.low ∷ window.right ∷ window.high ∷ []

-- the same rings, and the polygons of what of it lies in the window, within which an overlay can be made
abbrev pub tile_row : Window → Operation → FillRule → Row
tile_row window operation rule = record {
  word = codes "overlay";
  choices = operation_word operation ∷ rule_word rule ∷ codes "--window" ∷ [];
  numbers = sides_of window;
  Fits = CanCropTo window;
  Command = RingLine;
  SaysCommand = SaysRing kinds.Overlay;
  AnswersAll = λ lines. AnswersTile window operation rule;
  IsOverlap = λ lines number. ⊥;
  AreCrossing = λ lines first second. ⊥;
  IsUnfit = λ commands why. ⊥;
}

-- the rings that grow by the rule, and the shape; and the polygons that they become
abbrev pub grow_row : FillRule → Row
grow_row rule = record {
  word = codes "offset";
  choices = codes "grow" ∷ rule_word rule ∷ [];
  numbers = [];
  Fits = ⊤;
  Command = RingLine;
  SaysCommand = SaysRing kinds.Growth;
  AnswersAll = λ lines. AnswersGrown rule;
  IsOverlap = λ lines number. ⊥;
  AreCrossing = λ lines first second. ⊥;
  IsUnfit = IsUnfitGrown rule;
}

-- the same rings and shape, and the polygons of what is left where they shrink
abbrev pub shrink_row : FillRule → Row
shrink_row rule = record {
  word = codes "offset";
  choices = codes "shrink" ∷ rule_word rule ∷ [];
  numbers = [];
  Fits = ⊤;
  Command = RingLine;
  SaysCommand = SaysRing kinds.Growth;
  AnswersAll = λ lines. AnswersShrunk rule;
  IsOverlap = λ lines number. ⊥;
  AreCrossing = λ lines first second. ⊥;
  IsUnfit = IsUnfitShrunk rule;
}

-- paths that grow, and the shape
abbrev pub paths_row : Row
paths_row = record {
  word = codes "offset";
  choices = codes "lines" ∷ [];
  numbers = [];
  Fits = ⊤;
  Command = RingLine;
  SaysCommand = SaysRing kinds.Paths;
  AnswersAll = λ lines. AnswersPaths;
  IsOverlap = λ lines number. ⊥;
  AreCrossing = λ lines first second. ⊥;
  IsUnfit = IsUnfitPaths;
}

-- for private contracts: a window may go from the one number to the other along an axis
abbrev pub IsSpan : ℤ → ℤ → Type 0
IsSpan low high = (low <ℤ high) × ((pos 0 -ℤ pos (2 ^ 31)) ≤ℤ (low -ℤ pos 2)) × ((high +ℤ pos 2) <ℤ pos (2 ^ 31))

-- the row of each mode
abbrev pub row_of : Mode → Row
row_of KeyTree = keys_row (codes "keytree")
row_of KeyList = keys_row (codes "keylist")
row_of SetTree = set_row (codes "settree")
row_of SetList = set_row (codes "setlist")
row_of (Segments min max) = segments_row min max
row_of Sweep = sweep_row
row_of Meetings = meetings_row
row_of Locate = locate_row
row_of Crossings = crossings_row
row_of Snap = chains_row (codes "snap") AnswersSnap
row_of Node = chains_row (codes "node") AnswersNode
row_of (Overlay operation rule) = overlay_row operation rule
row_of (Tile window operation rule) = tile_row window operation rule
row_of (Grow rule) = grow_row rule
row_of (Shrink rule) = shrink_row rule
row_of Paths = paths_row

-- the numbers of the mode fit: those of segments are the ends of a range that has a layout, those of an overlay a window's sides
abbrev pub FitsItsNumbers : Mode → Type 0
FitsItsNumbers mode = (row_of mode).Fits

-- the two words are read as the numbers of the mode, which fit
abbrev pub NamesRange : List ℕ → List ℕ → Mode → Type 0
NamesRange low high mode = ReadsAll (low ∷ high ∷ []) (row_of mode).numbers × (row_of mode).Fits

-- the words are these choices, and behind them such as are read as the numbers
abbrev pub Chooses : List (List ℕ) → List (List ℕ) → List ℤ → Type 0
Chooses words [] numbers = ReadsAll words numbers
Chooses [] (choice ∷ choices) numbers = ⊥
Chooses (word ∷ words) (choice ∷ choices) numbers = (word ≡ choice) × Chooses words choices numbers

-- the arguments are the word of the row, its choices and its numbers
abbrev pub SaysRow : List (List ℕ) → Row → Type 0
SaysRow [] row = ⊥
SaysRow (word ∷ words) row = (word ≡ row.word) × Chooses words row.choices row.numbers

-- the arguments are those of the mode, and its numbers fit
abbrev pub NamedBy : Mode → List (List ℕ) → Type 0
NamedBy mode words = SaysRow words (row_of mode) × (row_of mode).Fits

-- the arguments name the mode
abbrev pub Names : List (Bor (List ℕ)) → Mode → Type 0
Names words mode = NamedBy mode (map (λ word. word.now) words)

-- the arguments name some mode
abbrev pub NamesMode : List (Bor (List ℕ)) → Type 0
NamesMode words = (mode : Mode) × Names words mode

-- the word asks for help
abbrev pub MeansHelp : List ℕ → Type 0
MeansHelp word = (word ≡ codes "help") ⊎ ((word ≡ codes "--help") ⊎ (word ≡ codes "-h"))

-- the arguments are one word, and it asks for help
abbrev pub AsksForHelp : List (Bor (List ℕ)) → Type 0
AsksForHelp [] = ⊥
AsksForHelp (word ∷ []) = MeansHelp word.now
AsksForHelp (word ∷ other ∷ words) = ⊥

-- the word asks for the version
abbrev pub MeansVersion : List ℕ → Type 0
MeansVersion word = (word ≡ codes "--version") ⊎ (word ≡ codes "-V")

-- the arguments are one word, and it asks for the version
abbrev pub AsksForVersion : List (Bor (List ℕ)) → Type 0
AsksForVersion [] = ⊥
AsksForVersion (word ∷ []) = MeansVersion word.now
AsksForVersion (word ∷ other ∷ words) = ⊥

-- the arguments ask for a text that the program has: the help or the version
abbrev pub AsksForText : List (Bor (List ℕ)) → Type 0
AsksForText words = AsksForHelp words ⊎ AsksForVersion words
