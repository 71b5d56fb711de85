-- Which words are not read as numbers, and which say no command.
use Rattle.std.proofs.Common.{◌≡◌, ◌≢◌, ◌⊎◌, inl, inr, ℕ, suc, ◌+◌, ℤ, Bool, true, false, List, [], ◌∷◌, Option, Some, None, length, map, codes, get_or, refl, sym, ap, ap₂, ◌∙◌, subst, arith, Bor}
use Rattle.itree.specs.Grammar.{ReadsAll, Says, LineSays, words_of}
use Rattle.itree.specs.KeyLines.{SaysNoKeyCommand}
use Rattle.itree.specs.Modes.{row_of, Names, NamesRange, Chooses}
use Rattle.itree.specs.SegLines.{SaysNoSegCommand}
use Rattle.itree.specs.Texts.{HasFirstFaulty}
use Rattle.itree.specs.declared.mode.Mode.{Mode}
use Rattle.itree.specs.declared.mode.Mode.TheVariants.{KeyTree, KeyList, SetTree, SetList, Segments, Sweep, Meetings, Locate, Crossings, Snap, Node, Overlay, Tile, Grow, Shrink, Paths}
use Rattle.std.proofs.lemmas.Slice.Eq.{bytes_eq-Decides}
use Rattle.std.specs.Option.{option_eq}
use Rattle.std.specs.Str.{bytes_eq}
use Rattle.itree.proofs.Splitting.{IsFirstWord}
use Rattle.itree.specs.SweepLines.{SaysSweepLine, says_segment}
use Rattle.itree.specs.declared.lines.sweep.SweepLine.{SweepLine}
use Rattle.itree.specs.declared.lines.sweep.SweepLine.TheVariants as sweep_line
use Rattle.runs.specs.declared.keys.KeyCommand.TheVariants.{Insert, Less, LessOrEqualBy, Clear}
use Rattle.runs.specs.declared.segments.SegCommand.TheVariants as seg_command
use Rattle.itree.specs.Words.{Reads}

-- as many words are read as numbers
pub ReadsAll-length : (words : List (Bor (List ℕ))) (numbers : List ℤ) → ReadsAll (map (λ word. word.now) words) numbers → length words ≡ length numbers
ReadsAll-length [] [] read = refl
ReadsAll-length (word ∷ words) (number ∷ numbers) read = ap suc (ReadsAll-length words numbers read.1)
ReadsAll-length [] (number ∷ numbers) read = absurd read
ReadsAll-length (word ∷ words) [] read = absurd read

-- the third of three words is read as the third number
pub third_read : (words : List (Bor (List ℕ))) (word : Bor (List ℕ)) (first second third : ℤ) → ReadsAll (map (λ word. word.now) words) (first ∷ second ∷ third ∷ []) → Reads (get_or words 2 word).now third
third_read [] word first second third read = absurd read
third_read (x ∷ []) word first second third read = absurd read.1
third_read (x ∷ y ∷ []) word first second third read = absurd read.1.1
third_read (x ∷ y ∷ z ∷ words) word first second third read = read.1.1.0

-- no word follows `clear`, neither of keys
pub clear_alone : (words : List (Bor (List ℕ))) → length words ≢ 0 → SaysNoKeyCommand (codes "clear" ∷ map (λ word. word.now) words)
clear_alone words more (Insert key val time) said = let name : codes "clear" ≡ codes "insert" = said.0 in cc
clear_alone words more (Less time default key) said = let name : codes "clear" ≡ codes "less" = said.0.0 in cc
clear_alone words more (LessOrEqualBy time default probe) said = let name : codes "clear" ≡ codes "leq" = said.0 in cc
clear_alone words more Clear said = more (ReadsAll-length words [] said.1)

-- nor of segments
pub clear_segments_alone : (words : List (Bor (List ℕ))) → length words ≢ 0 → SaysNoSegCommand (codes "clear" ∷ map (λ word. word.now) words)
clear_segments_alone words more (seg_command.Insert range val) said = let name : codes "clear" ≡ codes "insert" = said.0 in cc
clear_segments_alone words more (seg_command.Query range time) said = let first : 99 ≡ 113 = ap (λ (name : List ℕ). get_or name 0 0) said.0 in absurd (omega (arith, first))
clear_segments_alone words more seg_command.Clear said = more (ReadsAll-length words [] said.1)

-- a test that is not passed
different : (test : Bool) → (test ≡ true → ⊥) → test ≡ false
different true not = absurd (not refl)
different false not = refl

-- words that say something begin with its name
first_named : (words : List (List ℕ)) (word : List ℕ) (others : List (List ℕ)) (name : List ℕ) (numbers : List ℤ) → words ≡ word ∷ others → Says words name numbers → word ≡ name
first_named words word others name numbers is says = (subst (λ (all : List (List ℕ)). Says all name numbers) is says).0

-- of the lines that say something, those whose first word is `segment` say a segment
pub first_is_segment : (said : Option SweepLine) (line : List ℕ) (first : Option (Bor (List ℕ))) (name : Bor (List ℕ)) → IsFirstWord line first → name.now ≡ codes "segment" → LineSays SaysSweepLine line said
    → option_eq (λ x y. bytes_eq x.now y.now) first (Some name) ≡ says_segment said
first_is_segment (Some (sweep_line.Segment segment)) line (Some word) name (others, is) named says =
    (bytes_eq-Decides word.now name.now).1 (first_named (words_of line) word.now others (codes "segment") (segment.x0 ∷ segment.x1 ∷ segment.y ∷ []) is says.1 ∙ sym named)
first_is_segment (Some (sweep_line.Point point)) line (Some word) name (others, is) named says =
    let point_named = first_named (words_of line) word.now others (codes "point") (point.x ∷ point.y ∷ []) is says.1 in
    different (bytes_eq word.now name.now) (λ same. let letter : 112 ≡ 115 = ap (λ (letters : List ℕ). get_or letters 0 0) (sym point_named ∙ (bytes_eq-Decides word.now name.now).0 same ∙ named) in omega (arith, letter))
first_is_segment None line (Some word) name (others, is) named says = let none : [] ≡ word.now ∷ others = sym says.1 ∙ is in cc
first_is_segment (Some (sweep_line.Segment segment)) line None name is named says = absurd (subst (λ (words : List (List ℕ)). SaysSweepLine words (sweep_line.Segment segment)) is says.1)
first_is_segment (Some (sweep_line.Point point)) line None name is named says = refl
first_is_segment None line None name is named says = refl

-- as many words are chosen, and read as numbers
Chooses-length : (words : List (Bor (List ℕ))) (choices : List (List ℕ)) (numbers : List ℤ) → Chooses (map (λ word. word.now) words) choices numbers → length words ≡ length choices + length numbers
Chooses-length words [] numbers read = omega (arith, ReadsAll-length words numbers read)
Chooses-length [] (choice ∷ choices) numbers read = absurd read
Chooses-length (word ∷ words) (choice ∷ choices) numbers read = omega (arith, Chooses-length words choices numbers read.1)

-- the arguments that name a mode are its word, its choices and its numbers
pub Names-numbers : (words : List (Bor (List ℕ))) (mode : Mode) → Names words mode → length words ≡ suc (length (row_of mode).choices + length (row_of mode).numbers)
Names-numbers [] mode names = absurd names.0
Names-numbers (word ∷ words) mode names = ap suc (Chooses-length words (row_of mode).choices (row_of mode).numbers names.0.1)

-- so they are one word, two, three or eight
pub Names-length : (words : List (Bor (List ℕ))) (mode : Mode) → Names words mode → (length words ≡ 1) ⊎ ((length words ≡ 2) ⊎ ((length words ≡ 3) ⊎ (length words ≡ 8)))
Names-length words (Segments min max) names = inr (inr (inl (Names-numbers words (Segments min max) names)))
Names-length words (Overlay operation rule) names = inr (inr (inl (Names-numbers words (Overlay operation rule) names)))
Names-length words (Grow rule) names = inr (inr (inl (Names-numbers words (Grow rule) names)))
Names-length words (Shrink rule) names = inr (inr (inl (Names-numbers words (Shrink rule) names)))
Names-length words Paths names = inr (inl (Names-numbers words Paths names))
Names-length words (Tile window operation rule) names = inr (inr (inr (Names-numbers words (Tile window operation rule) names)))
Names-length words mode names = inl (Names-numbers words mode names)

-- two words that name a mode are `offset` and `lines`
pub Names-two : (words : List (Bor (List ℕ))) (mode : Mode) (word : Bor (List ℕ)) → length words ≡ 2 → Names words mode
    → ((get_or words 0 word).now ≡ codes "offset") × ((get_or words 1 word).now ≡ codes "lines")
Names-two [] mode word two names = absurd names.0
Names-two (first ∷ []) Paths word two names = absurd names.0.1
Names-two (first ∷ second ∷ words) Paths word two names = (names.0.0, names.0.1.0)
Names-two (first ∷ words) mode word two names = absurd (omega (arith, two, Names-numbers (first ∷ words) mode names))

-- three words, of which the first is this
pub three_words : (words : List (Bor (List ℕ))) (word : Bor (List ℕ)) (name : List ℕ) → length words ≡ 3 → (get_or words 0 word).now ≡ name
    → map (λ word. word.now) words ≡ name ∷ (get_or words 1 word).now ∷ (get_or words 2 word).now ∷ []
three_words (a ∷ b ∷ c ∷ []) word name three first = ap (λ (one : List ℕ). one ∷ b.now ∷ c.now ∷ []) first
three_words words word name three first = absurd (omega (arith, three))

-- eight words, of which the first and the fourth are these
pub eight_words : (words : List (Bor (List ℕ))) (word : Bor (List ℕ)) → length words ≡ 8 → (get_or words 0 word).now ≡ codes "overlay" → (get_or words 3 word).now ≡ codes "--window"
    → map (λ word. word.now) words ≡ codes "overlay" ∷ (get_or words 1 word).now ∷ (get_or words 2 word).now ∷ codes "--window"
    ∷ (get_or words 4 word).now ∷ (get_or words 5 word).now ∷ (get_or words 6 word).now ∷ (get_or words 7 word).now ∷ []
eight_words (a ∷ b ∷ c ∷ d ∷ e ∷ f ∷ g ∷ h ∷ []) word eight first fourth =
    ap₂ (λ (one other : List ℕ). one ∷ b.now ∷ c.now ∷ other ∷ e.now ∷ f.now ∷ g.now ∷ h.now ∷ []) first fourth
eight_words words word eight first fourth = absurd (omega (arith, eight))

-- eight words that name a mode are `overlay`, what it is chosen by, `--window` and the window's sides
pub Names-eight : (words : List (Bor (List ℕ))) (mode : Mode) (word : Bor (List ℕ)) → length words ≡ 8 → Names words mode
    → ((get_or words 0 word).now ≡ codes "overlay") × ((get_or words 3 word).now ≡ codes "--window")
Names-eight [] mode word eight names = absurd names.0
Names-eight (first ∷ []) (Tile window operation rule) word eight names = absurd names.0.1
Names-eight (first ∷ second ∷ []) (Tile window operation rule) word eight names = absurd names.0.1.1
Names-eight (first ∷ second ∷ third ∷ []) (Tile window operation rule) word eight names = absurd names.0.1.1.1
Names-eight (first ∷ second ∷ third ∷ fourth ∷ words) (Tile window operation rule) word eight names = (names.0.0, names.0.1.1.1.0)
Names-eight (first ∷ words) mode word eight names = absurd (omega (arith, eight, Names-numbers (first ∷ words) mode names))

-- three words that name a mode are `seg` and the ends of its range, or begin with `overlay` or `offset`
pub Names-three : (words : List (Bor (List ℕ))) (mode : Mode) (word : Bor (List ℕ)) → length words ≡ 3 → Names words mode
    → (((get_or words 0 word).now ≡ codes "seg") × NamesRange (get_or words 1 word).now (get_or words 2 word).now mode)
    ⊎ (((get_or words 0 word).now ≡ codes "overlay") ⊎ ((get_or words 0 word).now ≡ codes "offset"))
Names-three [] mode word three names = absurd (omega (arith, three))
Names-three (first ∷ []) (Segments min max) word three names = absurd names.0.1
Names-three (first ∷ second ∷ []) (Segments min max) word three names = absurd names.0.1.1
Names-three (first ∷ second ∷ third ∷ words) (Segments min max) word three names = inl (names.0.0, ((names.0.1.0, (names.0.1.1.0, tt)), names.1))
Names-three (first ∷ words) (Overlay operation rule) word three names = inr (inl names.0.0)
Names-three (first ∷ words) (Grow rule) word three names = inr (inr names.0.0)
Names-three (first ∷ words) (Shrink rule) word three names = inr (inr names.0.0)
Names-three (first ∷ words) mode word three names = absurd (omega (arith, three, Names-numbers (first ∷ words) mode names))

-- modes of different numbers of words are not named alike
pub other_length : (words : List (Bor (List ℕ))) (one other : Mode) → Names words one → Names words other
    → ¬ (suc (length (row_of one).choices + length (row_of one).numbers) ≡ suc (length (row_of other).choices + length (row_of other).numbers)) → ⊥
other_length words one other names too apart = apart (sym (Names-numbers words one names) ∙ Names-numbers words other too)

-- words name modes of one kind alone, so the line that is faulty in one of them is in each
pub Names-faulty : (words : List (Bor (List ℕ))) (one other : Mode) (text : List ℕ) (number : ℕ) → Names words one → Names words other → HasFirstFaulty one text number → HasFirstFaulty other text number
Names-faulty [] one other text number names too faulty = absurd names.0
Names-faulty (word ∷ words) KeyTree KeyTree text number names too faulty = faulty
Names-faulty (word ∷ words) KeyTree KeyList text number names too faulty = faulty
Names-faulty (word ∷ words) KeyList KeyTree text number names too faulty = faulty
Names-faulty (word ∷ words) KeyList KeyList text number names too faulty = faulty
Names-faulty (word ∷ words) SetTree SetTree text number names too faulty = faulty
Names-faulty (word ∷ words) SetTree SetList text number names too faulty = faulty
Names-faulty (word ∷ words) SetList SetTree text number names too faulty = faulty
Names-faulty (word ∷ words) SetList SetList text number names too faulty = faulty
Names-faulty (word ∷ words) (Segments min max) (Segments low high) text number names too faulty = faulty
Names-faulty (word ∷ words) Sweep Sweep text number names too faulty = faulty
Names-faulty (word ∷ words) Meetings Meetings text number names too faulty = faulty
Names-faulty (word ∷ words) Locate Locate text number names too faulty = faulty
Names-faulty (word ∷ words) Crossings Crossings text number names too faulty = faulty
Names-faulty (word ∷ words) Snap Snap text number names too faulty = faulty
Names-faulty (word ∷ words) Node Node text number names too faulty = faulty
Names-faulty (word ∷ words) (Overlay operation rule) (Overlay operation' rule') text number names too faulty = faulty
Names-faulty (word ∷ words) (Overlay operation rule) (Tile window' operation' rule') text number names too faulty = faulty
Names-faulty (word ∷ words) (Tile window operation rule) (Overlay operation' rule') text number names too faulty = faulty
Names-faulty (word ∷ words) (Tile window operation rule) (Tile window' operation' rule') text number names too faulty = faulty
Names-faulty (word ∷ words) (Grow rule) (Grow rule') text number names too faulty = faulty
Names-faulty (word ∷ words) (Grow rule) (Shrink rule') text number names too faulty = faulty
Names-faulty (word ∷ words) (Shrink rule) (Grow rule') text number names too faulty = faulty
Names-faulty (word ∷ words) (Shrink rule) (Shrink rule') text number names too faulty = faulty
Names-faulty (word ∷ words) Paths Paths text number names too faulty = faulty
Names-faulty (word ∷ words) (Grow rule) Paths text number names too faulty = absurd (other_length (word ∷ words) (Grow rule) Paths names too (λ same. omega (arith, same)))
Names-faulty (word ∷ words) (Shrink rule) Paths text number names too faulty = absurd (other_length (word ∷ words) (Shrink rule) Paths names too (λ same. omega (arith, same)))
Names-faulty (word ∷ words) Paths (Grow rule) text number names too faulty = absurd (other_length (word ∷ words) Paths (Grow rule) names too (λ same. omega (arith, same)))
Names-faulty (word ∷ words) Paths (Shrink rule) text number names too faulty = absurd (other_length (word ∷ words) Paths (Shrink rule) names too (λ same. omega (arith, same)))
Names-faulty (word ∷ words) one other text number names too faulty =
    let same : (row_of one).word ≡ (row_of other).word = sym names.0.0 ∙ too.0.0 in
    absurd (omega (arith, ap length same, ap (λ (letters : List ℕ). get_or letters 0 0) same))
