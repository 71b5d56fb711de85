-- The numbers of the lines that have words: one for each command that lines say, and each below all later ones.
use Rattle.std.proofs.Common.{◌≡◌, ◌<◌, ◌≤◌, ◌+◌, ℕ, suc, Bool, true, false, not, ◌&&◌, cond, nat_lt, List, [], ◌∷◌, ◌++◌, Option, Some, None, length, filter, refl, sym, ap, ◌∙◌, add-zero, arith}
use Rattle.std.proofs.lemmas.Bool.Decides.{nat_tests}
use Rattle.std.proofs.lemmas.List.Elements.{All-nil, All-cons, All-weaker}
use Rattle.std.proofs.lemmas.List.Kept.{AllPairs-cons}
use Rattle.std.proofs.lemmas.List.Splits.{slice_split-cons_yes, slice_split-cons_no}
use Rattle.std.specs.Char.{is_ascii_whitespace}
use Rattle.std.specs.List.{All, AllPairs, slice_split, onto_first, list_all, cons_option}
use Rattle.std.specs.Option.{is_some}
use Rattle.itree.specs.Grammar.{words_of, numbers_from, command_lines, LineSays, LinesSay}

-- whether a line has words
abbrev pub has_words : List ℕ → Bool
has_words line = nat_lt 0 (length (words_of line))

abbrev some_byte : List ℕ → Bool
some_byte part = nat_lt 0 (length part)

longer : {X : Type 0} (x : X) (xs : List X) → nat_lt 0 (length (x ∷ xs)) ≡ true
longer x xs = grind (arith, nat_tests)

-- a byte before the first part makes it a word
word_first : (word : List ℕ) (parts : List (List ℕ)) → some_byte word ≡ true → nat_lt 0 (length (filter some_byte (word ∷ parts))) ≡ true
word_first word parts some =
    let others = filter some_byte parts in
    ap (λ (b : Bool). nat_lt 0 (length (cond b (word ∷ others) others))) some ∙ longer word others

onto_first_word : (byte : ℕ) (parts : List (List ℕ)) → nat_lt 0 (length (filter some_byte (onto_first byte parts))) ≡ true
onto_first_word byte [] = word_first (byte ∷ []) [] (longer byte [])
onto_first_word byte (part ∷ parts) = word_first (byte ∷ part) parts (longer byte part)

next_byte : (byte : ℕ) (bytes : List ℕ) (blank : Bool) → is_ascii_whitespace byte ≡ blank → has_words bytes ≡ not (list_all is_ascii_whitespace bytes) → has_words (byte ∷ bytes) ≡ not (list_all is_ascii_whitespace (byte ∷ bytes))
next_byte byte bytes true is others =
    ap (λ (parts : List (List ℕ)). nat_lt 0 (length (filter some_byte parts))) (slice_split-cons_yes is_ascii_whitespace byte bytes is)
    ∙ others ∙ ap (λ (b : Bool). not (b && list_all is_ascii_whitespace bytes)) (sym is)
next_byte byte bytes false is others =
    ap (λ (parts : List (List ℕ)). nat_lt 0 (length (filter some_byte parts))) (slice_split-cons_no is_ascii_whitespace byte bytes is)
    ∙ onto_first_word byte (slice_split is_ascii_whitespace bytes) ∙ ap (λ (b : Bool). not (b && list_all is_ascii_whitespace bytes)) (sym is)

-- a line has words where it has more than white space
pub has_words-blank : (line : List ℕ) → has_words line ≡ not (list_all is_ascii_whitespace line)
has_words-blank [] = refl
has_words-blank (byte ∷ bytes) = next_byte byte bytes (is_ascii_whitespace byte) refl (has_words-blank bytes)

-- the number of a last line, where it has words
abbrev last_number : Bool → ℕ → List ℕ
last_number has number = cond has (number ∷ []) []

joined : (has : Bool) (number : ℕ) (later rest last : List ℕ) → later ≡ rest ++ last → cond has (number ∷ later) later ≡ cond has (number ∷ rest) rest ++ last
joined true number later rest last is = ap (λ (numbers : List ℕ). number ∷ numbers) is
joined false number later rest last is = is

numbers_from-push : (number : ℕ) (before : List (List ℕ)) (line : List ℕ) → numbers_from number (before ++ line ∷ []) ≡ numbers_from number before ++ last_number (has_words line) (number + length before)
numbers_from-push number [] line = ap (λ (n : ℕ). last_number (has_words line) n) (sym (add-zero number))
numbers_from-push number (first ∷ before) line =
    let place : number + 1 + length before ≡ number + length (first ∷ before) = omega arith in
    joined (has_words first) number (numbers_from (number + 1) (before ++ line ∷ [])) (numbers_from (number + 1) before) (last_number (has_words line) (number + length (first ∷ before)))
    (numbers_from-push (number + 1) before line ∙ ap (λ (n : ℕ). numbers_from (number + 1) before ++ last_number (has_words line) n) place)

-- one more line
pub command_lines-push : (before : List (List ℕ)) (line : List ℕ) (number : ℕ) (numbers : List ℕ) → number ≡ length before → numbers ≡ command_lines before → command_lines (before ++ line ∷ []) ≡ numbers ++ cond (has_words line) ((number + 1) ∷ []) []
command_lines-push before line number numbers counted are =
    let place : 1 + length before ≡ number + 1 = omega (arith, counted) in
    numbers_from-push 1 before line ∙ ap (λ (n : ℕ). command_lines before ++ last_number (has_words line) n) place ∙ ap (λ (ns : List ℕ). ns ++ last_number (has_words line) (number + 1)) (sym are)

-- ---- as many numbers as commands

one_more : {Command : Type 0} (has : Bool) (said : Option Command) (number : ℕ) (later : List ℕ) (others : List Command) → has ≡ is_some said → length later ≡ length others → length (cond has (number ∷ later) later) ≡ length (cons_option said others)
one_more true (Some command) number later others is counted = ap suc counted
one_more true None number later others is counted = cc
one_more false (Some command) number later others is counted = cc
one_more false None number later others is counted = counted

-- what says a command has words
module _ {Command : Type 0} (SaysCommand : List (List ℕ) → Command → Type 0) (some_word : (command : Command) → ¬ (SaysCommand [] command)) where
  says_word : (words : List (List ℕ)) (command : Command) → SaysCommand words command → nat_lt 0 (length words) ≡ true
  says_word [] command says = absurd (some_word command says)
  says_word (word ∷ words) command says = longer word words

  said_words : (line : List ℕ) (said : Option Command) → LineSays SaysCommand line said → has_words line ≡ is_some said
  said_words line None says = ap (λ (words : List (List ℕ)). nat_lt 0 (length words)) says.1
  said_words line (Some command) says = says_word (words_of line) command says.1

  numbers_counted : (number : ℕ) (lines : List (List ℕ)) (commands : List Command) → LinesSay SaysCommand lines commands → length (numbers_from number lines) ≡ length commands
  numbers_counted number [] commands say = ap length (sym say)
  numbers_counted number (line ∷ lines) commands say =
      let (said, others, here, there, are) = say in
      one_more (has_words line) said number (numbers_from (number + 1) lines) others (said_words line said here) (numbers_counted (number + 1) lines others there)
      ∙ ap length (sym are)

  pub length-command_lines : (lines : List (List ℕ)) (commands : List Command) → LinesSay SaysCommand lines commands → length (command_lines lines) ≡ length commands
  length-command_lines = numbers_counted 1

-- ---- they rise

above_next : (has : Bool) (number : ℕ) (later : List ℕ) → All (λ n. number < n) later → All (λ n. number ≤ n) (cond has (number ∷ later) later)
above_next true number later above = All-cons (λ n. number ≤ n) number later (omega arith) (All-weaker (λ n. number < n) (λ n. number ≤ n) (λ n more. omega arith) later above)
above_next false number later above = All-weaker (λ n. number < n) (λ n. number ≤ n) (λ n more. omega arith) later above

numbers_above : (number : ℕ) (lines : List (List ℕ)) → All (λ n. number ≤ n) (numbers_from number lines)
numbers_above number [] = All-nil (λ n. number ≤ n)
numbers_above number (line ∷ lines) =
    above_next (has_words line) number (numbers_from (number + 1) lines) (All-weaker (λ n. number + 1 ≤ n) (λ n. number < n) (λ n more. omega arith) (numbers_from (number + 1) lines) (numbers_above (number + 1) lines))

rise_next : (has : Bool) (number : ℕ) (later : List ℕ) → All (λ n. number < n) later → AllPairs (λ n m. n < m) later → AllPairs (λ n m. n < m) (cond has (number ∷ later) later)
rise_next true number later above rising = AllPairs-cons (λ n m. n < m) number later above rising
rise_next false number later above rising = rising

numbers_rise : (number : ℕ) (lines : List (List ℕ)) → AllPairs (λ n m. n < m) (numbers_from number lines)
numbers_rise number [] = λ i j d below within. absurd (omega arith)
numbers_rise number (line ∷ lines) =
    rise_next (has_words line) number (numbers_from (number + 1) lines)
    (All-weaker (λ n. number + 1 ≤ n) (λ n. number < n) (λ n more. omega arith) (numbers_from (number + 1) lines) (numbers_above (number + 1) lines))
    (numbers_rise (number + 1) lines)

pub command_lines-rise : (lines : List (List ℕ)) → AllPairs (λ n m. n < m) (command_lines lines)
command_lines-rise = numbers_rise 1
