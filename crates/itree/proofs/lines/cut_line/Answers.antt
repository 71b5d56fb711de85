use Rattle.std.proofs.Common.{◌≡◌, ◌<◌, ◌≤◌, ◌+◌, ◌-◌, ◌==◌, ℕ, Bool, true, false, not, cond, get_or, nat_lt, List, [], ◌∷◌, Some, None, length, take, drop, refl, sym, ap, ◌∙◌, length-drop, arith}
use Rattle.std.proofs.lemmas.Bool.Decides.{nat_tests}
use Rattle.std.proofs.lemmas.List.{take_all}
use Rattle.std.proofs.lemmas.List.Splits.{slice_split_first, slice_split_none}
use Rattle.std.proofs.lemmas.List.Sums.{prefix_len_passes}
use Rattle.std.specs.List.{position, position_or_len}
use Rattle.itree.specs.Grammar.{lines_of}
use Rattle.itree.proofs.lines.cut_line.Goals as goal

-- whether a byte ends a line
abbrev ends : ℕ → Bool
ends byte = byte == 10

-- what is chosen where it is something, and where it is nothing
chosen : (b : Bool) (end place : ℕ) → Some end ≡ cond b (Some place) None → (b ≡ true) × (end ≡ place)
chosen true end place is = (refl, cc)
chosen false end place is = let apart : ⊥ = cc in absurd apart

not_chosen : (b : Bool) (place : ℕ) → None ≡ cond b (Some place) None → b ≡ false
not_chosen true place is = cc
not_chosen false place is = refl

-- where a line feed stands, the first line is what stands before it
first_line : (text : List ℕ) (end : ℕ) → Some end ≡ position ends text → lines_of text ≡ take end text ∷ lines_of (take (length text - (end + 1)) (drop (end + 1) text))
first_line text end is =
    let (test, there) = chosen (nat_lt (position_or_len ends text) (length text)) end (position_or_len ends text) is in
    let within : position_or_len ends text < length text = grind (arith, nat_tests) in
    let rest = take_all (length text - (end + 1)) (drop (end + 1) text) (omega (arith, length-drop (end + 1) text)) in
    slice_split_first ends text 0 within ∙ ap (λ place. take place text ∷ lines_of (drop (place + 1) text)) (sym there) ∙ ap (λ more. take end text ∷ lines_of more) (sym rest)

pub returns-in-Some-clause-first : goal.returns-in-Some-clause-first
returns-in-Some-clause-first c = first_line c.args.text.now c.in-Some.end c.in-Some.ensures

-- without a line feed the text is one line
only_line : (text : List ℕ) → None ≡ position ends text → lines_of text ≡ text ∷ []
only_line text is =
    let test = not_chosen (nat_lt (position_or_len ends text) (length text)) (position_or_len ends text) is in
    let all : length text ≤ position_or_len ends text = grind (arith, nat_tests) in
    slice_split_none ends text (λ k d within. passed_over (ends (get_or text k d)) (prefix_len_passes (λ byte. not (ends byte)) text k d (omega (arith, all, within))))
  where
    passed_over : (b : Bool) → not b ≡ true → b ≡ false
    passed_over true h = sym h
    passed_over false h = refl

pub returns-in-None-clause-first : goal.returns-in-None-clause-first
returns-in-None-clause-first c = only_line c.args.text.now c.in-None.ensures
