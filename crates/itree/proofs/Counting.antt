-- How the lines of a text are counted, and what they say one after another.
use Rattle.std.proofs.Common.{◌≡◌, ◌<◌, ◌≤◌, ◌+◌, ◌⊎◌, inl, inr, ℕ, List, [], ◌∷◌, ◌++◌, Option, Some, None, IfSome, Bor, length, refl, sym, ap, ◌∙◌, append_assoc, append-nil, arith}
use Rattle.std.proofs.lemmas.List.Elements.{All-nil, All-cons}
use Rattle.std.specs.List.{All, cons_option}
use Rattle.std.specs.Option.{option_to_list}
use Rattle.itree.specs.Grammar.{LineSays, LinesSay, IsFaulty, IsFirstFaulty}
use Rattle.itree.specs.declared.fault.Fault.{Fault}
use Rattle.itree.specs.declared.fault.Fault.TheVariants.{Line, Memory}

-- one option before a list, and the rest after it
cons_option-append : {X : Type 0} (o : Option X) (xs ys : List X) → cons_option o xs ++ ys ≡ cons_option o (xs ++ ys)
cons_option-append None xs ys = refl
cons_option-append (Some x) xs ys = refl

-- after a line, the lines so far and those that are left are still all lines
pub next_line : {X : Type 0} (all before left : List X) (line : X) (after : List X) → all ≡ before ++ left → left ≡ line ∷ after → all ≡ (before ++ line ∷ []) ++ after
next_line all before left line after together cut = together ∙ ap (λ xs. before ++ xs) cut ∙ sym (append_assoc before (line ∷ []) after)

-- what is left gets shorter by a byte a line
pub shorter : (rest : Option (Bor (List ℕ))) (left : Bor (List ℕ)) (after : Option (Bor (List ℕ))) (number total : ℕ)
    → rest ≡ Some left → IfSome rest (λ text. number + length text.now ≤ total) → IfSome after (λ text. length text.now < length left.now) → IfSome after (λ text. number + 1 + length text.now ≤ total)
shorter rest left None number total is within less = tt
shorter rest left (Some text) number total is within less = let here : number + length left.now ≤ total = rw is at within in omega (arith, here, less)

-- a fault that names a line names the one that it may name
pub named : (fault : Fault) (number other : ℕ) → (fault ≡ Line number) ⊎ (fault ≡ Memory) → fault ≡ Line other → number ≡ other
named fault number other (inl is) says = cc
named fault number other (inr is) says = cc

module _ {Command : Type 0} (SaysCommand : List (List ℕ) → Command → Type 0) where
  -- a line that says something is not faulty
  LineSays-sound : (line : List ℕ) (said : Option Command) → LineSays SaysCommand line said → ¬ (IsFaulty SaysCommand line)
  LineSays-sound line said says faulty = faulty said says

  -- where lines say commands, none is faulty
  LinesSay-sound : (lines : List (List ℕ)) (commands : List Command) → LinesSay SaysCommand lines commands → All (λ line. ¬ (IsFaulty SaysCommand line)) lines
  LinesSay-sound [] commands says = All-nil (λ line. ¬ (IsFaulty SaysCommand line))
  LinesSay-sound (line ∷ lines) commands says =
      let (said, others, here, there, are) = says in
      All-cons (λ line. ¬ (IsFaulty SaysCommand line)) line lines (LineSays-sound line said here) (LinesSay-sound lines others there)

  -- one more line says its command after the others
  pub LinesSay-push : (lines : List (List ℕ)) (commands : List Command) (line : List ℕ) (said : Option Command) → LinesSay SaysCommand lines commands → LineSays SaysCommand line said
      → LinesSay SaysCommand (lines ++ line ∷ []) (commands ++ option_to_list said)
  LinesSay-push [] commands line None says here = (None, [], here, refl, append-nil commands ∙ says)
  LinesSay-push [] commands line (Some command) says here = (Some command, [], here, refl, ap (λ cs. cs ++ command ∷ []) says)
  LinesSay-push (first ∷ lines) commands line said says here =
      let (earlier, others, at_first, there, are) = says in
      (earlier, others ++ option_to_list said, at_first, LinesSay-push lines others line said there here, ap (λ cs. cs ++ option_to_list said) are ∙ cons_option-append earlier others (option_to_list said))

  -- where the lines before it say commands, a faulty line is the first
  pub IsFirstFaulty-next : (all before left : List (List ℕ)) (line : List ℕ) (after : List (List ℕ)) (number : ℕ) (commands : List Command)
      → all ≡ before ++ left → left ≡ line ∷ after → number ≡ length before → LinesSay SaysCommand before commands → IsFaulty SaysCommand line → IsFirstFaulty SaysCommand all (number + 1)
  IsFirstFaulty-next all before left line after number commands together cut counted says faulty = record {
    before = before;
    line = line;
    after = after;
    together = together ∙ ap (λ xs. before ++ xs) cut;
    counted = ap (λ n. n + 1) counted;
    sound = LinesSay-sound before commands says;
    faulty = faulty;
  }
