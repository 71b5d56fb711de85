-- An output that answers the commands of a text's lines answers the text.
use Rattle.std.proofs.Common.{◌≡◌, ℕ, List, Result, IfOk, sym, subst}
use Rattle.std.proofs.lemmas.Result.{IfOk-weaker}
use Rattle.itree.specs.Grammar.{lines_of, LinesSay}
use Rattle.itree.specs.Modes.{row_of}
use Rattle.itree.specs.Texts.{Answers}
use Rattle.itree.specs.declared.mode.Mode.{Mode}

-- the mode is this one
pub answered : {T E : Type 0} (result : Result T E) (bytes : T → List ℕ) (this mode : Mode) → mode ≡ this → (text : List ℕ) (commands : List (row_of this).Command)
    → LinesSay (row_of this).SaysCommand (lines_of text) commands → IfOk result (λ output. (row_of this).AnswersAll (lines_of text) commands (bytes output)) → IfOk result (λ output. Answers mode text (bytes output))
answered result bytes this mode is text commands say all =
    subst (λ (named : Mode). IfOk result (λ output. Answers named text (bytes output))) (sym is)
    (IfOk-weaker result (λ output. (row_of this).AnswersAll (lines_of text) commands (bytes output)) (λ output. Answers this text (bytes output)) (λ output answers. (commands, say, answers)) all)
