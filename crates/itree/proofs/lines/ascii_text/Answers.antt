use Rattle.std.proofs.Common.{◌≡◌, false, Result, Ok, Err, MatchResult, is_ok, sym, ◌∙◌}
use Rattle.std.proofs.lemmas.Str.{IsUtf8-from_ascii}
use Rattle.itree.proofs.lines.ascii_text.Goals as goal

-- where the error denies a fact that holds, there is no error
denied : {T E Fact : Type 0} (r : Result T E) (P : T → Type 0) (Q : E → Type 0) → Fact → is_ok r ≡ false → MatchResult r P (λ e. (Fact → ⊥) × Q e) → ⊥
denied (Ok x) P Q holds not_ok says = cc
denied (Err e) P Q holds not_ok says = says.0 holds

pub returns-clause-other : goal.returns-clause-other
returns-clause-other c = λ none ascii.
    denied c.from_utf8.result _ _ (IsUtf8-from_ascii c.args.line.now ascii) (sym c.ok.ensures.variant ∙ none) c.from_utf8.ensures.cases
