use Rattle.std.proofs.Common.{ℕ, List, ◌∙◌, refl, subst}
use Rattle.itree.proofs.Words.{first_is_segment}
use Rattle.itree.proofs.Splitting.{IsFirstWord, IsFirstWord-step}
use Rattle.itree.proofs.lines.sweep.names_segment.Goals as goal

pub returns-in-Some : goal.returns-in-Some
returns-in-Some c = λ said says.
    let first = IsFirstWord-step c.split_ascii_whitespace.result c.next.new.self c.next.result c.next.ensures.steps in
    let of_line = subst (λ (text : List ℕ). IsFirstWord text c.next.result) (c.split_ascii_whitespace.ensures.text ∙ c.in-Some.ensures.text.0) first in
    c.eq.ensures ∙ first_is_segment said c.args.line.now c.next.result _ of_line refl says
