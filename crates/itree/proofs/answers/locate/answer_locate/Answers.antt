use Rattle.std.proofs.Common.{◌≡◌, ◌<◌, ◌∙◌, ◌++◌, ℕ, List, Option, Err, ap, sym, subst, length, get_or, string_bytes}
use Rattle.std.specs.List.{AllZip}
use Rattle.itree.specs.Grammar.{lines_of}
use Rattle.itree.proofs.Located.{answers_locate, crossing_within, crossing_lines}
use Rattle.plane.specs.Locate.Answers.{IsPlaceBelow}
use Rattle.itree.proofs.answers.locate.answer_locate.Goals as goal

pub returns-in-Ok-clause-answered : goal.returns-in-Ok-clause-answered
returns-in-Ok-clause-answered g c =
    let (apart, answers, are, below) = c.in-Ok.ensures.ok in
    let places : c.deref-in-Ok.result.now ≡ answers = c.deref-in-Ok.ensures.value ∙ are ∙ ap (λ (none : List (Option ℕ)). none ++ answers) c.new-places.ensures.items in
    answers_locate (lines_of c.args.text.now) c.args.said.now c.requires c.deref.result.now c.deref-2.result.now c.deref-in-Ok.result.now c.deref-in-Ok-3.result.now c.deref-in-Ok-2.result.now (string_bytes c.in_ok-reply_text-in-Ok.field-0)
    (c.deref.ensures.value ∙ c.in_ok-edges.ensures) (c.deref-2.ensures.value ∙ c.in_ok-points.ensures) (c.deref-in-Ok-2.ensures.value ∙ c.in_ok-numbers.ensures)
    apart (subst (AllZip (IsPlaceBelow c.deref.result.now) c.deref-2.result.now) (sym places) below) (c.deref-in-Ok-3.ensures.value ∙ c.in_ok-replies-in-Ok.ensures) c.in_ok-reply_text-in-Ok.ensures

-- the places by other names
both_within : (numbers : List ℕ) (one other named renamed : ℕ) → named ≡ one → renamed ≡ other → (one < length numbers) × (other < length numbers) → (named < length numbers) × (renamed < length numbers)
both_within numbers one other named renamed is too within =
    (subst (λ (n : ℕ). n < length numbers) (sym is) within.0, subst (λ (n : ℕ). n < length numbers) (sym too) within.1)

pub crossing-requires : goal.crossing-requires
crossing-requires g c =
    let one = c.in-Err-Cross.one in
    let other = c.in-Err-Cross.other in
    let crosses = c.in-Err-Cross.ensures.crossing one other (ap Err c.in-Err-Cross.field-0-is) in
    both_within c.deref-in-Err-Cross.result.now one other _ _ c.in-Err-Cross.one-is c.in-Err-Cross.other-is
    (crossing_within (lines_of c.args.text.now) c.args.said.now c.requires c.deref.result.now c.deref-in-Err-Cross.result.now one other (c.deref.ensures.value ∙ c.in_ok-edges.ensures) (c.deref-in-Err-Cross.ensures.value ∙ c.in_ok-numbers.ensures) crosses)

pub returns-clause-crossing : goal.returns-clause-crossing
returns-clause-crossing g c = λ first second is.
    let one = c.in-Err-Cross.one in
    let other = c.in-Err-Cross.other in
    let numbers = c.deref-in-Err-Cross.result.now in
    let crosses = c.in-Err-Cross.ensures.crossing one other (ap Err c.in-Err-Cross.field-0-is) in
    let told = c.crossing.ensures in
    let one_is = c.in-Err-Cross.one-is in
    let other_is = c.in-Err-Cross.other-is in
    let at_one : get_or numbers one 0 ≡ first = cc in
    let at_other : get_or numbers other 0 ≡ second = cc in
    crossing_lines (lines_of c.args.text.now) c.args.said.now c.requires c.deref.result.now numbers one other first second (c.deref.ensures.value ∙ c.in_ok-edges.ensures) (c.deref-in-Err-Cross.ensures.value ∙ c.in_ok-numbers.ensures) crosses at_one at_other
