use Rattle.std.proofs.Common.{◌≡◌, ◌∙◌, [], ℕ, List, length, replicate, string_bytes, ap, sym, subst}
use Rattle.i_tree.proofs.RbLemmas.Slots.FreeSlots.{written_back}
use Rattle.itree.specs.Grammar.{lines_of}
use Rattle.itree.specs.Replies.{crossing_lines}
use Rattle.itree.specs.Told.{lists_of, AreOrderedCrossings}
use Rattle.itree.specs.declared.lines.meetings.MetLines.{MetLines}
use Rattle.itree.proofs.Crossings.{in_range, answers_crossings}
use Rattle.itree.proofs.Meetings.{listed}
use Rattle.itree.proofs.answers.crossings.answer_crossings.Goals as goal

pub tell-requires-clause-in_range : goal.tell-requires-clause-in_range
tell-requires-clause-in_range g c =
    let said = c.args.said.now in
    let ordered = subst (AreOrderedCrossings said) (sym c.deref.ensures.value) c.in_ok-pairs.ensures in
    in_range (lines_of c.args.text.now) said c.deref-2.result.now c.deref.result.now (length c.deref_mut.result.now) c.requires (c.deref-2.ensures.value ∙ c.in_ok-numbers.ensures) ordered
    (ap length c.deref_mut.ensures.value ∙ listed c.in_ok-replies.replies.items (length said) c.in_ok-replies.ensures)

pub tell-requires-clause-empty : goal.tell-requires-clause-empty
tell-requires-clause-empty g c =
    ap lists_of c.deref_mut.ensures.value ∙ c.in_ok-replies.ensures
    ∙ ap (λ (n : ℕ). replicate n []) (sym (listed c.in_ok-replies.replies.items (length c.args.said.now) c.in_ok-replies.ensures) ∙ ap length (sym c.deref_mut.ensures.value))

pub returns-clause-answered : goal.returns-clause-answered
returns-clause-answered g c =
    let said = c.args.said.now in
    let ordered = subst (AreOrderedCrossings said) (sym c.deref.ensures.value) c.in_ok-pairs.ensures in
    let told = c.tell.new.replies in
    let back : c.deref-3.result.now ≡ told = c.deref-3.ensures.value ∙ written_back c.in_ok-replies.replies.len c.in_ok-replies.replies.items told (c.tell.auto.replies ∙ ap length c.deref_mut.ensures.value) (sym c.deref_mut.ensures.len ∙ ap length c.deref_mut.ensures.value) in
    let written = c.in_ok-crossings_text.ensures ∙ ap (λ (replies : List (MetLines g.row.A.Denot)). crossing_lines said (lists_of replies)) back in
    answers_crossings (lines_of c.args.text.now) said c.deref-2.result.now c.deref.result.now told (length c.deref_mut.result.now) (string_bytes c.in_ok-crossings_text.field-0)
    (c.deref-2.ensures.value ∙ c.in_ok-numbers.ensures) ordered (ap length c.deref_mut.ensures.value ∙ listed c.in_ok-replies.replies.items (length said) c.in_ok-replies.ensures) c.in_ok-tell.ensures written
