use Rattle.std.proofs.Common.{◌<◌, ℕ, length, get_or, ◌++◌, ◌∷◌, [], refl, sym, ap, ◌∙◌, subst}
use Rattle.itree.specs.declared.lines.meetings.MetLines.{MetLines}
use Rattle.std.proofs.lemmas.List.Elements.{All-get_or}
use Rattle.itree.proofs.Telling.{AreTold-more}
use Rattle.itree.proofs.answers.meetings.tell.Goals as goal

pub loop-pair-preserved : goal.loop-pair-preserved
loop-pair-preserved g c =
    let pairs = c.args.pairs.now in
    let i = c.loop-pair.pair-index in
    let pair = get_or pairs i (0, 0) in
    let fits = All-get_or (λ (p : ℕ × ℕ). (p.0 < length c.args.numbers.now) × (p.1 < length c.args.replies.now)) pairs i (0, 0) c.loop-pair-test.true c.requires.in_range in
    AreTold-more c.args.numbers.now pairs c.loop-pair.replies i pair.0 pair.1 c.index-replies-later.result (record { numbers = c.push.new.self }) c.loop-pair-test.true refl refl
    (subst (λ (n : ℕ). pair.1 < n) (sym c.loop-pair.auto.replies) fits.1) fits.0 c.index-replies-later.is
    (c.in_ok-push.ensures.items ∙ ap (λ (reply : MetLines g.row.A.Denot). reply.numbers.items ++ get_or c.args.numbers.now pair.0 0 ∷ []) (sym c.index-replies-later.is)) c.loop-pair.invariant
