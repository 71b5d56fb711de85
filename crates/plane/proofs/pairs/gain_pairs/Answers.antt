use Rattle.std.proofs.lemmas.Bool.{MatchBool-at_true}
use Rattle.plane.proofs.PairsLemmas.Extends.{OnOk-always}
use Rattle.plane.proofs.PairsLemmas.Within.{gained-within}
use Rattle.plane.proofs.pairs.gain_pairs.Goals as goal
use Rattle.plane.proofs.pairs.gain_pairs.Goals.{in-Ok-true, in_default, in_default-2}

pub returns-else-not-matches-clause-within : goal.returns-else-not-matches-clause-within
returns-else-not-matches-clause-within g c =
    let kept = c.if-not-matches.false in
    elim c.match-matches.branch [
      | in-Ok-true w ↦ OnOk-always c.match-matches.outcome _ (gained-within g.T.Meets.Meeting c.args.items.now c.args.most c.args.out.now.items c.sweep_over-outcome.new.out.items (MatchBool-at_true _ _ w.in-Ok-true.field-0-test w.in-Ok-true.ensures.ok))
      | in_default w ↦ (let isn't = w.matches-is in absurd (cc (kept, isn't)))
      | in_default-2 w ↦ (let isn't = w.matches-is in absurd (cc (kept, isn't)))
    ]
