use Rattle.std.proofs.Common.{rules, ◌≡◌, ◌∙◌, refl, true, arith}
use Rattle.runs.proofs.RunLemmas.Agreement.{replies_themselves, runs_agree_from_nothing, length-run}
use Rattle.runs.proofs.agreeing.same_replies.Goals as goal

pub returns-then-first-commands-clause-agree : goal.returns-then-first-commands-clause-agree
returns-then-first-commands-clause-agree g c order each end end' run run' taken taken' =
    let same = runs_agree_from_nothing g.K.ExpiredKey.expiration g.met.E.Ord.total g.met.K.Ord.total order end end' c.args.commands.now c.args.first.now c.args.second.now each run run' taken taken' in
    let itself = replies_themselves _ refl refl refl refl refl (λ value. g.met.V.Eq.laws.refl value) refl c.args.second.now in
    let told : c.eq.result ≡ true = (rw same at c.eq.ensures) ∙ itself in
    (same, search rules)

pub returns-else-first-commands-clause-agree : goal.returns-else-first-commands-clause-agree
returns-else-first-commands-clause-agree g c order each end end' run run' taken taken' =
    let long = length-run g.K.ExpiredKey.expiration g.met.E.Ord.total g.met.K.Ord.total order _ end c.args.commands.now c.args.first.now run in
    absurd (omega (arith, long, c.if-first-commands.false))
