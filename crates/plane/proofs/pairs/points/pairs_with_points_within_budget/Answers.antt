use Rattle.std.proofs.Common.{◌≤◌, [], length, append-nil, sym, arith}
use Rattle.std.proofs.lemmas.Bool.{MatchBool-at_true}
use Rattle.std.proofs.lemmas.Bool.Decides.{nat_tests}
use Rattle.plane.proofs.PairsLemmas.Extends.{OnOk-always}
use Rattle.plane.proofs.PairsLemmas.Points.{none_between}
use Rattle.plane.proofs.PairsLemmas.Within.{gained_between-within}
use Rattle.plane.proofs.pairs.points.pairs_with_points_within_budget.Goals as goal
use Rattle.plane.proofs.pairs.points.pairs_with_points_within_budget.Goals.{in-Ok-true, in_default, in_default-2}

pub returns-then-is_empty-clause-ok : goal.returns-then-is_empty-clause-ok
returns-then-is_empty-clause-ok g c =
    let is = c.if-is_empty.ensures in
    let none : length c.args.points.now ≤ 0 = grind (arith, nat_tests, is) in
    ([], sym (append-nil c.args.out.now.items), none_between g.X.Meets.Meeting c.args.items.now c.args.points.now none)

pub returns-else-not-matches-clause-within : goal.returns-else-not-matches-clause-within
returns-else-not-matches-clause-within g c =
    let kept = c.if-not-matches.false in
    elim c.match-matches.branch [
      | in-Ok-true w ↦ OnOk-always c.match-matches.outcome _
          (let (pairs, is, all) = MatchBool-at_true _ _ w.in-Ok-true.field-0-test w.in-Ok-true.ensures.ok in
          gained_between-within g.X.Meets.Meeting c.args.items.now c.args.points.now c.args.out.now.items c.append_all-outcome.new.out.items (pairs, is, record { once = all.once; exact = all.exact }))
      | in_default w ↦ (let isn't = w.matches-is in absurd (cc (kept, isn't)))
      | in_default-2 w ↦ (let isn't = w.matches-is in absurd (cc (kept, isn't)))
    ]
