use Rattle.std.proofs.Common.{Option, Vec, ℕ, sym, subst, arith}
use Rattle.std.specs.Option.{IfSome}
use Rattle.std.proofs.lemmas.Int.{ints, clamps}
use Rattle.std.proofs.lemmas.Option.{IfSome_then}
use Rattle.plane.specs.Pairs.Pairs.{ArePairsBetween}
use Rattle.noding.specs.Sections.{PassesHere}
use Rattle.noding.proofs.ChainLemmas.Close.{ArePairsBetween-gained, ArePairsBetween-within, IfSome-told}
use Rattle.noding.proofs.sections.pairs_passed_here.Goals as goal

pub pairs_with_points_within_budget-requires-clause-boxed : goal.pairs_with_points_within_budget-requires-clause-boxed
pairs_with_points_within_budget-requires-clause-boxed g c = record {
  proper = λ it. record { wide = omega (arith, ints, clamps); tall = omega (arith, ints, clamps) };
  other_proper = λ point. record { wide = omega (arith, ints); tall = omega (arith, ints) };
  near = λ it point passed. passed.0;
}

pub returns-clause-ok : goal.returns-clause-ok
returns-clause-ok g c =
    let sections = c.args.sections.now in
    let points = c.args.points.now in
    let pairs = c.pairs_with_points_within_budget.new.out in
    let gained = ArePairsBetween-gained PassesHere sections points c.new-pairs.result.items pairs.items c.new-pairs.ensures.items in
    subst (λ (found : Option (Vec (ℕ × ℕ) g.row.A.Denot)). IfSome found (λ pairs. ArePairsBetween PassesHere sections points pairs.items)) (sym c.then_some.ensures)
    (IfSome-told c.in_ok-are_all.are_all pairs (λ (pairs : Vec (ℕ × ℕ) g.row.A.Denot). ArePairsBetween PassesHere sections points pairs.items) _ _ gained c.in_ok-are_all.ensures.ok)

pub returns-clause-within : goal.returns-clause-within
returns-clause-within g c = IfSome_then c.then_some.result (returns-clause-ok g c) (λ pairs are. ArePairsBetween-within PassesHere c.args.sections.now c.args.points.now pairs.items are)
