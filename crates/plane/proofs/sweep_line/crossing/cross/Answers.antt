use Rattle.std.proofs.Common.{◌≡◌, ◌∙◌, ◌≤ℤ◌, ◌<ℤ◌, ap, sym, rules, subst, arith, MatchBool}
use Rattle.std.specs.Int.{int_min, int_max}
use Rattle.std.proofs.lemmas.Int.{ints}
use Rattle.std.specs.declared.cmp.Ordering.{Ordering}
use Rattle.plane.specs.SweepLine.Heights.{rightwards}
use Rattle.plane.specs.SweepLine.Crossings.{AreOpposite}
use Rattle.plane.proofs.SweepLineLemmas.Crossings.{heights_at, apart, cross_tested}
use Rattle.plane.proofs.SweepLineLemmas.Turned.{CoversSome-crossed}
use Rattle.plane.proofs.SweepLineLemmas.Uncrossed.{Cross-exchanged}
use Rattle.plane.proofs.sweep_line.crossing.cross.Goals as goal

pub returns-then-right : goal.returns-then-right
returns-then-right c cross =
    let right = c.turn_rightwards-right.result in
    let none : right.x1 ≤ℤ right.x0 = search rules in
    let some : right.x0 <ℤ right.x1 = rw (c.turn_rightwards-right.ensures) (CoversSome-crossed c.args.one c.args.other cross) in
    omega (arith, ints, none, some)

pub returns-then-other_right : goal.returns-then-other_right
returns-then-other_right c cross =
    let right = c.turn_rightwards-other_right.result in
    let none : right.x1 ≤ℤ right.x0 = search rules in
    let some : right.x0 <ℤ right.x1 = rw (c.turn_rightwards-other_right.ensures) (CoversSome-crossed c.args.other c.args.one (Cross-exchanged c.args.one c.args.other cross)) in
    omega (arith, ints, none, some)

pub returns-then-last-first : goal.returns-then-last-first
returns-then-last-first c =
    let max_is : c.max-first.result ≡ int_max c.turn_rightwards-right.result.x0 c.turn_rightwards-other_right.result.x0 = search rules in
    let min_is : c.min-last.result ≡ int_min c.turn_rightwards-right.result.x1 c.turn_rightwards-other_right.result.x1 = search rules in
    let first_is : c.max-first.result ≡ int_max (rightwards c.args.one).x0 (rightwards c.args.other).x0 = rw (← c.turn_rightwards-right.ensures, ← c.turn_rightwards-other_right.ensures) max_is in
    let last_is : c.min-last.result ≡ int_min (rightwards c.args.one).x1 (rightwards c.args.other).x1 = rw (← c.turn_rightwards-right.ensures, ← c.turn_rightwards-other_right.ensures) min_is in
    apart c.args.one c.args.other c.max-first.result c.min-last.result (record { first_is = first_is; last_is = last_is }) (search rules)

pub returns : goal.returns
returns c =
    let max_is : c.max-first.result ≡ int_max c.turn_rightwards-right.result.x0 c.turn_rightwards-other_right.result.x0 = search rules in
    let min_is : c.min-last.result ≡ int_min c.turn_rightwards-right.result.x1 c.turn_rightwards-other_right.result.x1 = search rules in
    let first_is : c.max-first.result ≡ int_max (rightwards c.args.one).x0 (rightwards c.args.other).x0 = rw (← c.turn_rightwards-right.ensures, ← c.turn_rightwards-other_right.ensures) max_is in
    let last_is : c.min-last.result ≡ int_min (rightwards c.args.one).x1 (rightwards c.args.other).x1 = rw (← c.turn_rightwards-right.ensures, ← c.turn_rightwards-other_right.ensures) min_is in
    let some : c.max-first.result ≤ℤ c.min-last.result = search rules in
    let starts : c.compare_starts-at_first.result ≡ heights_at c.args.one c.args.other (int_max (rightwards c.args.one).x0 (rightwards c.args.other).x0) = rw (← c.turn_rightwards-right.ensures, ← c.turn_rightwards-other_right.ensures) c.compare_starts-at_first.ensures in
    let ends : c.compare_ends-at_last.result ≡ heights_at c.args.one c.args.other (int_min (rightwards c.args.one).x1 (rightwards c.args.other).x1) = rw (← c.turn_rightwards-right.ensures, ← c.turn_rightwards-other_right.ensures) c.compare_ends-at_last.ensures in
    let at_first : c.compare_starts-at_first.result ≡ heights_at c.args.one c.args.other c.max-first.result = starts ∙ ap (heights_at c.args.one c.args.other) (sym first_is) in
    let at_last : c.compare_ends-at_last.result ≡ heights_at c.args.one c.args.other c.min-last.result = ends ∙ ap (heights_at c.args.one c.args.other) (sym last_is) in
    let IsTested : Ordering → Ordering → Type 0 = λ start end. MatchBool c.are_opposite.result (AreOpposite start end) (¬ (AreOpposite start end)) in
    let tested = subst (λ (start : Ordering). IsTested start (heights_at c.args.one c.args.other c.min-last.result)) at_first (subst (λ (end : Ordering). IsTested c.compare_starts-at_first.result end) at_last c.are_opposite.ensures) in
    cross_tested c.args.one c.args.other c.max-first.result c.min-last.result (record { first_is = first_is; last_is = last_is }) some c.are_opposite.result tested
