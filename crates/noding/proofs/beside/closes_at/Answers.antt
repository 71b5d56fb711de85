use Rattle.std.proofs.Common.{Bool, MatchBool, true, false, subst}
use Rattle.plane.specs.declared.point.Point.{Point}
use Rattle.plane.specs.Ends.{end_of, start_of}
use Rattle.noding.specs.Beside.{IsFrom}
use Rattle.noding.proofs.ChainLemmas.Close.{either_tested, first_tested}
use Rattle.noding.proofs.beside.closes_at.Goals as goal

-- where the point is an end of neither
told : (r : Bool) (P Q : Type 0) → ¬ Q → MatchBool r P (¬ P) → MatchBool r (P × (¬ Q)) (¬ (P × (¬ Q)))
told true P Q none is = (is, none)
told false P Q none not = λ both. not both.0

pub returns-then-is_end_of_one : goal.returns-then-is_end_of_one
returns-then-is_end_of_one c = λ closes. closes.1 c.if-is_end_of_one.ensures

pub returns-then-closes_from : goal.returns-then-closes_from
returns-then-closes_from c =
    let other = c.args.other in
    let point = c.args.point in
    let first = subst (λ (from : Point). MatchBool c.closes_from.result (IsFrom from other point) (¬ (IsFrom from other point))) c.start_of.ensures c.closes_from.ensures in
    told c.closes_from.result _ _ c.if-is_end_of_one.ensures
    (first_tested c.closes_from.result (IsFrom (start_of c.args.one) other point) (IsFrom (end_of c.args.one) other point) first c.if-closes_from.true)

pub returns-else-closes_from : goal.returns-else-closes_from
returns-else-closes_from c =
    let other = c.args.other in
    let point = c.args.point in
    let first = subst (λ (from : Point). MatchBool c.closes_from.result (IsFrom from other point) (¬ (IsFrom from other point))) c.start_of.ensures c.closes_from.ensures in
    let last = subst (λ (from : Point). MatchBool c.closes_from-else-closes_from.result (IsFrom from other point) (¬ (IsFrom from other point))) c.end_of.ensures c.closes_from-else-closes_from.ensures in
    told c.closes_from-else-closes_from.result _ _ c.if-is_end_of_one.ensures
    (either_tested c.closes_from.result c.closes_from-else-closes_from.result (IsFrom (start_of c.args.one) other point) (IsFrom (end_of c.args.one) other point) first last c.if-closes_from.false)
