use Rattle.std.proofs.Common.{◌≡◌, ℤ, ap₂, subst}
use Rattle.std.specs.Prelude.{MatchBool}
use Rattle.overlay.specs.Contours.Turns.{ComesBefore, Direction, direction, direction_between}
use Rattle.overlay.proofs.contours.turns.comes_first.Goals as goal

made : ℤ → ℤ → Direction
made x y = record { x = x; y = y }

pub returns : goal.returns
unfolding made
returns c =
    let at = c.args.at in
    let back : direction c.vector_between.result ≡ direction_between at c.args.back = ap₂ made c.vector_between.ensures.x c.vector_between.ensures.y in
    let one : direction c.vector_between-to_one.result ≡ direction_between at c.args.one = ap₂ made c.vector_between-to_one.ensures.x c.vector_between-to_one.ensures.y in
    let other : direction c.vector_between-2.result ≡ direction_between at c.args.other = ap₂ made c.vector_between-2.ensures.x c.vector_between-2.ensures.y in
    subst (λ (w : Direction). MatchBool c.comes_before.result (ComesBefore (direction_between at c.args.back) (direction_between at c.args.one) w) (¬ (ComesBefore (direction_between at c.args.back) (direction_between at c.args.one) w))) other
    (subst (λ (v : Direction). MatchBool c.comes_before.result (ComesBefore (direction_between at c.args.back) v (direction c.vector_between-2.result)) (¬ (ComesBefore (direction_between at c.args.back) v (direction c.vector_between-2.result)))) one
    (subst (λ (u : Direction). MatchBool c.comes_before.result (ComesBefore u (direction c.vector_between-to_one.result) (direction c.vector_between-2.result)) (¬ (ComesBefore u (direction c.vector_between-to_one.result) (direction c.vector_between-2.result)))) back
    c.comes_before.ensures))
