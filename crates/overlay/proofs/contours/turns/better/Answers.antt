use Rattle.std.proofs.Common.{◌≡◌, ℕ, Option, inl, inr, refl, sym, subst}
use Rattle.std.specs.Option.{MatchOption}
use Rattle.overlay.specs.Contours.Turns.{IsBetter, TurnsBefore}
use Rattle.overlay.proofs.ContourLemmas.Turns.{turns-by_vectors}
use Rattle.overlay.proofs.contours.turns.better.Goals as goal

pub returns-then-comes_before : goal.returns-then-comes_before
returns-then-comes_before c =
    let sorted = c.args.sorted.now in
    let other = c.in-Some.other in
    let before : TurnsBefore sorted c.args.back c.args.at c.args.place other =
    turns-by_vectors (λ T. T) sorted c.args.back c.args.at c.end_of.result c.end_of-2.result c.args.place other c.vector_between-way_back.result c.vector_between-one.result c.vector_between.result
    c.vector_between-way_back.ensures.x c.vector_between-way_back.ensures.y c.vector_between-one.ensures.x c.vector_between-one.ensures.y c.vector_between.ensures.x c.vector_between.ensures.y c.end_of.ensures c.end_of-2.ensures
    c.if-comes_before.ensures in
    subst (λ (best : Option ℕ). MatchOption best (c.args.place ≡ c.args.place) (λ it. IsBetter sorted c.args.back c.args.at c.args.place it c.args.place)) (sym c.in-Some.is) (inl (before, refl))

pub returns : goal.returns
returns c =
    let sorted = c.args.sorted.now in
    let other = c.in-Some.other in
    let stays : ¬ (TurnsBefore sorted c.args.back c.args.at c.args.place other) =
    turns-by_vectors (λ T. ¬ T) sorted c.args.back c.args.at c.end_of.result c.end_of-2.result c.args.place other c.vector_between-way_back.result c.vector_between-one.result c.vector_between.result
    c.vector_between-way_back.ensures.x c.vector_between-way_back.ensures.y c.vector_between-one.ensures.x c.vector_between-one.ensures.y c.vector_between.ensures.x c.vector_between.ensures.y c.end_of.ensures c.end_of-2.ensures
    c.if-comes_before.ensures in
    subst (λ (best : Option ℕ). MatchOption best (other ≡ c.args.place) (λ it. IsBetter sorted c.args.back c.args.at c.args.place it other)) (sym c.in-Some.is) (inr (stays, refl))
