use Rattle.std.proofs.Common.{◌≡◌, ◌++◌, ◌∙◌, ℕ, List, Option, ap, sym, subst}
use Rattle.std.specs.List.{slice_get}
use Rattle.std.specs.Option.{MatchOption}
use Rattle.std.proofs.lemmas.Bool.{MatchBool-at_true}
use Rattle.plane.specs.Pairs.Pairs.{PairAt}
use Rattle.plane.proofs.PairsLemmas.First.{first_told}
use Rattle.plane.proofs.PairsLemmas.Within.{found-within}
use Rattle.plane.proofs.pairs.first_pair.Goals as goal

pub returns-clause-ok : goal.returns-clause-ok
returns-clause-ok g c =
    let (pairs, is, told) = MatchBool-at_true _ _ (c.in_ok-sweep_over.ensures.unlimited c.unlimited.ensures) c.in_ok-sweep_over.ensures.ok in
    let all : c.sweep_over.new.out.items ≡ pairs = is ∙ ap (λ (none : List (ℕ × ℕ)). none ++ pairs) c.new-found.ensures.items in
    let found : c.copied.result ≡ slice_get pairs 0 = c.copied.ensures ∙ c.first.ensures.value ∙ ap (λ (list : List (ℕ × ℕ)). slice_get list 0) (c.deref.ensures.value ∙ all) in
    subst (λ (pair : Option (ℕ × ℕ)). MatchOption pair ((i j : ℕ) → ¬ (PairAt g.T.Meets.Meeting c.args.items.now i j)) (λ pair. PairAt g.T.Meets.Meeting c.args.items.now pair.0 pair.1)) (sym found)
    (first_told g.T.Meets.Meeting c.args.items.now 0 pairs told)

pub returns-clause-within : goal.returns-clause-within
returns-clause-within g c = found-within g.T.Meets.Meeting c.args.items.now c.copied.result (returns-clause-ok g c)
