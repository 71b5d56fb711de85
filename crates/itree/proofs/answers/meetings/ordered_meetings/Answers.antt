use Rattle.std.proofs.Common.{◌≡◌, ◌++◌, ◌∙◌, ℕ, List, ap, subst, arith, rules, IsPermutation}
use Rattle.std.proofs.lemmas.List.Sorted.{IsNonDecreasingBy-from_sort_by_key}
use Rattle.itree.proofs.Meetings.{AreMeetings-permuted}
use Rattle.itree.proofs.answers.meetings.ordered_meetings.Goals as goal

pub returns : goal.returns
returns g c =
    let (pairs, are, meetings) = c.in_ok-meetings.ensures.ok in
    let now = c.sort_unstable_by_key.new.self.items in
    let all : c.meetings.new.out.items ≡ pairs = are ∙ ap (λ (none : List (ℕ × ℕ)). none ++ pairs) c.new-pairs.ensures.items in
    let rising = IsNonDecreasingBy-from_sort_by_key (λ (pair : ℕ × ℕ). pair.0) now c.sort_unstable_by_key.ensures.sorted (λ a r q k. search rules) in
    record {
      meetings = AreMeetings-permuted c.args.edges.now pairs now (subst (λ (old : List (ℕ × ℕ)). IsPermutation old now) all c.sort_unstable_by_key.ensures.permutation) meetings;
      rising = λ i j d below within. rising i j d (omega (arith, below)) within;
    }
