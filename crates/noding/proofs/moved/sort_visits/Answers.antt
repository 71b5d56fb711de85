use Rattle.std.proofs.Common.{rules, of_calls}
use Rattle.std.proofs.lemmas.List.Sorted.{IsNonDecreasingBy-from_sort_by}
use Rattle.noding.specs.declared.moved.Visit.{Visit}
use Rattle.noding.proofs.moved.sort_visits.Goals as goal

pub returns-clause-in_order : goal.returns-clause-in_order
returns-clause-in_order g c =
    IsNonDecreasingBy-from_sort_by (λ (visit : Visit). visit.number) c.sort_in_buckets.new.items.items c.in_ok-sort_in_buckets.ensures.sorted (λ a r f' called. search (rules, of_calls))
