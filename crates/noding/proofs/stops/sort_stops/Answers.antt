use Rattle.std.proofs.Common.{sym, subst, rules}
use Rattle.std.specs.List.{AllPairs}
use Rattle.std.specs.Ordering.{is_lt}
use Rattle.std.proofs.lemmas.List.Filters.{dedup_is}
use Rattle.std.proofs.lemmas.List.Kept.{IsStrictlySortedBy-dedup}
use Rattle.std.proofs.lemmas.List.Sorted.{answers_always, ranks_by}
use Rattle.plane.specs.Gains.{HaveSame}
use Rattle.noding.specs.Stops.{IsBefore}
use Rattle.noding.specs.contracts.stops.StopOrd.TheImpl.{ghosts as stop_order}
use Rattle.noding.specs.contracts.stops.StopOrd.TheImpl.Laws.{matches_eq-law, total-law as stop_total}
use Rattle.plane.proofs.GainsLemmas.{HaveSame-sorted}
use Rattle.noding.proofs.ChainLemmas.Order.{stop-same, stops-in_order}
use Rattle.noding.proofs.stops.sort_stops.Goals as goal

pub returns-clause-same : goal.returns-clause-same
returns-clause-same g c =
    let before = c.args.stops.now.items in
    subst (HaveSame before) (sym (dedup_is _ _ _ c.dedup.ensures.filtered))
    (HaveSame-sorted stop_total stop-same matches_eq-law before c.sort_in_buckets.new.items.items c.sort_in_buckets.ensures.permutation)

pub returns-clause-in_order : goal.returns-clause-in_order
returns-clause-in_order g c =
    subst (AllPairs IsBefore) (sym (dedup_is _ _ _ c.dedup.ensures.filtered))
    (stops-in_order _
    (IsStrictlySortedBy-dedup stop_total matches_eq-law c.sort_in_buckets.new.items.items
    (c.in_ok-sort_in_buckets.ensures.sorted (λ a b. is_lt (stop_order.cmp a b)) (ranks_by stop_total (λ it. it)) (answers_always _ _ _ (λ f a r f' called. search rules)))))
