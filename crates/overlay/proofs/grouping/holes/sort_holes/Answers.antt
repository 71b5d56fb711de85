use Rattle.std.proofs.Common.{rules}
use Rattle.std.proofs.lemmas.List.Sorted.{answers_always}
use Rattle.overlay.proofs.GroupingLemmas.Homes.{hole_before, hole_order, holes-begin}
use Rattle.overlay.proofs.grouping.holes.sort_holes.Goals as goal

pub returns-clause-order : goal.returns-clause-order
returns-clause-order c = holes-begin c.sort_unstable_by.new.self (c.sort_unstable_by.ensures.sorted hole_before hole_order (answers_always _ _ _ (λ f a r f' called. search rules)))
