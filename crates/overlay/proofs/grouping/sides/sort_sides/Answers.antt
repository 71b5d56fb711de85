use Rattle.std.proofs.Common.{rules}
use Rattle.std.proofs.lemmas.List.Sorted.{answers_always}
use Rattle.overlay.proofs.GroupingLemmas.Edges.{side_before, side_order, sides-begin}
use Rattle.overlay.proofs.grouping.sides.sort_sides.Goals as goal

pub returns-clause-order : goal.returns-clause-order
returns-clause-order c = sides-begin c.sort_unstable_by.new.self (c.sort_unstable_by.ensures.sorted side_before side_order (answers_always _ _ _ (λ f a r f' called. search rules)))
