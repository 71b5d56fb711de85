use Rattle.std.proofs.Common.{rules}
use Rattle.std.proofs.lemmas.List.Sorted.{answers_always}
use Rattle.overlay.proofs.PieceLemmas.Ends.{AreEnds-sorted, ends_before, ends_order}
use Rattle.overlay.proofs.fill.ends.ends_in_order.Goals as goal

pub returns : goal.returns
returns g c =
    AreEnds-sorted c.args.pieces.now c.in_ok-ends.ends.items c.sort_in_buckets.new.items.items c.in_ok-ends.ensures.0 c.in_ok-ends.ensures.1 c.sort_in_buckets.ensures.permutation
    (c.in_ok-sort_in_buckets.ensures.sorted ends_before ends_order (answers_always _ _ _ (λ f a r f' called. search rules)))
