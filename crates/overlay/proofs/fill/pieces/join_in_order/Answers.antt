use Rattle.std.proofs.Common.{◌*◌, ℕ, rules, subst}
use Rattle.std.proofs.lemmas.List.Sorted.{All-permutation, answers_always}
use Rattle.overlay.specs.Fill.Sweep.{WeighUpto}
use Rattle.overlay.specs.Fill.Turned.{IsSmall}
use Rattle.overlay.proofs.PieceLemmas.Begins.{begins_before, weak_order}
use Rattle.overlay.proofs.PieceLemmas.Made.{joined-pieces, joined-weigh, sorted-order, stand-apart, stand-permutation}
use Rattle.std.proofs.lemmas.List.Sorted.{length_permutation}
use Rattle.overlay.proofs.fill.pieces.join_in_order.Goals as goal

pub join-requires-clause-order : goal.join-requires-clause-order
join-requires-clause-order g c = sorted-order _ (c.in_ok-sort_in_buckets.ensures.sorted begins_before weak_order (answers_always _ _ _ (λ f a r f' called. search rules)))

pub join-requires-clause-apart : goal.join-requires-clause-apart
join-requires-clause-apart g c =
    let (subject, clip, unjoined) = c.requires in
    let sorted = c.sort_in_buckets.new.items.items in
    stand-apart subject clip sorted unjoined.noded (stand-permutation subject clip c.args.pieces.now.items sorted c.sort_in_buckets.ensures.permutation unjoined.stand)

pub join-requires-clause-countable : goal.join-requires-clause-countable
join-requires-clause-countable g c =
    let (subject, clip, unjoined) = c.requires in
    let sorted = c.sort_in_buckets.new.items.items in
    let stand = stand-permutation subject clip c.args.pieces.now.items sorted c.sort_in_buckets.ensures.permutation unjoined.stand in
    (stand.most, stand.small, stand.countable)

pub returns-clause-pieces : goal.returns-clause-pieces
returns-clause-pieces g c = λ subject clip unjoined.
    let sorted = c.sort_in_buckets.new.items.items in
    joined-pieces subject clip sorted c.join.new.pieces.items (stand-permutation subject clip c.args.pieces.now.items sorted c.sort_in_buckets.ensures.permutation unjoined.stand) c.join.ensures

pub returns-clause-weigh : goal.returns-clause-weigh
returns-clause-weigh g c = λ most small.
    let pieces = c.args.pieces.now.items in
    let sorted = c.sort_in_buckets.new.items.items in
    subst (λ (n : ℕ). WeighUpto (most * n) c.join.new.pieces.items) (length_permutation pieces sorted c.sort_in_buckets.ensures.permutation)
    (joined-weigh most sorted c.join.new.pieces.items (All-permutation (IsSmall most) pieces sorted c.sort_in_buckets.ensures.permutation small) c.join.ensures)
