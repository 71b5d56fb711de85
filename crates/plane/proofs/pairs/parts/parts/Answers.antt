use Rattle.std.proofs.Common.{◌≡◌, ap, rules}
use Rattle.std.specs.Ordering.{is_lt}
use Rattle.std.proofs.lemmas.Fn.{always_returns_same}
use Rattle.std.proofs.lemmas.List.Sorted.{ranks_by}
use Rattle.plane.specs.contracts.pairs.parts.PartOrd.TheImpl.{ghosts as part_order}
use Rattle.plane.specs.contracts.pairs.parts.PartOrd.TheImpl.Laws.{total-law}
use Rattle.plane.specs.declared.pairs.parts.Part.{Part}
use Rattle.plane.proofs.PairsLemmas.Order.{AreParts-sorted}
use Rattle.plane.proofs.pairs.parts.parts.Goals as goal

pub returns-clause-ok : goal.returns-clause-ok
returns-clause-ok g c =
    AreParts-sorted g.T.Boxed.bounds c.args.strips c.args.items.now c.push_all.new.parts.items c.sort_in_buckets.new.items.items c.in_ok-push_all.ensures.lists c.sort_in_buckets.ensures.permutation
    (c.in_ok-sort_in_buckets.ensures.sorted (λ a b. is_lt (part_order.cmp a b)) (ranks_by total-law (λ (part : Part). part))
    (always_returns_same _ (λ a r. is_lt r ≡ is_lt (part_order.cmp a.0.now a.1.0.now)) _ (λ a r f' k. (
      ap is_lt (let is : r ≡ part_order.cmp a.0.now a.1.0.now = search rules in is),
      search rules,
    ))))
