use Rattle.std.proofs.Common.{ℤ, rules, of_calls}
use Rattle.std.specs.Int.Signed.{lt_z}
use Rattle.std.proofs.lemmas.List.Sorted.{IsPartitionPoint-from_clause}
use Rattle.overlay.proofs.GroupingLemmas.Before.{before-parted, less-parted}
use Rattle.overlay.proofs.grouping.below.count_before.Goals as goal

pub returns : goal.returns
returns c =
    before-parted c.args.xs.now c.requires c.args.x c.partition_point.result c.partition_point.ensures.bound
    (IsPartitionPoint-from_clause (λ (y : ℤ). lt_z y c.args.x) c.args.xs.now c.partition_point.result c.partition_point.ensures.partitioned (less-parted c.args.xs.now c.requires c.args.x) (λ a r f' called. search (rules, of_calls)))
