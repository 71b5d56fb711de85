use Rattle.std.proofs.Common.{rules, of_calls, ltb}
use Rattle.std.proofs.lemmas.List.Sorted.{IsPartitionPoint-from_clause, IsPartitionedBy-ltb}
use Rattle.noding.specs.declared.moved.Visit.{Visit}
use Rattle.noding.proofs.ChainLemmas.Moving.{point-ltb}
use Rattle.noding.proofs.moved.visits_below.Goals as goal

pub returns : goal.returns
returns c =
    point-ltb c.args.visits.now c.args.number c.partition_point.result
    (IsPartitionPoint-from_clause (λ (visit : Visit). ltb visit.number c.args.number) c.args.visits.now c.partition_point.result c.partition_point.ensures.partitioned
    (IsPartitionedBy-ltb (λ (visit : Visit). visit.number) c.args.visits.now c.args.number c.requires) (λ a r f' called. search (rules, of_calls)))
