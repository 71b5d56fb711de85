use Rattle.std.proofs.Common.{rules, of_calls, leb}
use Rattle.std.proofs.lemmas.List.Sorted.{IsPartitionPoint-from_clause, IsPartitionedBy-leb}
use Rattle.noding.specs.declared.moved.Visit.{Visit}
use Rattle.noding.proofs.ChainLemmas.Moving.{point-leb}
use Rattle.noding.proofs.moved.visits_upto.Goals as goal

pub returns-clause-is : goal.returns-clause-is
returns-clause-is c =
    point-leb c.args.visits.now c.args.number c.partition_point.result
    (IsPartitionPoint-from_clause (λ (visit : Visit). leb visit.number c.args.number) c.args.visits.now c.partition_point.result c.partition_point.ensures.partitioned
    (IsPartitionedBy-leb (λ (visit : Visit). visit.number) c.args.visits.now c.args.number c.requires) (λ a r f' called. search (rules, of_calls)))
