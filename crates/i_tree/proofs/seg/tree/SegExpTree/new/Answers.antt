use Rattle.std.proofs.Common.{refl}
use Rattle.std.specs.declared.option.Option.TheVariants.{None}
use Rattle.i_tree.specs.Seg.Buckets.{chunk_count}
use Rattle.i_tree.proofs.SegLemmas.Empty.{members_in-empty, holds-empty}
use Rattle.i_tree.proofs.seg.tree.SegExpTree.new.Goals as goal

pub invariant_of-result : goal.invariant_of-result
invariant_of-result g c = rw ((c.in_ok-chunks.ensures), c.chunk_count.ensures.value) (holds-empty g.V.ExpiredVal.expiration g.E.Ord.cmp None (chunk_count c.in-Some.layout))

pub returns-clause-empty : goal.returns-clause-empty
returns-clause-empty g c = (rw (c.in_ok-chunks.ensures) (members_in-empty g.V.ExpiredVal.expiration g.E.Ord.cmp None c.chunk_count.result), refl)
