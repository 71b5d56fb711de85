use Rattle.std.proofs.lemmas.List.Folds.{sum_by-replicate}
use Rattle.std.proofs.Common.{arith, rules, refl, ◌≡◌, ℕ, [], ◌++◌, length, take, drop, replicate}
use Rattle.std.specs.declared.option.Option.TheVariants.{None}
use Rattle.i_tree.specs.Seg.Buckets.{chunk_count}
use Rattle.i_tree.specs.Seg.Copies.{copies_in}
use Rattle.i_tree.proofs.SegLemmas.Empty.{members_in-empty, holds-empty}
use Rattle.i_tree.proofs.SegLemmas.LentChunks.{all-lent, all-cleared}
use Rattle.i_tree.proofs.seg.tree.SegExpTreeSegExpCollection.clear.Goals as goal

cleared : (g : _) (c : goal.After-self-2-1 g)
    → copies_in (take c.self.inside.chunks.len (c.clear_chunks.new.chunks ++ drop (length c.clear_chunks.new.chunks) c.self.inside.chunks.items)) ≡ replicate (chunk_count c.self.inside.layout) []
cleared g c =
    all-cleared c.self.inside.chunks.len (chunk_count c.self.inside.layout) c.deref_mut.result.now c.clear_chunks.new.chunks _ c.deref_mut.ensures.len
    (all-lent (chunk_count c.self.inside.layout) c.self.inside.chunks.items c.deref_mut.result.now c.self.invariant.chunk_for_each c.deref_mut.ensures.value) c.clear_chunks.ensures

pub invariant_of-self : goal.invariant_of-self
invariant_of-self g c = rw (cleared g c) (holds-empty g.V.ExpiredVal.expiration g.E.Ord.cmp None (chunk_count c.self.inside.layout))

pub returns : goal.returns
returns g c = record {
  empty = rw (cleared g c) (members_in-empty g.V.ExpiredVal.expiration g.E.Ord.cmp None (chunk_count c.self.inside.layout));
  latest = refl;
  buckets = search rules;
  copies = rw (cleared g c) (omega (arith, sum_by-replicate (length {A = ℕ × g.row.V.Denot}) (chunk_count c.self.inside.layout) []));
}
