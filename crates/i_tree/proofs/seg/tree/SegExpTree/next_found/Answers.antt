use Rattle.std.proofs.Common.{◌≡◌, ℕ, ◌≤◌, ◌++◌, List, Vec, length, take, drop, subst, arith}
use Rattle.i_tree.specs.Seg.Buckets.{chunk_count}
use Rattle.i_tree.specs.Seg.Copies.{copies_in, members_in, Holds}
use Rattle.i_tree.specs.Seg.Walk.{SameLive}
use Rattle.i_tree.proofs.SegLemmas.Found.{holds-members_in, holds-own}
use Rattle.i_tree.proofs.SegLemmas.LentChunks.{all-back}
use Rattle.i_tree.proofs.SegLemmas.Later.{Holds-walked}
use Rattle.i_tree.proofs.seg.tree.SegExpTree.next_found.Goals as goal

-- the chunks come back as the walk left them
kept : (g : _) (c : goal.After-self-1 g) → take c.self.inside.chunks.len (c.next_value.new.chunks ++ drop (length c.next_value.new.chunks) c.self.inside.chunks.items) ≡ c.next_value.new.chunks
kept g c = all-back c.self.inside.chunks.len c.deref_mut.result.now c.next_value.new.chunks _ c.deref_mut.ensures.len c.next_value.ensures.live.count

small : (g : _) (c : goal.After-self-1 g) → chunk_count c.self.inside.layout ≤ 63
small g c =
    let few : length (copies_in c.self.inside.chunks.items) ≤ 63 = rw (← c.self.view_is) at c.requires.few in
    omega (arith, few, c.self.invariant.chunk_for_each)

-- they hold what they held
holds : (g : _) (c : goal.After-self-1 g) → Holds g.V.ExpiredVal.expiration g.E.Ord.cmp c.self.inside.latest (chunk_count c.self.inside.layout) (copies_in c.next_value.new.chunks) (members_in g.V.ExpiredVal.expiration g.E.Ord.cmp c.self.inside.latest (copies_in c.self.inside.chunks.items))
holds g c =
    Holds-walked g.V.ExpiredVal.expiration g.E.Ord.cmp c.self.inside.latest c.args.time (chunk_count c.self.inside.layout) (copies_in c.self.inside.chunks.items) (copies_in c.next_value.new.chunks) (members_in g.V.ExpiredVal.expiration g.E.Ord.cmp c.self.inside.latest (copies_in c.self.inside.chunks.items))
    (rw (← c.self.view_is) at c.requires.latest) c.self.invariant
    (subst (λ (chunks : List (Vec (ℕ × g.row.V.Denot) g.row.A.Denot)). SameLive g.V.ExpiredVal.expiration g.E.Ord.cmp c.args.time (copies_in chunks) (copies_in c.next_value.new.chunks)) c.deref_mut.ensures.value c.next_value.ensures.live)

pub invariant_of-self : goal.invariant_of-self
invariant_of-self g c =
    rw (kept g c)
    (holds-own g.V.ExpiredVal.expiration g.E.Ord.cmp c.self.inside.latest (chunk_count c.self.inside.layout) (copies_in c.next_value.new.chunks) _ (small g c) (holds g c))

pub returns-clause-members : goal.returns-clause-members
returns-clause-members g c =
    rw (kept g c, ← c.self.view_is)
    (holds-members_in g.V.ExpiredVal.expiration g.E.Ord.cmp c.self.inside.latest (chunk_count c.self.inside.layout) (copies_in c.next_value.new.chunks) _ (small g c) (holds g c))

pub returns-clause-walk : goal.returns-clause-walk
returns-clause-walk g c = rw (kept g c, ← c.self.view_is, ← c.deref_mut.ensures.value) c.next_value.ensures
