use Rattle.std.proofs.Common.{arith, rules, ◌≡◌, ◌++◌, length, take, drop, ap, ◌∙◌}
use Rattle.i_tree.specs.Seg.Buckets.{Accepts, interval, chunk_count}
use Rattle.i_tree.specs.Seg.Copies.{copies_in, PlacesCopies}
use Rattle.i_tree.specs.Seg.Nodes.{canonical_nodes}
use Rattle.i_tree.proofs.SegLemmas.Filters.{filters}
use Rattle.i_tree.proofs.SegLemmas.Inserting.{accepted-order, accepted-below, inserted-members, inserted-holds, inserted-few}
use Rattle.i_tree.proofs.SegLemmas.LentChunks.{all-lent, all-back, placed-after_room}
use Rattle.i_tree.proofs.seg.tree.SegExpTreeSegExpCollection.insert_by_range.Goals as goal

pub canonical_mask-mask-requires-clause-order : goal.canonical_mask-mask-requires-clause-order
canonical_mask-mask-requires-clause-order g c =
    let own : Accepts c.self.inside.layout (g.R.LayoutNumber.whole c.args.range.min) (g.R.LayoutNumber.whole c.args.range.max) = rw (← c.self.view_is) at c.requires in
    rw (c.bucket-first.ensures.value, c.bucket-last.ensures.value)
    (accepted-order c.self.inside.layout (g.R.LayoutNumber.whole c.args.range.min) (g.R.LayoutNumber.whole c.args.range.max) c.bucket-first.ensures.wide own)

-- each node of the mask has a chunk
pub make_room-requires : goal.make_room-requires
make_room-requires g c =
    let own : Accepts c.self.inside.layout (g.R.LayoutNumber.whole c.args.range.min) (g.R.LayoutNumber.whole c.args.range.max) = rw (← c.self.view_is) at c.requires in
    let long = all-lent (chunk_count c.self.inside.layout) c.self.inside.chunks.items c.deref_mut.result.now c.self.invariant.chunk_for_each c.deref_mut.ensures.value in
    rw long
    (accepted-below c.self.inside.layout (g.R.LayoutNumber.whole c.args.range.min) (g.R.LayoutNumber.whole c.args.range.max) c.bucket-first.ensures.wide own c.canonical_mask-mask.result
    (rw (← c.bucket-last.ensures.value) c.canonical_mask-mask.ensures.below))

-- a refusal leaves the copies as they were
refused-copies : (g : _) (c : goal.After-from_residual g) → copies_in (take c.self.inside.chunks.len (c.make_room.new.chunks ++ drop (length c.make_room.new.chunks) c.self.inside.chunks.items)) ≡ copies_in c.self.inside.chunks.items
refused-copies g c =
    let same = (c.in_err-make_room.ensures).copies in
    ap copies_in (all-back c.self.inside.chunks.len c.deref_mut.result.now c.make_room.new.chunks _ c.deref_mut.ensures.len (ap length same)) ∙ same ∙ ap copies_in c.deref_mut.ensures.value

pub invariant_of-self : goal.invariant_of-self
invariant_of-self g c = rw (refused-copies g c) c.self.invariant

pub returns-in_err-make_room : goal.returns-in_err-make_room
returns-in_err-make_room g c = record {
  ok = search rules;
  err = rw (refused-copies g c) (search rules);
  refused = search rules;
  latest = search rules;
  buckets = search rules;
  filters = filters c.args.self.now.buckets (rw (← c.self.view_is) c.bucket-first.ensures.wide);
  placed = search rules;
  few = rw (refused-copies g c, ← c.self.view_is) (omega arith);
}

-- the copies are placed among those of before
placed : (g : _) (c : goal.After-self-2-1 g)
    → PlacesCopies (canonical_nodes (interval c.self.inside.layout (g.R.LayoutNumber.whole c.args.range.min) (g.R.LayoutNumber.whole c.args.range.max))) c.args.val (copies_in c.self.inside.chunks.items) (copies_in c.place_copies.new.chunks)
placed g c =
    let mask : c.canonical_mask-mask.result ≡ canonical_nodes (interval c.self.inside.layout (g.R.LayoutNumber.whole c.args.range.min) (g.R.LayoutNumber.whole c.args.range.max)) =
    rw (← c.bucket-first.ensures.value, ← c.bucket-last.ensures.value) c.canonical_mask-mask.ensures.value in
    placed-after_room c.self.inside.chunks.len (canonical_nodes (interval c.self.inside.layout (g.R.LayoutNumber.whole c.args.range.min) (g.R.LayoutNumber.whole c.args.range.max))) c.args.val c.self.inside.chunks.items c.deref_mut.result.now c.make_room.new.chunks (drop (length c.make_room.new.chunks) c.self.inside.chunks.items) c.deref_mut-2.result.now c.place_copies.new.chunks
    c.deref_mut.ensures.len c.deref_mut.ensures.value (c.in_ok-make_room.ensures).copies c.deref_mut-2.ensures.value (rw (← mask) c.place_copies.ensures)

-- the vector has the chunks that come back from the second call
kept : (g : _) (c : goal.After-self-2-1 g)
    → take c.self.inside.chunks.len (c.place_copies.new.chunks ++ drop (length c.place_copies.new.chunks) (take c.self.inside.chunks.len (c.make_room.new.chunks ++ drop (length c.make_room.new.chunks) c.self.inside.chunks.items))) ≡ c.place_copies.new.chunks
kept g c = all-back c.self.inside.chunks.len c.deref_mut-2.result.now c.place_copies.new.chunks _ c.deref_mut-2.ensures.len c.place_copies.ensures.count

-- the layout's buckets are those of the tree
own : (g : _) (c : goal.After-self-2-1 g) → Accepts c.self.inside.layout (g.R.LayoutNumber.whole c.args.range.min) (g.R.LayoutNumber.whole c.args.range.max)
own g c = rw (← c.self.view_is) at c.requires

pub invariant_of-self-2 : goal.invariant_of-self-2
invariant_of-self-2 g c =
    rw (kept g c)
    (inserted-holds c.self.inside.layout _ _ c.bucket-first.ensures.wide (own g c) g.V.ExpiredVal.expiration g.E.Ord.cmp c.self.inside.latest c.args.val (copies_in c.self.inside.chunks.items) (copies_in c.place_copies.new.chunks) _ c.bucket-first.ensures.chunks c.self.invariant (placed g c))

pub returns : goal.returns
returns g c = record {
  ok =
      rw (kept g c, ← c.self.view_is)
      (inserted-members c.self.inside.layout _ _ c.bucket-first.ensures.wide (own g c) g.V.ExpiredVal.expiration g.E.Ord.cmp c.self.inside.latest c.args.val (copies_in c.self.inside.chunks.items) (copies_in c.place_copies.new.chunks) _ c.bucket-first.ensures.chunks c.self.invariant (placed g c));
  err = tt;
  refused = tt;
  latest = search rules;
  buckets = search rules;
  filters = filters c.args.self.now.buckets (rw (← c.self.view_is) c.bucket-first.ensures.wide);
  placed = rw (kept g c, ← c.self.view_is) (placed g c);
  few =
      rw (kept g c, ← c.self.view_is)
      (inserted-few c.self.inside.layout _ _ c.bucket-first.ensures.wide (own g c) g.V.ExpiredVal.expiration g.E.Ord.cmp c.self.inside.latest c.args.val (copies_in c.self.inside.chunks.items) (copies_in c.place_copies.new.chunks) _ c.bucket-first.ensures.chunks c.self.invariant (placed g c));
}
