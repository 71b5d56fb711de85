use Rattle.std.proofs.Common.{ℕ, ◌^◌, ◌<◌, ◌≤◌, Some, sym, subst}
use Rattle.i_tree.specs.Seg.Buckets.{Accepts, chunk_count}
use Rattle.i_tree.specs.Seg.Copies.{copies_in, members_in, Holds}
use Rattle.i_tree.specs.Seg.Members.{live_members}
use Rattle.i_tree.proofs.SegLemmas.Asking.{asked-found, asked-reads}
use Rattle.i_tree.proofs.SegLemmas.Filters.{filters}
use Rattle.i_tree.proofs.SegLemmas.Found.{holds-members_in, holds-own}
use Rattle.i_tree.proofs.SegLemmas.Inserting.{accepted-order, accepted-below}
use Rattle.i_tree.proofs.SegLemmas.Later.{Holds-later}
use Rattle.i_tree.proofs.seg.tree.SegExpTree.ask.Goals as goal

pub meeting_mask-requires-clause-order : goal.meeting_mask-requires-clause-order
meeting_mask-requires-clause-order g c =
    let accepted : Accepts c.self.inside.layout (g.R.LayoutNumber.whole c.args.range.min) (g.R.LayoutNumber.whole c.args.range.max) = rw (← c.self.view_is) at c.requires.accepted in
    rw (c.bucket-first.ensures.value, c.bucket-last.ensures.value)
    (accepted-order c.self.inside.layout (g.R.LayoutNumber.whole c.args.range.min) (g.R.LayoutNumber.whole c.args.range.max) c.bucket-first.ensures.wide accepted)

own : (g : _) (c : goal.After-meeting_mask g) → Accepts c.self.inside.layout (g.R.LayoutNumber.whole c.args.range.min) (g.R.LayoutNumber.whole c.args.range.max)
own g c = rw (← c.self.view_is) at c.requires.accepted

first_upto_last : (g : _) (c : goal.After-meeting_mask g) → c.bucket-first.result ≤ c.bucket-last.result
first_upto_last g c =
    rw (c.bucket-first.ensures.value, c.bucket-last.ensures.value)
    (accepted-order c.self.inside.layout (g.R.LayoutNumber.whole c.args.range.min) (g.R.LayoutNumber.whole c.args.range.max) c.bucket-first.ensures.wide (own g c))

-- what the chunks hold at the time of the query
later : (g : _) (c : goal.After-meeting_mask g) → Holds g.V.ExpiredVal.expiration g.E.Ord.cmp (Some c.args.time) (chunk_count c.self.inside.layout) (copies_in c.self.inside.chunks.items) (live_members g.V.ExpiredVal.expiration g.E.Ord.cmp c.args.time (members_in g.V.ExpiredVal.expiration g.E.Ord.cmp c.self.inside.latest (copies_in c.self.inside.chunks.items)))
later g c =
    Holds-later g.met.E.Ord.total g.V.ExpiredVal.expiration c.self.inside.latest c.args.time (chunk_count c.self.inside.layout) (copies_in c.self.inside.chunks.items) (members_in g.V.ExpiredVal.expiration g.E.Ord.cmp c.self.inside.latest (copies_in c.self.inside.chunks.items))
    (rw (← c.self.view_is) at c.requires.in_time) c.self.invariant

pub invariant_of-self : goal.invariant_of-self
invariant_of-self g c =
    holds-own g.V.ExpiredVal.expiration g.E.Ord.cmp (Some c.args.time) (chunk_count c.self.inside.layout) (copies_in c.self.inside.chunks.items) _ c.bucket-first.ensures.chunks (later g c)

pub returns-clause-within : goal.returns-clause-within
returns-clause-within g c =
    subst (λ (count : ℕ). c.meeting_mask.result < 2 ^ count) (sym c.self.invariant.chunk_for_each)
    (accepted-below c.self.inside.layout (g.R.LayoutNumber.whole c.args.range.min) (g.R.LayoutNumber.whole c.args.range.max) c.bucket-first.ensures.wide (own g c) c.meeting_mask.result
    (rw (← c.bucket-last.ensures.value) c.meeting_mask.ensures.below))

pub returns-clause-members : goal.returns-clause-members
returns-clause-members g c =
    rw (← c.self.view_is)
    (holds-members_in g.V.ExpiredVal.expiration g.E.Ord.cmp (Some c.args.time) (chunk_count c.self.inside.layout) (copies_in c.self.inside.chunks.items) _ c.bucket-first.ensures.chunks (later g c))

pub returns-clause-found : goal.returns-clause-found
returns-clause-found g c =
    rw (← c.self.view_is, ← c.bucket-first.ensures.value, ← c.bucket-last.ensures.value)
    (asked-found g.V.ExpiredVal.expiration g.E.Ord.cmp c.args.time (chunk_count c.self.inside.layout) (copies_in c.self.inside.chunks.items) _ c.bucket-first.ensures.chunks (later g c)
    c.bucket-first.result c.bucket-last.result (first_upto_last g c) c.bucket-last.ensures.within c.meeting_mask.result c.meeting_mask.ensures.value)

pub returns-clause-filters : goal.returns-clause-filters
returns-clause-filters g c = filters c.args.self.now.buckets (rw (← c.self.view_is) c.bucket-first.ensures.wide)

pub returns-clause-reads : goal.returns-clause-reads
returns-clause-reads g c =
    asked-reads g.V.ExpiredVal.expiration g.E.Ord.cmp c.args.time (chunk_count c.self.inside.layout) (copies_in c.self.inside.chunks.items) _ c.bucket-first.ensures.chunks (later g c)
    c.bucket-first.result c.bucket-last.result (first_upto_last g c) c.bucket-last.ensures.within c.meeting_mask.result c.meeting_mask.ensures.value
