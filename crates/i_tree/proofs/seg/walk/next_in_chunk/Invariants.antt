use Rattle.std.proofs.Common.{◌-◌, length}
use Rattle.i_tree.proofs.SegLemmas.Walk.{InChunk}
use Rattle.i_tree.proofs.seg.walk.next_in_chunk.Given as goal

abbrev pub invariant-loop-index : goal.invariant-loop-index
invariant-loop-index g l =
    InChunk g.V.ExpiredVal.expiration g.E.Ord.cmp l.time g.C.Counter.made l.asked l.node l.fn.steps l.steps l.fn.chunk.items l.fn.index l.chunk.items l.index

-- Each copy that is read is removed or passed.
abbrev pub decreases-loop-index : goal.decreases-loop-index
decreases-loop-index g l = length l.chunk.items - l.index
