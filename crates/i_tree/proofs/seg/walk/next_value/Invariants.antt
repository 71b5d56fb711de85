use Rattle.std.proofs.Common.{length}
use Rattle.i_tree.specs.Seg.Copies.{copies_in}
use Rattle.i_tree.specs.Seg.Nodes.{nodes_of}
use Rattle.i_tree.proofs.SegLemmas.ChunksWalk.{InChunks}
use Rattle.i_tree.proofs.seg.walk.next_value.Given as goal

abbrev pub invariant-loop-cursor : goal.invariant-loop-cursor
invariant-loop-cursor g l =
    InChunks g.V.ExpiredVal.expiration g.E.Ord.cmp l.time g.C.Counter.made l.asked l.fn.steps l.steps (copies_in l.fn.chunks) l.fn.cursor.left l.fn.cursor.index (copies_in l.chunks) l.cursor.left l.cursor.index

-- A node is left for good once nothing more is found there.
abbrev pub decreases-loop-cursor : goal.decreases-loop-cursor
decreases-loop-cursor g l = length (nodes_of l.cursor.left)
