use Rattle.std.proofs.Common.{◌≡◌, ℕ, ◌++◌}
use Rattle.std.specs.List.{All}
use Rattle.i_tree.specs.Seg.Copies.{chunk_at, copies_in}
use Rattle.i_tree.specs.Seg.Nodes.{nodes_of}
use Rattle.i_tree.proofs.SegLemmas.Chunks.{HasRoomAt, joining}
use Rattle.i_tree.proofs.seg.chunk.place_copies.Given as goal

-- the copies that join the chunks of the nodes left make them what the copies of all nodes make of the chunks at the start
abbrev pub invariant-loop-node : goal.invariant-loop-node
invariant-loop-node g l = record {
  room : All (HasRoomAt l.chunks) (nodes_of l.node-iterator.mask);
  chunks : (node : ℕ) → chunk_at node (copies_in l.chunks) ++ joining (l.mask, l.value) node (nodes_of l.node-iterator.mask) ≡ chunk_at node (copies_in l.fn.chunks) ++ joining (l.mask, l.value) node (nodes_of l.mask);
}
