use Rattle.std.proofs.Common.{◌≡◌, ◌++◌}
use Rattle.std.specs.List.{All}
use Rattle.i_tree.specs.Seg.Copies.{copies_in}
use Rattle.i_tree.specs.Seg.Nodes.{nodes_of}
use Rattle.i_tree.proofs.SegLemmas.Chunks.{HasRoomAt}
use Rattle.i_tree.proofs.seg.chunk.make_room.Given as goal

-- no copy changes; the nodes gone through, which have room, and those left are the mask's
abbrev pub invariant-loop-node : goal.invariant-loop-node
invariant-loop-node g l = record {
  copies : copies_in l.chunks ≡ copies_in l.fn.chunks;
  nodes : l.yielded ++ nodes_of l.node-iterator.mask ≡ nodes_of l.mask;
  room : All (HasRoomAt l.chunks) l.yielded;
}
