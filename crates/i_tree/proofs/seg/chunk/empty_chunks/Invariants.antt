use Rattle.std.proofs.Common.{◌≡◌, ◌≤◌, [], replicate}
use Rattle.std.specs.Vec.{vec_len, vec_capacity}
use Rattle.i_tree.specs.Seg.Copies.{copies_in}
use Rattle.i_tree.proofs.seg.chunk.empty_chunks.Given as goal

-- so many chunks without copies, and room for those that are missing
abbrev pub invariant-loop : goal.invariant-loop
invariant-loop g l = record {
  copies : copies_in l.chunks.items ≡ replicate l.counter [];
  len : vec_len l.chunks ≡ l.counter;
  room : l.count ≤ vec_capacity l.chunks;
}
