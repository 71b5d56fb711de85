use Rattle.std.proofs.Common.{◌≡◌, [], replicate, take}
use Rattle.i_tree.specs.Seg.Copies.{copies_in}
use Rattle.i_tree.proofs.seg.chunk.clear_chunks.Given as goal

-- the chunks gone through have no copies
abbrev pub invariant-loop-chunk : goal.invariant-loop-chunk
invariant-loop-chunk g l = copies_in (take l.chunk-index l.chunk-items) ≡ replicate l.chunk-index []
