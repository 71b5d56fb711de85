use Rattle.std.proofs.Common.{◌≡◌, ◌++◌}
use Rattle.noding.specs.Windings.{pieces}
use Rattle.noding.proofs.pieces.push_pieces.Given as goal

-- the edges that are there and the pieces of what is left of the chain are those before and the pieces of the chain
abbrev pub invariant-loop-pair : goal.invariant-loop-pair
invariant-loop-pair g l =
    (l.pair-iterator.size ≡ 2)
    × ((l.edges.items ++ pieces l.pair-iterator.rest.now) ≡ (l.fn.edges.items ++ pieces l.chain))
