use Rattle.std.proofs.Common.{◌≡◌, ◌++◌, length, drop}
use Rattle.uses.specs.Roads.{kept}
use Rattle.uses.proofs.clipped_roads.kept_pieces.Given as goal

-- the pieces that are there and those kept of what is left are those of all
abbrev pub invariant-loop-piece : goal.invariant-loop-piece
invariant-loop-piece l =
    l.inside.items ++ kept l.bounds (drop (length l.yielded) l.pieces) (drop (length l.yielded) l.places) ≡ kept l.bounds l.pieces l.places
