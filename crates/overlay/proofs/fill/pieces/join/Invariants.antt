use Rattle.overlay.proofs.PieceLemmas.Joined.{AreJoinedUpto}
use Rattle.overlay.proofs.fill.pieces.join.Given as goal

-- the pieces so far are joined
abbrev pub invariant-loop-place : goal.invariant-loop-place
invariant-loop-place g l = AreJoinedUpto l.initial.pieces.items l.pieces.items l.place l.kept
