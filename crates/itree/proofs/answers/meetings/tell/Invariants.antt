use Rattle.std.proofs.Common.{take, length}
use Rattle.itree.specs.Told.{lists_of, AreTold}
use Rattle.itree.proofs.answers.meetings.tell.Given as goal

-- the pairs so far are told
abbrev pub invariant-loop-pair : goal.invariant-loop-pair
invariant-loop-pair g l = AreTold l.numbers (take l.pair-index l.pairs) (length l.replies) (lists_of l.replies)
