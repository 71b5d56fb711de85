use Rattle.std.proofs.Common.{◌≡◌, [], replicate}
use Rattle.itree.specs.Told.{lists_of}
use Rattle.itree.proofs.answers.meetings.unmet.Given as goal

-- the replies so far list no line
abbrev pub invariant-loop : goal.invariant-loop
invariant-loop g l = lists_of l.replies.items ≡ replicate l.counter []
