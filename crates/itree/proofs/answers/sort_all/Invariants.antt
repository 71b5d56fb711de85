use Rattle.std.proofs.Common.{◌≡◌, map, take, drop}
use Rattle.runs.specs.SegMachine.{reply_of}
use Rattle.itree.specs.Sorting.{SortsAll}
use Rattle.itree.proofs.answers.sort_all.Given as goal

-- the replies gone through are in order, and the others are as they were
abbrev pub invariant-loop-reply : goal.invariant-loop-reply
invariant-loop-reply g l = record {
  sorted : SortsAll (map reply_of (take l.reply-index l.fn.replies)) (map reply_of (take l.reply-index l.reply-items));
  rest : drop l.reply-index l.reply-items ≡ drop l.reply-index l.fn.replies;
}
