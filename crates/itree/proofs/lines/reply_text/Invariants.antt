use Rattle.std.proofs.Common.{◌≡◌, string_bytes, take}
use Rattle.itree.specs.Replies.{reply_lines}
use Rattle.itree.proofs.lines.reply_text.Given as goal

-- the lines of the replies so far
abbrev pub invariant-loop-reply : goal.invariant-loop-reply
invariant-loop-reply g l = string_bytes l.text ≡ reply_lines g.R.LineReply.words (take l.reply-index l.replies)
