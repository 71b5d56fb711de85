use Rattle.std.proofs.Common.{◌≡◌, ◌++◌, string_bytes, take}
use Rattle.itree.specs.Replies.{number_words}
use Rattle.itree.proofs.lines.meetings.push_numbers.Given as goal

-- the words of the numbers so far
abbrev pub invariant-loop-number : goal.invariant-loop-number
invariant-loop-number g l = string_bytes l.text ≡ string_bytes l.fn.text ++ number_words l.name (take l.number-index l.numbers)
