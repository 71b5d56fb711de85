use Rattle.std.proofs.Common.{◌≡◌, ◌++◌, string_bytes, take}
use Rattle.itree.specs.Replies.{value_words}
use Rattle.itree.proofs.lines.segments.push_values.Given as goal

-- the words of the values so far
abbrev pub invariant-loop-value : goal.invariant-loop-value
invariant-loop-value g l = string_bytes l.text ≡ string_bytes l.fn.text ++ value_words (take l.value-index l.values)
