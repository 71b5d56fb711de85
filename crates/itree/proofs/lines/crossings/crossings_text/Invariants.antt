use Rattle.std.proofs.Common.{◌≡◌, string_bytes, take}
use Rattle.itree.specs.Replies.{crossing_lines}
use Rattle.itree.specs.Told.{lists_of}
use Rattle.itree.proofs.lines.crossings.crossings_text.Given as goal

-- the lines of the replies so far
abbrev pub invariant-loop-place : goal.invariant-loop-place
invariant-loop-place g l = string_bytes l.text ≡ crossing_lines (take l.place l.said) (take l.place (lists_of l.replies))
