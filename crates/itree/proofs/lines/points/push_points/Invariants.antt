use Rattle.std.proofs.Common.{◌≡◌, ◌++◌, string_bytes, take}
use Rattle.itree.specs.Replies.{point_words}
use Rattle.itree.proofs.lines.points.push_points.Given as goal

-- the words of the points so far
abbrev pub invariant-loop-point : goal.invariant-loop-point
invariant-loop-point g l = string_bytes l.text ≡ string_bytes l.fn.text ++ point_words l.name (take l.point-index l.points)
