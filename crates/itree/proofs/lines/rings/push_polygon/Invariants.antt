use Rattle.std.proofs.Common.{◌≡◌, ◌++◌, List, string_bytes}
use Rattle.std.specs.List.{between}
use Rattle.itree.specs.Replies.{polygon_lines}
use Rattle.noding.specs.Offsets.{AreJoined}
use Rattle.plane.specs.declared.point.Point.{Point}
use Rattle.itree.proofs.lines.rings.push_polygon.Given as goal

-- the lines of the rings so far
abbrev pub invariant-loop-place : goal.invariant-loop-place
invariant-loop-place g l =
    (rings : List (List Point)) → AreJoined rings l.points l.ends
    → string_bytes l.text ≡ string_bytes l.fn.text ++ polygon_lines (between l.first l.place rings)
