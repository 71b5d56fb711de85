use Rattle.std.proofs.Common.{◌≡◌, ◌++◌, ◌≤ℤ◌, ◌-ℤ◌, pos, drop}
use Rattle.overlay.specs.Fill.Verticals.{before_all, verticals_between}
use Rattle.plane.specs.Lists.{Extends}
use Rattle.overlay.proofs.fill.verticals.push_verticals.Given as goal

-- the verticals so far are appended, and the others are those from here on; the sum is at most as many as there were ends
abbrev pub invariant-loop-end : goal.invariant-loop-end
invariant-loop-end g l =
    (l.edges.items ++ verticals_between l.sum l.last (drop l.end-index l.ends) ≡ l.fn.edges.items ++ verticals_between (pos 0) before_all l.fn.ends)
    × Extends l.fn.edges.items l.edges.items
    × ((pos 0 -ℤ pos l.end-index) ≤ℤ l.sum) × (l.sum ≤ℤ pos l.end-index)
