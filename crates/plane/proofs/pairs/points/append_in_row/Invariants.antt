use Rattle.std.proofs.Common.{◌≡◌, ◌<◌}
use Rattle.plane.specs.Pairs.Points.{Gains, MeetsPart}
use Rattle.plane.proofs.pairs.points.append_in_row.Given as goal

-- the pairs with the points so far that stand in the row
abbrev pub invariant-loop-next : goal.invariant-loop-next
invariant-loop-next g l = Gains (λ i j. (i ≡ l.fn.place) × MeetsPart (g.X.Meets.Meeting l.fn.item) l.table.points.now l.table.parts.now (λ at part. (at < l.next) × (part.strip ≡ l.fn.row)) j) l.fn.out.items l.out.items
