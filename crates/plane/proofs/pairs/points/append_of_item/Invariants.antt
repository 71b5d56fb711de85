use Rattle.std.proofs.Common.{◌≡◌, ◌<◌}
use Rattle.plane.specs.Pairs.Points.{Gains, MeetsPart}
use Rattle.plane.proofs.pairs.points.append_of_item.Given as goal

-- the pairs with the points of the rows so far
abbrev pub invariant-loop-row : goal.invariant-loop-row
invariant-loop-row g l = Gains (λ i j. (i ≡ l.fn.place) × MeetsPart (g.X.Meets.Meeting l.fn.item) l.table.points.now l.table.parts.now (λ _ part. part.strip < l.row) j) l.fn.out.items l.out.items
