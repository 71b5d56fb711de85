use Rattle.std.proofs.Common.{Bool, MatchBool, true, false, ◌&&◌, ◌≤ℤ◌}
use Rattle.plane.specs.declared.pairs.items.Bounds.{Bounds}
use Rattle.plane.specs.Pairs.Bounds.{BoundsMeet}
use Rattle.plane.proofs.pairs.boxes.boxes_meet.Goals as goal

-- boxes share a point that share an x and a y
both : (one other : Bounds) (across up : Bool) → (let meet = (one.left ≤ℤ other.right) × (other.left ≤ℤ one.right) in MatchBool across meet (¬ meet))
    → (let meet = (one.low ≤ℤ other.high) × (other.low ≤ℤ one.high) in MatchBool up meet (¬ meet)) → MatchBool (across && up) (BoundsMeet one other) (¬ (BoundsMeet one other))
both one other true true columns rows = record { left = columns.0; right = columns.1; low = rows.0; high = rows.1 }
both one other true false columns rows = λ meet. rows (meet.low, meet.high)
both one other false up columns rows = λ meet. columns (meet.left, meet.right)

pub returns : goal.returns
returns c = both c.args.one c.args.other c.columns_meet.result c.rows_meet.result c.columns_meet.ensures c.rows_meet.ensures
