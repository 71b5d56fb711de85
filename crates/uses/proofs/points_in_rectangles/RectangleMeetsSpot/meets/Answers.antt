use Rattle.std.proofs.Common.{Bool, true, false, rules}
use Rattle.std.specs.Bool.{MatchBool}
use Rattle.uses.specs.Rectangles.{IsBetween}
use Rattle.uses.proofs.points_in_rectangles.RectangleMeetsSpot.meets.Goals as goal

-- where the first of two facts holds, both do exactly where the second does
both_tested : (A B : Type 0) (r : Bool) → A → MatchBool r B (¬ B) → MatchBool r (A × B) (¬ (A × B))
both_tested A B true first second = (first, second)
both_tested A B false first none = λ both. none both.1

pub returns : goal.returns
returns c =
    both_tested (IsBetween c.args.self.left c.args.other.x c.args.self.right) (IsBetween c.args.self.low c.args.other.y c.args.self.high) c.is_between-2.result
    (search rules) (search rules)
