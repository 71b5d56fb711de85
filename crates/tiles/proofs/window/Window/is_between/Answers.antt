use Rattle.std.proofs.Common.{Bool, true, false, not}
use Rattle.std.specs.Bool.{MatchBool, OnTrue}
use Rattle.tiles.proofs.window.Window.is_between.Goals as goal

but-not : (r : Bool) (A B : Type 0) → A → MatchBool r B (¬ B) → OnTrue (not r) (A × ¬ B)
but-not true A B a b = tt
but-not false A B a none = (a, none)

pub returns-then-are_along_side : goal.returns-then-are_along_side
returns-then-are_along_side c = but-not c.are_beyond.result _ _ c.if-are_along_side.ensures c.are_beyond.ensures
