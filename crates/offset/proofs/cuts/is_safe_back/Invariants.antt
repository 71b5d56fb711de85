use Rattle.std.proofs.Common.{ℕ, ◌+◌, ◌<◌, ◌≤◌}
use Rattle.offset.specs.Cuts.{IsGentle, LieRight, edge_at, tips_of}
use Rattle.offset.specs.Shape.{sides}
use Rattle.offset.proofs.cuts.is_safe_back.Given as goal

-- the edges back to here have the points on their right, and the corners between them are gentle
abbrev pub invariant-loop-step : goal.invariant-loop-step
invariant-loop-step l = record {
  upto : l.step ≤ l.index;
  right : (place : ℕ) → l.index < place + l.step → place ≤ l.index → LieRight (edge_at (sides l.ring) place) (tips_of l.tips);
  gentle : (place : ℕ) → l.index ≤ place + l.step → place < l.index → IsGentle l.corners (edge_at (sides l.ring) place) (edge_at (sides l.ring) (place + 1));
}
