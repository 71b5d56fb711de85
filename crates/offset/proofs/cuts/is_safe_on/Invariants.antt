use Rattle.std.proofs.Common.{ℕ, length, ◌+◌, ◌<◌}
use Rattle.offset.specs.Cuts.{IsGentle, LieRight, edge_at, tips_of}
use Rattle.offset.specs.Shape.{sides}
use Rattle.offset.proofs.cuts.is_safe_on.Given as goal

-- the edges up to here have the points on their right, and the corners between them are gentle
abbrev pub invariant-loop-step : goal.invariant-loop-step
invariant-loop-step l = record {
  inside : (l.index + 1) + l.step < length l.ring;
  right : (place : ℕ) → l.index < place → place < (l.index + 1) + l.step → LieRight (edge_at (sides l.ring) place) (tips_of l.tips);
  gentle : (place : ℕ) → l.index < place → place < (l.index + 1) + l.step → IsGentle l.corners (edge_at (sides l.ring) place) (edge_at (sides l.ring) (place + 1));
}
