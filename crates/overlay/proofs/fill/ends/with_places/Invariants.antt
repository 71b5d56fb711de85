use Rattle.std.proofs.Common.{◌≡◌, ◌<◌, ℕ, length, get_or}
use Rattle.overlay.specs.Fill.Handed.{active_at, no_end}
use Rattle.overlay.proofs.fill.ends.with_places.Given as goal

-- those so far stand at their places
abbrev pub invariant-loop-place : goal.invariant-loop-place
invariant-loop-place g l = (length l.actives.items ≡ l.place) × ((i : ℕ) → i < l.place → get_or l.actives.items i no_end ≡ active_at l.pieces i)
