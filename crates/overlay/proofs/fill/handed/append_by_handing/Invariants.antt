use Rattle.std.proofs.Common.{◌≡◌, ◌++◌, ◌-◌, ◌<◌, ℕ, get_or, length, take}
use Rattle.overlay.specs.Fill.Handed.{HasLooked}
use Rattle.overlay.specs.Fill.Rules.{is_result}
use Rattle.overlay.specs.Fill.Sweep.{below_of, kept_of, nothing, plus}
use Rattle.overlay.proofs.KeptLemmas.Begun.{piece_at}
use Rattle.overlay.proofs.fill.handed.append_by_handing.Given as goal

-- The counts below each of those so far are noted, of those that have been looked at the ones that go on are at hand, the counts
-- are those above the last one, and what is kept of those so far stands there.
abbrev pub invariant-loop-place : goal.invariant-loop-place
invariant-loop-place g l = record {
  size : length l.below.items ≡ l.place;
  below : (i : ℕ) → i < l.place → get_or l.below.items i nothing ≡ below_of l.pieces (piece_at l.pieces i);
  looked : l.place < length l.pieces → HasLooked (piece_at l.pieces l.place).edge.x0 (take l.place l.pieces) l.looked.count l.looked.live.items;
  above : 0 < l.place → l.above ≡ plus (below_of l.pieces (piece_at l.pieces (l.place - 1))) (piece_at l.pieces (l.place - 1));
  kept : l.out.items ≡ l.fn.out.items ++ kept_of (λ counts. is_result l.choice.rule l.choice.operation counts.subject counts.clip) l.pieces (take l.place l.pieces);
}
