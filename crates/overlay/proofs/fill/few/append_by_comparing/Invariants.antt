use Rattle.std.proofs.Common.{◌≡◌, ◌++◌, ◌-◌, ◌<◌, take, length}
use Rattle.overlay.specs.Fill.Few.{AreActive}
use Rattle.overlay.specs.Fill.Rules.{is_result}
use Rattle.overlay.specs.Fill.Sweep.{below_of, kept_of, plus}
use Rattle.overlay.proofs.KeptLemmas.Begun.{piece_at}
use Rattle.overlay.proofs.fill.few.append_by_comparing.Given as goal

-- Of those so far the ones that go on are active where the next one begins, the counts are those above the last one, and what is
-- kept of those so far stands there.
abbrev pub invariant-loop-place : goal.invariant-loop-place
invariant-loop-place g l = record {
  active : l.place < length l.pieces → AreActive (piece_at l.pieces l.place).edge.x0 (take l.place l.pieces) l.active.items;
  above : 0 < l.place → l.above ≡ plus (below_of l.pieces (piece_at l.pieces (l.place - 1))) (piece_at l.pieces (l.place - 1));
  kept : l.out.items ≡ l.fn.out.items ++ kept_of (λ counts. is_result l.choice.rule l.choice.operation counts.subject counts.clip) l.pieces (take l.place l.pieces);
}
