use Rattle.std.proofs.Common.{◌≢◌, ◌≤◌, ◌-◌, length}
use Rattle.std.specs.List.{AllWithin}
use Rattle.layers.proofs.lines.joining.place_of.Given as goal

abbrev pub invariant-loop-place : goal.invariant-loop-place
invariant-loop-place l = (l.start ≤ l.place) × (l.place ≤ length l.flags) × AllWithin (λ other. other ≢ l.flag) l.flags l.start l.place

abbrev pub decreases-loop-place : goal.decreases-loop-place
decreases-loop-place l = length l.flags - l.place
