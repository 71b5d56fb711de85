use Rattle.std.proofs.Common.{◌≡◌, ◌-◌, ◌++◌, map, take, drop, ℕ}
use Rattle.plane.proofs.pairs.between.subtract_from_all.Given as goal

-- the pairs so far are numbered anew, and the rest is as it was
abbrev pub invariant-loop-pair : goal.invariant-loop-pair
invariant-loop-pair l = l.pairs ≡ map (λ (pair : ℕ × ℕ). (pair.0, pair.1 - l.count)) (take l.pair-index l.fn.pairs) ++ drop l.pair-index l.fn.pairs
