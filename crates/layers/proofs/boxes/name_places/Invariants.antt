use Rattle.std.proofs.Common.{◌≡◌, ◌++◌, ℕ, map, take, drop}
use Rattle.layers.specs.Boxed.{place_in}
use Rattle.layers.proofs.boxes.name_places.Given as goal

-- the pairs so far are named by places, and the rest is as it was
abbrev pub invariant-loop-pair : goal.invariant-loop-pair
invariant-loop-pair l = l.pairs ≡ map (λ (pair : ℕ × ℕ). (place_in l.boxes pair.0, place_in l.others pair.1)) (take l.pair-index l.fn.pairs) ++ drop l.pair-index l.fn.pairs
