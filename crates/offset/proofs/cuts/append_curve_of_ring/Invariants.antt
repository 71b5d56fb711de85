use Rattle.std.proofs.Common.{◌++◌, ◌<◌, ◌≡◌, Bool, true, ℕ, List, get_or, length, map, take}
use Rattle.std.specs.List.{flat_map}
use Rattle.plane.specs.declared.edge.Edge.{Edge}
use Rattle.offset.specs.Cuts.{IsSafe, curve_of_two}
use Rattle.offset.specs.Shape.{neighbours, sides}
use Rattle.offset.proofs.cuts.append_curve_of_ring.Given as goal

-- the joints so far, of which those that are cut are safe
abbrev pub invariant-loop-index : goal.invariant-loop-index
invariant-loop-index g l =
    (joints : List ((Edge × Edge) × Bool))
    × (map (λ joint. joint.0) joints ≡ take l.index (neighbours (sides l.ring)))
    × ((place : ℕ) (d : (Edge × Edge) × Bool) → place < length joints → (get_or joints place d).1 ≡ true → IsSafe l.corners (sides l.ring) place)
    × (l.edges.items ≡ (l.fn.edges.items ++ flat_map (curve_of_two l.corners) joints))
