use Rattle.std.proofs.Common.{◌<◌, ◌-◌, ◌++◌, ◌∷◌, [], pos, length, get_or, take}
use Rattle.plane.specs.declared.point.Point.{Point}
use Rattle.noding.specs.Windings.{pieces}
use Rattle.layers.specs.Chains.{AppendsChains}
use Rattle.layers.proofs.around.chains.append_ring.Given as goal

-- the pieces up to the start are those of the chains so far
abbrev pub invariant-loop-start : goal.invariant-loop-start
invariant-loop-start g l =
    let zero : Point = record { x = pos 0; y = pos 0 } in
    (l.start < length l.ring) × AppendsChains l.shape (pieces (take l.start l.ring ++ get_or l.ring l.start zero ∷ [])) l.fn.chains.items l.chains.items

abbrev pub decreases-loop-start : goal.decreases-loop-start
decreases-loop-start g l = length l.ring - l.start
