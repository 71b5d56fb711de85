use Rattle.std.proofs.Common.{◌≡◌, List, length, map, take}
use Rattle.std.specs.List.{flat_map}
use Rattle.plane.specs.declared.point.Point.{Point}
use Rattle.overlay.specs.Boundary.{AllSome}
use Rattle.noding.specs.Offsets.{offsets}
use Rattle.noding.specs.Windings.{pieces}
use Rattle.layers.proofs.lines.breaking.counts_of.Given as goal

abbrev pub invariant-loop-number : goal.invariant-loop-number
invariant-loop-number g l =
    (chains : List (List Point)) → l.chain_ends ≡ offsets 0 chains → AllSome chains → l.counts.items ≡ map (λ number. length (flat_map pieces (take number chains))) (take l.number-index l.numbers)
