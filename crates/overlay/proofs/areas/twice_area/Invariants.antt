use Rattle.std.proofs.Common.{◌≡◌, ◌^◌, ◌*◌, drop, ◌+ℤ◌, ◌∷◌}
use Rattle.plane.specs.Meet.Crosses.{IsWithin}
use Rattle.overlay.specs.Fill.Pieces.{total}
use Rattle.noding.specs.Windings.{pieces}
use Rattle.overlay.specs.Areas.{swept, twice_area}
use Rattle.overlay.proofs.areas.twice_area.Given as goal

-- what is summed up, and what the edges left sweep, is twice the area
abbrev pub invariant-loop-to : goal.invariant-loop-to
invariant-loop-to l =
    ((l.sum +ℤ total swept (pieces (l.from ∷ drop l.to-index l.ring))) ≡ twice_area l.ring)
    × IsWithin (l.to-index * 2 ^ 63) l.sum
