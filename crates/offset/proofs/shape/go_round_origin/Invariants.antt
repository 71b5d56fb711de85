use Rattle.std.proofs.Common.{◌<ℤ◌, ◌≤ℤ◌, pos}
use Rattle.std.specs.List.{All, AllWithin}
use Rattle.plane.specs.Lines.{height_over}
use Rattle.overlay.specs.Areas.{swept}
use Rattle.offset.specs.Shape.{neighbours, sides, turn}
use Rattle.offset.proofs.shape.go_round_origin.Given as goal

-- it holds so far
abbrev pub invariant-loop-index : goal.invariant-loop-index
invariant-loop-index l = AllWithin (λ side. pos 0 <ℤ swept side) (sides l.corners) 0 l.index
