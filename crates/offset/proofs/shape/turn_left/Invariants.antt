use Rattle.std.proofs.Common.{◌<ℤ◌, ◌≤ℤ◌, pos}
use Rattle.std.specs.List.{All, AllWithin}
use Rattle.plane.specs.Lines.{height_over}
use Rattle.overlay.specs.Areas.{swept}
use Rattle.offset.specs.Shape.{neighbours, sides, turn}
use Rattle.offset.proofs.shape.turn_left.Given as goal

-- it holds so far
abbrev pub invariant-loop-index : goal.invariant-loop-index
invariant-loop-index l = AllWithin (λ two. pos 0 <ℤ turn two.0 two.1) (neighbours (sides l.corners)) 0 l.index
