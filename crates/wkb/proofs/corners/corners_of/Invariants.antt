use Rattle.std.proofs.Common.{List, [], ◌-◌, length}
use Rattle.grid.specs.Fit.{AreFinite}
use Rattle.grid.specs.declared.position.Position.{Position}
use Rattle.wkb.specs.Corners.{AppendsPositions}
use Rattle.wkb.proofs.corners.corners_of.Given as goal

abbrev pub invariant-loop-shape : goal.invariant-loop-shape
invariant-loop-shape g l = record {
  finite : AreFinite l.positions.items;
  so_far : (positions : List Position) → AppendsPositions l.most_nested l.bytes l.offsets (length l.offsets - 1 - l.shape) l.shape l.positions.items positions
      → AppendsPositions l.most_nested l.bytes l.offsets (length l.offsets - 1) 0 [] positions;
}
