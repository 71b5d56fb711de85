use Rattle.std.proofs.Common.{◌≡◌, ◌++◌, take}
use Rattle.std.specs.List.{flat_map}
use Rattle.grid.specs.Fit.{AreFinite}
use Rattle.wkb.specs.Coordinates.{positions_of}
use Rattle.wkb.proofs.corners.append_rings.Given as goal

abbrev pub invariant-loop-ring : goal.invariant-loop-ring
invariant-loop-ring g l = record {
  finite : AreFinite l.positions.items;
  so_far : l.positions.items ≡ l.fn.positions.items ++ flat_map (positions_of l.bytes) (take l.ring-index l.rings);
}
