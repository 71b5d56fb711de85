use Rattle.std.proofs.Common.{List, take}
use Rattle.std.specs.List.{flat_map}
use Rattle.plane.specs.declared.point.Point.{Point}
use Rattle.noding.specs.Offsets.{AreJoined}
use Rattle.overlay.specs.Contours.Rings.{ring_edges}
use Rattle.overlay.specs.Rings.{rings_of}
use Rattle.tiles.specs.Tile.{AreInPlace}
use Rattle.tiles.proofs.near.near_rings.Given as goal

-- the rings before this one are cropped
abbrev pub invariant-loop-ring : goal.invariant-loop-ring
invariant-loop-ring g l =
    (cropped : List (List Point)) × AreJoined cropped l.points.items l.ends.items
    × AreInPlace l.fn.window (flat_map ring_edges (take l.ring (rings_of l.fn.rings.points.now 0 l.fn.rings.ends.now))) (flat_map ring_edges cropped)
