use Rattle.std.proofs.Common.{◌≡◌, List, length, string_bytes, take}
use Rattle.std.specs.List.{flat_map}
use Rattle.itree.specs.Replies.{polygon_lines}
use Rattle.noding.specs.Offsets.{AreJoined}
use Rattle.plane.specs.declared.point.Point.{Point}
use Rattle.overlay.specs.Polygons.{rings_of}
use Rattle.itree.proofs.lines.rings.polygon_text.Given as goal

-- the lines of the polygons so far, and the next one begins behind their rings
abbrev pub invariant-loop-end : goal.invariant-loop-end
invariant-loop-end g l =
    (all : List (List (List Point))) → AreJoined (rings_of all) l.polygons.points.items l.polygons.ring_ends.items
    → AreJoined all (rings_of all) l.polygons.polygon_ends.items
    → (string_bytes l.text ≡ flat_map polygon_lines (take l.end-index all)) × (l.first ≡ length (rings_of (take l.end-index all)))
