use Rattle.std.proofs.Common.{◌≡◌, ◌++◌, List, length}
use Rattle.std.specs.List.{flat_map}
use Rattle.plane.specs.declared.point.Point.{Point}
use Rattle.noding.specs.Offsets.{offsets}
use Rattle.overlay.specs.Polygons.{Appends}
use Rattle.layers.specs.Shapes.{edges_of_groups}
use Rattle.layers.proofs.EachLemmas.{AreOverlaysUpto}
use Rattle.layers.proofs.each.append_each.Given as goal

-- the overlays of the groups so far are appended, and where each stops
abbrev pub invariant-loop-at : goal.invariant-loop-at
invariant-loop-at g l =
    (each : List (List (List (List Point))))
    × AreOverlaysUpto l.rule l.operation (edges_of_groups l.subjects.shapes l.subjects.groups) (edges_of_groups l.clips.shapes l.clips.groups) l.at each
    × Appends (flat_map (λ polygons. polygons) each) l.fn.out l.out
    × (l.ends.items ≡ l.fn.ends.items ++ offsets (length l.fn.out.polygon_ends.items) each)
