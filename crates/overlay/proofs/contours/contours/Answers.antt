use Rattle.std.proofs.Common.{◌≡◌, ◌++◌, List, OnOk, length, subst, sym}
use Rattle.std.specs.List.{flat_map}
use Rattle.plane.specs.declared.edge.Edge.{Edge}
use Rattle.plane.specs.declared.point.Point.{Point}
use Rattle.noding.specs.Offsets.{offsets}
use Rattle.noding.specs.Windings.{IsClosed}
use Rattle.overlay.specs.Contours.Rings.{AreContours}
use Rattle.overlay.specs.Sides.{AreBorders, KeepSides}
use Rattle.overlay.proofs.contours.contours.Goals as goal

pub contours_in_place-requires : goal.contours_in_place-requires
contours_in_place-requires g c = subst (λ (edges : List Edge). IsClosed edges) (sym c.in_ok-list.ensures.items) c.requires

pub returns-clause-ok : goal.returns-clause-ok
returns-clause-ok g c =
    subst (λ (edges : List Edge). OnOk c.contours_in_place.result ((rings : List (List Point)) × AreContours edges rings × (c.contours_in_place.new.points.items ≡ c.args.points.now.items ++ flat_map (λ ring. ring) rings)
    × (c.contours_in_place.new.ring_ends.items ≡ c.args.ring_ends.now.items ++ offsets (length c.args.points.now.items) rings) × (AreBorders edges → KeepSides edges rings)))
    c.in_ok-list.ensures.items c.contours_in_place.ensures.ok
