-- Overlays of groups of shapes, one for each two groups.
use Rattle.std.specs.Prelude.{◌≡◌, ℕ, ◌<◌, List, [], get_or, length}
use Rattle.plane.specs.declared.edge.Edge.{Edge}
use Rattle.plane.specs.declared.point.Point.{Point}
use Rattle.overlay.specs.declared.fill.rules.FillRule.{FillRule}
use Rattle.overlay.specs.declared.fill.rules.Operation.{Operation}
use Rattle.overlay.specs.Overlay.{IsOverlay}
use Rattle.layers.specs.declared.shapes.Groups.{Groups}
use Rattle.layers.specs.declared.shapes.Shapes.{Shapes}
use Rattle.layers.specs.Shapes.{AreNamed, HasGroups, HasShapes}

-- The ends of shapes and groups are right, and there are as many groups on both sides.
abbrev pub HaveLengths : Shapes → Groups → Shapes → Groups → Type 0
HaveLengths subjects subject_groups clips clip_groups =
    HasShapes subjects × HasShapes clips × HasGroups subject_groups × HasGroups clip_groups × (length subject_groups.ends.now ≡ length clip_groups.ends.now)

-- Each place is that of a shape.
abbrev pub HaveShapes : Shapes → Groups → Shapes → Groups → Type 0
HaveShapes subjects subject_groups clips clip_groups = AreNamed (length subjects.shape_ends.now) subject_groups × AreNamed (length clips.shape_ends.now) clip_groups

-- As many as there are subjects and clips, and place by place the polygons of what the operation makes of the two there.
pub record AreOverlays (rule : FillRule) (operation : Operation) (subjects clips : List (List Edge)) (each : List (List (List (List Point)))) : Type 0 where
  pub as_many : length each ≡ length subjects
  pub as_many_clips : length each ≡ length clips
  pub are : (place : ℕ) → place < length each → IsOverlay rule operation (get_or subjects place []) (get_or clips place []) (get_or each place [])
