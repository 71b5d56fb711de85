-- The overlay of a pair of groups. For private contracts.
use Rattle.std.specs.Prelude.{List}
use Rattle.plane.specs.declared.point.Point.{Point}
use Rattle.overlay.specs.Overlay.{IsOverlay}
use Rattle.overlay.specs.Polygons.{Appends}
use Rattle.overlay.specs.declared.rings.Polygons.{Polygons}
use Rattle.layers.specs.Gathered.{HasGroup, group_edges}
use Rattle.layers.specs.declared.gathered.GroupPair.{GroupPair}

-- Both groups are right.
abbrev pub HasPair : GroupPair → Type 0
HasPair pair = HasGroup pair.subject × HasGroup pair.clip

-- Behind the polygons before stand those of what the operation makes of the two groups.
abbrev pub AppendsOverlay : {A : Type 0} → GroupPair → Polygons A → Polygons A → Type 0
AppendsOverlay pair before after = (polygons : List (List (List Point))) × IsOverlay pair.rule pair.operation (group_edges pair.subject) (group_edges pair.clip) polygons × Appends polygons before after
