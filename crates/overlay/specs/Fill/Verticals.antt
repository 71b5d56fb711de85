-- The vertical edges that close edges which aren't vertical and bound a region.
use Rattle.std.specs.Prelude.{◌≡◌, ◌≢◌, ◌⊎◌, ◌&&◌, cond, List, [], ◌∷◌, ◌++◌, Option, Some, None, option_to_list, All, ℤ, pos, negsuc, ◌+ℤ◌, ◌*ℤ◌, ◌≤ℤ◌}
use Rattle.std.specs.Int.Signed.{lt_z}
use Rattle.std.specs.Ordering.{int_eq}
use Rattle.plane.specs.declared.edge.Edge.{Edge}
use Rattle.plane.specs.declared.point.Point.{Point}
use Rattle.plane.specs.Meet.Edges.{RationalPoint}
use Rattle.overlay.specs.declared.fill.verticals.End.{End}
use Rattle.overlay.specs.Fill.Filled.{AreDistinct, AreNoded, IsNextInColumn}
use Rattle.plane.specs.Ends.{edge_between}
use Rattle.noding.specs.Windings.{winding, IsClosed}

-- Edges that aren't vertical and bound a region: they meet only at common ends, no two have the same, and they wind once around
-- the points of the region, and around no others; from some height on no point is of it.
pub record BoundRegion (sloped : List Edge) : Type 0 where
  pub slanted : All (λ edge. edge.x1 ≢ edge.x0) sloped
  pub noded : AreNoded sloped
  pub distinct : AreDistinct sloped
  pub winds : (point : RationalPoint) → (winding sloped point ≡ pos 0) ⊎ (winding sloped point ≡ pos 1)
  pub bound : ℤ
  pub outside : (point : RationalPoint) → (pos point.n *ℤ bound) ≤ℤ point.y → winding sloped point ≡ pos 0

-- The vertical edges that close them. They wind around nothing.
pub record AreVerticalsOf (sloped verticals : List Edge) : Type 0 where
  pub closed : IsClosed (sloped ++ verticals)
  pub noded : AreNoded (sloped ++ verticals)
  pub distinct : AreDistinct (sloped ++ verticals)
  pub next : All (IsNextInColumn (sloped ++ verticals)) verticals
  pub winds : (point : RationalPoint) → winding (sloped ++ verticals) point ≡ winding sloped point

-- ---- for private contracts

-- The ends of an edge.
abbrev pub starting : Edge → End
starting edge = record { x = edge.x0; y = edge.y0; change = negsuc 0 }

abbrev pub ending : Edge → End
ending edge = record { x = edge.x1; y = edge.y1; change = pos 1 }

abbrev pub both_ends : Edge → List End
both_ends edge = starting edge ∷ ending edge ∷ []

-- the one of them that isn't further right, and the other one
abbrev pub left_end : Edge → End
left_end edge = cond (lt_z edge.x1 edge.x0) (ending edge) (starting edge)

abbrev pub right_end : Edge → End
right_end edge = cond (lt_z edge.x1 edge.x0) (starting edge) (ending edge)

abbrev pub point_of_end : End → Point
point_of_end end = record { x = end.x; y = end.y }

-- no end: it changes nothing
abbrev pub before_all : End
before_all = record { x = pos 0; y = pos 0; change = pos 0 }

-- The vertical edge between two ends: up where the sum is above 0, down where it is below, and none where it is 0 or the ends
-- are at one point.
abbrev pub vertical_between : ℤ → End → End → Option Edge
vertical_between sum low high =
    cond (int_eq low.x high.x && int_eq low.y high.y) None
    (cond (lt_z (pos 0) sum) (Some (edge_between (point_of_end low) (point_of_end high)))
    (cond (lt_z sum (pos 0)) (Some (edge_between (point_of_end high) (point_of_end low))) None))

-- The vertical edges between each end and the one before it, where the sum so far, and then each end's change, is added up.
abbrev pub verticals_between : ℤ → End → List End → List Edge
verticals_between sum last [] = []
verticals_between sum last (end ∷ ends) = option_to_list (vertical_between sum last end) ++ verticals_between (sum +ℤ end.change) end ends
