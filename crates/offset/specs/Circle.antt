-- Circles, as far as whole points make them: convex polygons around the origin whose corners are within one circle, and whose
-- sides are outside of a smaller one.
use Rattle.std.specs.Prelude.{ℕ, zero, suc, ◌+◌, ◌-◌, ◌*◌, ◌/◌, ◌%◌, ◌<◌, ◌≤◌, ◌≡◌, ◌⊎◌, min, ℤ, pos, ◌+ℤ◌, ◌-ℤ◌, ◌*ℤ◌, ◌≤ℤ◌, ◌<ℤ◌, List, [], ◌∷◌, All, get_or, length}
use Rattle.std.specs.Prelude.{unsigned_abs}
use Rattle.plane.specs.declared.edge.Edge.{Edge}
use Rattle.plane.specs.declared.point.Point.{Point}
use Rattle.overlay.specs.Areas.{swept}
use Rattle.offset.specs.Shape.{IsConvexAroundOrigin, sides}

-- The point is no farther from the origin than the radius.
abbrev pub IsWithinCircle : ℤ → Point → Type 0
IsWithinCircle radius point = ((point.x *ℤ point.x) +ℤ (point.y *ℤ point.y)) ≤ℤ (radius *ℤ radius)

-- the square of how long the side is
abbrev pub square_length : Edge → ℤ
square_length side = ((side.x1 -ℤ side.x0) *ℤ (side.x1 -ℤ side.x0)) +ℤ ((side.y1 -ℤ side.y0) *ℤ (side.y1 -ℤ side.y0))

-- No point of the side's line is nearer to the origin than the radius: what the side sweeps is its length times how far the line
-- is.
abbrev pub IsOutsideCircle : ℤ → Edge → Type 0
IsOutsideCircle radius side = ((radius *ℤ radius) *ℤ square_length side) ≤ℤ (swept side *ℤ swept side)

-- The square root of the number, rounded down.
pub record IsRoot (number root : ℕ) : Type 0 where
  pub from : root * root ≤ number
  pub below : number < (root + 1) * (root + 1)

-- How far from the axis that it begins at a circle's eighth has come after so many of its parts, rounded down. Where t is the
-- tangent of half an angle, 2 t / (1 + t * t) is its sine: here t goes up to 29 / 70, which is that of an eighth.
abbrev pub across : ℕ → ℕ → ℕ → ℕ
across radius parts step =
    (radius * (2 * ((29 * step) * (70 * parts)))) / (((70 * parts) * (70 * parts)) + ((29 * step) * (29 * step)))

-- The point that far from the axis on which it has the first number, the last one within the circle.
abbrev pub IsAcross : ℕ → ℕ → ℤ → ℤ → Type 0
IsAcross radius away x y = (y ≡ pos away) × ((along : ℕ) × (x ≡ pos along) × IsRoot ((radius * radius) - (away * away)) along)

-- The corner of this number in the first quarter, from the x axis on: in the middle the last point of the diagonal within the
-- circle, before it those of an eighth, and behind it those of the other eighth, which mirrors it.
abbrev pub IsFirstCorner : ℕ → ℕ → ℕ → Point → Type 0
IsFirstCorner radius parts step point =
    ((step < parts) × IsAcross radius (across radius parts step) point.x point.y)
    ⊎ (((step ≡ parts) × ((half : ℕ) × (point.x ≡ pos half) × (point.y ≡ pos half) × IsRoot ((radius * radius) / 2) half))
    ⊎ ((parts < step) × IsAcross radius (across radius parts ((2 * parts) - step)) point.y point.x))

-- the point after so many quarter turns, up to three
abbrev pub turned : ℕ → Point → Point
turned zero point = point
turned (suc zero) point = record { x = pos 0 -ℤ point.y; y = point.x }
turned (suc (suc zero)) point = record { x = pos 0 -ℤ point.x; y = pos 0 -ℤ point.y }
turned (suc (suc (suc _))) point = record { x = point.y; y = pos 0 -ℤ point.x }

-- The corner of this number, of those of four quarters.
abbrev pub IsCorner : ℕ → ℕ → ℕ → Point → Type 0
IsCorner radius parts index point =
    (first : Point) × IsFirstCorner radius parts (index % (2 * parts)) first × (point ≡ turned (index / (2 * parts)) first)

-- Eight for each part of an eighth.
pub record AreCorners (radius parts : ℕ) (corners : List Point) : Type 0 where
  pub count : length corners ≡ 8 * parts
  pub each : (index : ℕ) (d : Point) → index < 8 * parts → IsCorner radius parts index (get_or corners index d)

-- The four points of the axes that are as far from the origin as the radius.
abbrev pub diamond : ℤ → List Point
diamond radius =
    record { x = radius; y = pos 0 } ∷ record { x = pos 0; y = radius } ∷ record { x = pos 0 -ℤ radius; y = pos 0 } ∷ record { x = pos 0; y = pos 0 -ℤ radius } ∷ []

-- As many parts as there is room for, up to 1,024, and to the root of a sixth of the radius: with more of them rounding would show.
abbrev pub IsFinest : ℕ → ℕ → ℕ → Type 0
IsFinest radius most parts = (root : ℕ) × IsRoot (radius / 6) root × (parts ≡ min (min (most / 8) 1024) root)

-- The corners of so many parts, or a diamond where these aren't convex around the origin, as where there are none.
abbrev pub AreFinest : ℕ → ℕ → List Point → Type 0
AreFinest radius parts corners =
    AreCorners radius parts corners
    ⊎ ((corners ≡ diamond (pos radius)) × ((other : List Point) × AreCorners radius parts other × (¬ (IsConvexAroundOrigin other))))

-- The square of how far the side's line is from the origin, rounded down: by what it sweeps, which is its length times that.
pub record IsDistance (side : Edge) (square : ℕ) : Type 0 where
  pub from : (pos square *ℤ square_length side) ≤ℤ (swept side *ℤ swept side)
  pub below : (swept side *ℤ swept side) <ℤ (pos (square + 1) *ℤ square_length side)

-- The greatest whole number up to the radius that no side is nearer to the origin than.
pub record IsInner (radius : ℤ) (sides : List Edge) (inner : ℤ) : Type 0 where
  pub outside : All (IsOutsideCircle inner) sides
  pub from : pos 0 ≤ℤ inner
  pub upto : inner ≤ℤ radius
  pub most : inner <ℤ radius → ¬ (All (IsOutsideCircle (inner +ℤ pos 1)) sides)

-- A convex polygon of at most so many corners around the origin, counterclockwise, between the circle of the radius and that of
-- the inner one, which is the greatest such number up to the radius.
pub record IsCircle (radius : ℤ) (most : ℕ) (corners : List Point) (inner : ℤ) : Type 0 where
  pub some : pos 1 ≤ℤ radius
  pub room : 4 ≤ most
  pub convex : IsConvexAroundOrigin corners
  pub few : length corners ≤ most
  pub within : All (IsWithinCircle radius) corners
  pub reach : IsInner radius (sides corners) inner
  pub finest : (parts : ℕ) × IsFinest (unsigned_abs radius) most parts × AreFinest (unsigned_abs radius) parts corners

-- The corners of a square with sides along the axes, so far from the origin.
abbrev pub square_of : ℤ → List Point
square_of r =
    record { x = pos 0 -ℤ r; y = pos 0 -ℤ r } ∷ record { x = r; y = pos 0 -ℤ r } ∷ record { x = r; y = r } ∷ record { x = pos 0 -ℤ r; y = r } ∷ []

-- Those of an octagon, by how far its sides along the axes are from the origin, and by half their length.
abbrev pub octagon_of : ℤ → ℤ → List Point
octagon_of r a =
    record { x = r; y = pos 0 -ℤ a } ∷ record { x = r; y = a } ∷ record { x = a; y = r } ∷ record { x = pos 0 -ℤ a; y = r }
    ∷ record { x = pos 0 -ℤ r; y = a } ∷ record { x = pos 0 -ℤ r; y = pos 0 -ℤ a } ∷ record { x = pos 0 -ℤ a; y = pos 0 -ℤ r } ∷ record { x = a; y = pos 0 -ℤ r } ∷ []
