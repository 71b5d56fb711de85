-- What a sweep over horizontal segments answers, and when two segments overlap.
use Rattle.std.specs.Prelude.{◌≡◌, ◌⊎◌, ℕ, ◌<◌, ℤ, ◌<ℤ◌, ◌≤ℤ◌, List, Option, Some, None, All, AllPairs, Any}
use Rattle.event_queue.specs.Queue.{StandsAt}
use Rattle.horizontal.specs.declared.Point.{Point}
use Rattle.horizontal.specs.declared.Segment.{Segment}

-- the segment covers this x; one that ends before it begins covers none
abbrev pub Covers : Segment → ℤ → Type 0
Covers segment x = (segment.x0 ≤ℤ x) × (x ≤ℤ segment.x1)

-- the segment covers the point's x, at a height that is at most the point's
abbrev pub IsUnder : Point → Segment → Type 0
IsUnder point segment = Covers segment point.x × (segment.y ≤ℤ point.y)

-- the greatest height of the segments under the point, or none where no segment is under it
abbrev pub IsHeightBelow : List Segment → Point → Option ℤ → Type 0
IsHeightBelow segments point (Some y) =
    Any (λ segment. IsUnder point segment × (segment.y ≡ y)) segments
    × All (λ segment. IsUnder point segment → segment.y ≤ℤ y) segments
IsHeightBelow segments point None = All (λ segment. ¬ (IsUnder point segment)) segments

-- two segments collide where they have one height and both cover some x
abbrev pub Collide : Segment → Segment → Type 0
Collide first second = (first.y ≡ second.y) × ((x : ℤ) × Covers first x × Covers second x)

-- no two segments of the list collide
abbrev pub NoneCollide : List Segment → Type 0
NoneCollide segments = AllPairs (λ first second. ¬ (Collide first second)) segments

-- a segment and its place in a list
abbrev pub Placed : Type 0
Placed = ℕ × Segment

-- the segment stands at its place in the list
abbrev pub StandsIn : List Segment → Placed → Type 0
StandsIn segments placed = StandsAt segments placed.0 placed.1

-- the first comes before the second in the order of where they begin, and of their places where they begin at one x
abbrev pub ComesBefore : Placed → Placed → Type 0
ComesBefore first second = (first.1.x0 <ℤ second.1.x0) ⊎ ((first.1.x0 ≡ second.1.x0) × (first.0 < second.0))

-- the segment collides with one of the list that comes before it
abbrev pub Overlaps : List Segment → Placed → Type 0
Overlaps segments placed = (earlier : Placed) × StandsIn segments earlier × ComesBefore earlier placed × Collide earlier.1 placed.1

-- the segment at this place is the first of the list that overlaps
pub record IsFirstOverlap (segments : List Segment) (place : ℕ) : Type 0 where
  pub segment : Segment
  pub stands : StandsIn segments (place, segment)
  pub overlaps : Overlaps segments (place, segment)
  pub first : (earlier : Placed) → StandsIn segments earlier → ComesBefore earlier (place, segment) → ¬ (Overlaps segments earlier)
