-- What the lines of a sweep say, and which of them says the segment that overlaps first.
use Rattle.std.specs.Prelude.{◌≡◌, ℕ, ◌+◌, Bool, true, false, List, [], ◌∷◌, ◌++◌, Option, Some, None, codes, length}
use Rattle.std.specs.List.{filter_map}
use Rattle.itree.specs.Grammar.{Says, LineSays, LinesSay}
use Rattle.itree.specs.declared.lines.sweep.SweepLine.{SweepLine}
use Rattle.itree.specs.declared.lines.sweep.SweepLine.TheVariants as sweep_line
use Rattle.horizontal.specs.Heights.{IsFirstOverlap}
use Rattle.horizontal.specs.declared.Point.{Point}
use Rattle.horizontal.specs.declared.Segment.{Segment}

-- the words say the segment, or the point
abbrev pub SaysSweepLine : List (List ℕ) → SweepLine → Type 0
SaysSweepLine words (sweep_line.Segment segment) = Says words (codes "segment") (segment.x0 ∷ segment.x1 ∷ segment.y ∷ [])
SaysSweepLine words (sweep_line.Point point) = Says words (codes "point") (point.x ∷ point.y ∷ [])

-- the words say neither
abbrev pub SaysNoSweepLine : List (List ℕ) → Type 0
SaysNoSweepLine words = (said : SweepLine) → ¬ (SaysSweepLine words said)

-- the segment, where one is said
abbrev pub segment_in : SweepLine → Option Segment
segment_in (sweep_line.Segment segment) = Some segment
segment_in (sweep_line.Point point) = None

-- the point, where one is said
abbrev pub point_in : SweepLine → Option Point
point_in (sweep_line.Segment segment) = None
point_in (sweep_line.Point point) = Some point

-- whether a segment is said
abbrev pub says_segment : Option SweepLine → Bool
says_segment (Some (sweep_line.Segment segment)) = true
says_segment (Some (sweep_line.Point point)) = false
says_segment None = false

-- the segments that are said, in order
abbrev pub segments_of : List SweepLine → List Segment
segments_of said = filter_map segment_in said

-- the points that are said, in order
abbrev pub points_of : List SweepLine → List Point
points_of said = filter_map point_in said

-- The line of this number, counted from 1, says a segment, and this is the segment's place among those that are said: as many
-- segments are said by the lines before it.
pub record IsSegmentLine (lines : List (List ℕ)) (said : List SweepLine) (place number : ℕ) : Type 0 where
  pub before : List (List ℕ)
  pub line : List ℕ
  pub after : List (List ℕ)
  pub together : lines ≡ before ++ line ∷ after
  pub counted : number ≡ length before + 1
  pub earlier : List SweepLine
  pub segment : Segment
  pub later : List SweepLine
  pub all : said ≡ earlier ++ sweep_line.Segment segment ∷ later
  pub says_before : LinesSay SaysSweepLine before earlier
  pub says_here : LineSays SaysSweepLine line (Some (sweep_line.Segment segment))
  pub placed : place ≡ length (segments_of earlier)

-- the line of this number, counted from 1, says the first segment that overlaps among those that the lines say
pub record IsOverlapLine (lines : List (List ℕ)) (number : ℕ) : Type 0 where
  pub said : List SweepLine
  pub place : ℕ
  pub says : LinesSay SaysSweepLine lines said
  pub overlaps : IsFirstOverlap (segments_of said) place
  pub stands : IsSegmentLine lines said place number
