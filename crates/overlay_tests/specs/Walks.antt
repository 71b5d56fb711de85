-- Two edges that meet at common ends alone, and walks that aren't back yet.
use Rattle.std.specs.List.{count_by}
use Rattle.std.specs.Prelude.{◌≡◌, ◌⊎◌, ◌+◌, Bool, cond, ℕ, List}
use Rattle.plane.specs.declared.edge.Edge.{Edge}
use Rattle.plane.specs.declared.point.Point.{Point}
use Rattle.plane.specs.Ends.{start_of, end_of}
use Rattle.plane.specs.Meet.Edges.{RationalPoint, IsOf}
use Rattle.noding.specs.Meeting.{MeetAtEnds}

-- Each point of both edges is an end of both, or the two have the same ends.
abbrev pub MeetAtEndsAlone : Edge → Edge → Type 0
MeetAtEndsAlone one other = (point : RationalPoint) → IsOf one point → IsOf other point → MeetAtEnds one other point

-- The edge starts or ends at the whole point.
abbrev pub IsEndAt : Edge → Point → Type 0
IsEndAt edge at = (at ≡ start_of edge) ⊎ (at ≡ end_of edge)

-- 1 where the test is true of the point.
abbrev pub one_if : Bool → ℕ
one_if test = cond test 1 0

-- With an edge from the last point back to the first the edges are closed.
abbrev pub IsOpenWalk : List Edge → Point → Point → Type 0
IsOpenWalk edges first last =
    (test : Point → Bool) → (count_by (λ edge. test (start_of edge)) edges + one_if (test last)) ≡ (count_by (λ edge. test (end_of edge)) edges + one_if (test first))
