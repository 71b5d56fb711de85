-- What a fill is: closed edges that wind once around the points inside, and around no others.
use Rattle.std.specs.Prelude.{◌≡◌, ◌≢◌, ◌⊎◌, ◌++◌, List, All, AllPairs, Contains, ℤ, ◌<ℤ◌}
use Rattle.std.specs.Int.{int_min, int_max}
use Rattle.plane.specs.declared.edge.Edge.{Edge}
use Rattle.plane.specs.Meet.Edges.{RationalPoint, IsOf}
use Rattle.overlay.specs.declared.fill.rules.Choice.{Choice}
use Rattle.overlay.specs.declared.fill.rules.FillRule.{FillRule}
use Rattle.overlay.specs.declared.fill.rules.Operation.{Operation}
use Rattle.overlay.specs.Fill.Rules.{is_result}
use Rattle.noding.specs.Chains.{IsEnd}
use Rattle.noding.specs.Meeting.{MeetAtEnds}
use Rattle.plane.specs.Ends.{reversed}
use Rattle.noding.specs.Windings.{winding, IsClosed, count}

-- Each point of two of the edges is an end of both, or the two have the same ends.
abbrev pub AreNoded : List Edge → Type 0
AreNoded edges = (one other : Edge) (point : RationalPoint) → Contains edges one → Contains edges other → IsOf one point → IsOf other point → MeetAtEnds one other point

-- They are one edge, or one is the other from its end to its start.
abbrev pub HaveSameEnds : Edge → Edge → Type 0
HaveSameEnds one other = (one ≡ other) ⊎ (one ≡ reversed other)

-- No two of the edges have the same ends.
abbrev pub AreDistinct : List Edge → Type 0
AreDistinct edges = AllPairs (λ one other. ¬ (HaveSameEnds one other)) edges

-- One of the edges that isn't vertical begins or ends at (x, y).
abbrev pub IsEndOfSloped : List Edge → ℤ → ℤ → Type 0
IsEndOfSloped edges x y = (edge : Edge) × Contains edges edge × (edge.x1 ≢ edge.x0) × IsEnd edge x y

-- A vertical edge goes from an end of such edges to the next one in its column, up or down.
pub record IsNextInColumn (edges : List Edge) (edge : Edge) : Type 0 where
  pub vertical : edge.x1 ≡ edge.x0
  pub apart : edge.y1 ≢ edge.y0
  pub from : IsEndOfSloped edges edge.x0 edge.y0
  pub to : IsEndOfSloped edges edge.x0 edge.y1
  pub next : (y : ℤ) → IsEndOfSloped edges edge.x0 y → int_min edge.y0 edge.y1 <ℤ y → ¬ (y <ℤ int_max edge.y0 edge.y1)

-- The edges that bound what the operation, by the rule, makes of the subject's inside and the clip's.
pub record IsFilled (rule : FillRule) (operation : Operation) (subject clip edges : List Edge) : Type 0 where
  pub winds : (point : RationalPoint) → winding edges point ≡ count (is_result rule operation (winding subject point) (winding clip point))
  pub closed : IsClosed edges
  pub noded : AreNoded edges
  pub distinct : AreDistinct edges
  pub sloped : All (λ edge. edge.x1 ≢ edge.x0 → Contains (subject ++ clip) edge ⊎ Contains (subject ++ clip) (reversed edge)) edges
  pub vertical : All (λ edge. edge.x1 ≡ edge.x0 → IsNextInColumn edges edge) edges

-- Such edges stand behind the others.
abbrev pub AppendsFilled : Choice → List Edge → List Edge → List Edge → List Edge → Type 0
AppendsFilled choice subject clip before after =
    (edges : List Edge) × (after ≡ before ++ edges) × IsFilled choice.rule choice.operation subject clip edges
