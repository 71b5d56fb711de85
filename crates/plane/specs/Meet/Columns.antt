-- What is asked of a sweep by columns about edges, and the pairs of edges that it finds. For private contracts.
use Rattle.std.specs.Prelude.{◌≡◌, ◌⊎◌, ◌↔◌, ◌<◌, ℕ, ◌-◌, List, Contains, Some, cond, length, nat_lt, slice_get}
use Rattle.std.specs.Int.{int_min, int_max}
use Rattle.std.specs.Ordering.{int_eq}
use Rattle.plane.specs.declared.columns.Asked.{Asked}
use Rattle.plane.specs.declared.edge.Edge.{Edge}
use Rattle.plane.specs.declared.meet.common_ends.EndAt.{EndAt}
use Rattle.plane.specs.declared.point.Point.{Point}
use Rattle.plane.specs.Columns.Asked.{Reaches}
use Rattle.plane.specs.Ends.{end_of, start_of}
use Rattle.plane.specs.Meet.Edges.{Meet}
use Rattle.plane.specs.Pairs.Pairs.{PairAt, PairBetween}
use Rattle.plane.specs.Pairs.Sweep.{pair_of}
use Rattle.plane.specs.SweepLine.Crossings.{Cross}

-- The edge whose x and y have changed places.
abbrev pub exchanged : Edge → Edge
exchanged edge = record { x0 = edge.y0; y0 = edge.x0; x1 = edge.y1; y1 = edge.x1 }

-- Asked of an upright edge: which edges have a height between its ends there.
abbrev pub asked_about : Edge → Asked
asked_about edge = record { x = edge.x0; low = int_min edge.y0 edge.y1; high = int_max edge.y0 edge.y1 }

-- What is asked where an edge starts: about all of an upright one.
abbrev pub asked_first : Edge → Asked
asked_first edge = cond (int_eq edge.x0 edge.x1) (asked_about edge) (record { x = edge.x0; low = edge.y0; high = edge.y0 })

-- And where it ends.
abbrev pub asked_last : Edge → Asked
asked_last edge = record { x = edge.x1; low = edge.y1; high = edge.y1 }

-- The one edge reaches what is asked about the other.
abbrev pub ReachesSome : Edge → Edge → Type 0
ReachesSome one other = Reaches one (asked_first other) ⊎ Reaches one (asked_last other)

-- The list has all pairs of edges that cross, and those of which the first one reaches what is asked about the second one.
pub record HaveAllFound (edges : List Edge) (pairs : List (ℕ × ℕ)) : Type 0 where
  pub crossed : (i j : ℕ) → PairAt Cross edges i j → Contains pairs (i, j)
  pub met : (i j : ℕ) → PairBetween ReachesSome edges edges i j → Contains pairs (i, j)

-- Of what is asked where so many edges start, and where they end, this is about the edge at this place.
abbrev pub place_about : ℕ → ℕ → ℕ
place_about count place = cond (nat_lt place count) place (place - count)

-- The pair of an edge and of what is asked is that of the edge and of the one that this is about.
abbrev pub IsPairAbout : ℕ → ℕ × ℕ → ℕ × ℕ → Type 0
IsPairAbout count met pair = pair ≡ (met.0, place_about count met.1)

-- The pair of places has both below so many.
abbrev pub IsWithinCount : ℕ → ℕ × ℕ → Type 0
IsWithinCount count pair = (pair.0 < count) × (pair.1 < count)

-- The pair stands in the list, or the other way round.
abbrev pub EitherWay : List (ℕ × ℕ) → ℕ → ℕ → Type 0
EitherWay pairs i j = Contains pairs (i, j) ⊎ Contains pairs (j, i)

-- The list has all pairs of edges that meet.
abbrev pub HaveAllMeetings : List Edge → List (ℕ × ℕ) → Type 0
HaveAllMeetings edges pairs = (i j : ℕ) → PairAt Meet edges i j → EitherWay pairs i j

-- It is the pair of these two places, the lesser one first, and their edges meet.
abbrev pub IsMeetingOf : List Edge → ℕ × ℕ → ℕ × ℕ → Type 0
IsMeetingOf edges near pair = (pair ≡ pair_of near.0 near.1) × PairAt Meet edges pair.0 pair.1

-- ---- common ends

-- The point is an end of the edge.
abbrev pub IsEndPoint : Edge → Point → Type 0
IsEndPoint edge point = (point ≡ start_of edge) ⊎ (point ≡ end_of edge)

-- Some point is an end of both.
abbrev pub HaveCommonEnd : Edge → Edge → Type 0
HaveCommonEnd one other = (point : Point) × IsEndPoint one point × IsEndPoint other point

-- The list has all pairs of edges that have a common end.
abbrev pub HaveAllAlike : List Edge → List (ℕ × ℕ) → Type 0
HaveAllAlike edges pairs = (i j : ℕ) → PairAt HaveCommonEnd edges i j → EitherWay pairs i j

-- It is an end of the edge at this place.
abbrev pub IsEndOf : ℕ → Edge → EndAt → Type 0
IsEndOf place edge end = (end.place ≡ place) × IsEndPoint edge end.point

-- It is an end of one of the first so many edges.
pub record IsEndUpto (edges : List Edge) (count : ℕ) (end : EndAt) : Type 0 where
  pub edge : Edge
  pub before : end.place < count
  pub stands : slice_get edges end.place ≡ Some edge
  pub is : IsEndPoint edge end.point

-- These are the ends of the edges, each as often as you like.
abbrev pub AreEnds : List Edge → List EndAt → Type 0
AreEnds edges ends = (end : EndAt) → Contains ends end ↔ IsEndUpto edges (length edges) end

-- Ends that are the same point stand together.
abbrev pub AreTogether : List EndAt → Type 0
AreTogether ends =
    (i j k : ℕ) (one between other : EndAt) → i < j → j < k → slice_get ends i ≡ Some one → slice_get ends j ≡ Some between → slice_get ends k ≡ Some other
    → one.point ≡ other.point → one.point ≡ between.point

-- It is the pair of the places of the end that stands at `first`, and of one of those behind it and before `upto` that are the
-- same point.
pub record IsAlike (ends : List EndAt) (first upto : ℕ) (pair : ℕ × ℕ) : Type 0 where
  pub at : ℕ
  pub behind : first < at
  pub before : at < upto
  pub one : EndAt
  pub other : EndAt
  pub stands : slice_get ends first ≡ Some one
  pub other_stands : slice_get ends at ≡ Some other
  pub same : one.point ≡ other.point
  pub is : pair ≡ (one.place, other.place)

-- So it is for one of the first so many.
abbrev pub IsAlikeUpto : List EndAt → ℕ → ℕ × ℕ → Type 0
IsAlikeUpto ends count pair = (first : ℕ) × (first < count) × IsAlike ends first (length ends) pair
