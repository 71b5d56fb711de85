-- Edges along one line, cut where any of them begins or ends. For private contracts.
use Rattle.std.specs.Prelude.{◌≡◌, ◌++◌, ◌&&◌, ◌||◌, ◌^◌, Bool, false, not, cond, List, [], ◌∷◌, All, AllPairs, Contains, ℤ, pos, negsuc, ◌+ℤ◌, ◌-ℤ◌, ◌≤ℤ◌, ◌<ℤ◌}
use Rattle.std.specs.Ordering.{int_cmp, int_eq, is_lt, on, then_cmp}
use Rattle.std.specs.declared.cmp.Ordering.{Ordering}
use Rattle.plane.specs.declared.edge.Edge.{Edge}
use Rattle.plane.specs.declared.point.Point.{Point}
use Rattle.plane.specs.Ends.{edge_between, end_of, start_of}
use Rattle.overlay.specs.declared.boundary.lines.Change.{Change}
use Rattle.overlay.specs.declared.boundary.lines.Place.{Place}
use Rattle.overlay.specs.declared.boundary.lines.Run.{Run}
use Rattle.overlay.specs.declared.boundary.lines.Sums.{Sums}
use Rattle.overlay.specs.declared.fill.pieces.Operand.{Operand}
use Rattle.overlay.specs.declared.fill.pieces.Operand.TheVariants.{Subject, Clip}
use Rattle.overlay.specs.declared.fill.pieces.Piece.{Piece}
use Rattle.overlay.specs.Fill.Pieces.{total, weight}
use Rattle.overlay.specs.Fill.Turned.{piece_of}
use Rattle.overlay.specs.Joined.{onwards}

-- The edge runs along x, along y. A point does neither.
abbrev pub is_level : Edge → Bool
is_level edge = int_eq edge.y0 edge.y1 && not (int_eq edge.x0 edge.x1)

abbrev pub is_upright : Edge → Bool
is_upright edge = int_eq edge.x0 edge.x1 && not (int_eq edge.y0 edge.y1)

-- the least and the greatest coordinate
abbrev pub least : ℤ
least = negsuc 2147483647

abbrev pub greatest : ℤ
greatest = pos 2147483647

-- The longest edge along the axis that the edge runs along, or else the edge.
abbrev pub line_of : Edge → Edge
line_of edge =
    cond (is_level edge) (record { x0 = least; y0 = edge.y0; x1 = greatest; y1 = edge.y0 })
    (cond (is_upright edge) (record { x0 = edge.x0; y0 = least; x1 = edge.x0; y1 = greatest }) edge)

-- Where an edge starts and ends that goes onwards.
abbrev pub start_place : Edge → Place
start_place edge = record { line = line_of edge; along = cond (is_level edge) edge.x0 (cond (is_upright edge) edge.y0 (pos 0)) }

abbrev pub end_place : Edge → Place
end_place edge = record { line = line_of edge; along = cond (is_level edge) edge.x1 (cond (is_upright edge) edge.y1 (pos 1)) }

-- The point at a place.
abbrev pub point_at : Place → Point
point_at place =
    cond (is_level place.line) (record { x = place.along; y = place.line.y0 })
    (cond (is_upright place.line) (record { x = place.line.x0; y = place.along })
    (cond (int_eq place.along (pos 0)) (start_of place.line) (end_of place.line)))

-- What changes where an edge begins, and where it ends.
abbrev pub start_change : Operand → Edge → Change
start_change operand edge = record {
  place = start_place (onwards edge);
  count = pos 1;
  subject = (piece_of operand edge).subject;
  clip = (piece_of operand edge).clip;
}

abbrev pub end_change : Operand → Edge → Change
end_change operand edge = record {
  place = end_place (onwards edge);
  count = negsuc 0;
  subject = pos 0 -ℤ (piece_of operand edge).subject;
  clip = pos 0 -ℤ (piece_of operand edge).clip;
}

-- The changes of each edge.
abbrev pub changes_of : Operand → List Edge → List Change
changes_of operand [] = []
changes_of operand (edge ∷ edges) = start_change operand edge ∷ end_change operand edge ∷ changes_of operand edges

-- A change of edges of the operand: so many begin at the place, and weigh so much.
abbrev pub change_at : Operand → Place → ℤ → ℤ → Change
change_at Subject place count weight = record { place = place; count = count; subject = weight; clip = pos 0 }
change_at Clip place count weight = record { place = place; count = count; subject = pos 0; clip = weight }

-- A run without an edge yet, and a run with one edge more.
abbrev pub no_run : Edge → Run
no_run line = record { edge = line; count = pos 0; weight = pos 0 }

abbrev pub longer : Run → Edge → Run
longer run edge = record { edge = run.edge; count = run.count +ℤ pos 1; weight = run.weight +ℤ weight edge }

-- A run of at most 127 edges.
pub record IsSmallRun (run : Run) : Type 0 where
  pub from : pos 0 ≤ℤ run.count
  pub upto : run.count ≤ℤ pos 127
  pub weight_from : (pos 0 -ℤ run.count) ≤ℤ run.weight
  pub weight_upto : run.weight ≤ℤ run.count

-- What changes where a run begins, and where it ends.
abbrev pub run_start : Operand → Run → Change
run_start operand run = change_at operand (start_place run.edge) run.count run.weight

abbrev pub run_end : Operand → Run → Change
run_end operand run = change_at operand (end_place run.edge) (pos 0 -ℤ run.count) (pos 0 -ℤ run.weight)

-- Both, if the run has an edge.
abbrev pub run_changes : Operand → Run → List Change
run_changes operand run = cond (int_eq run.count (pos 0)) [] (run_start operand run ∷ run_end operand run ∷ [])

-- something changes at the place
abbrev pub IsChanged : List Change → Place → Type 0
IsChanged changes place = (change : Change) × Contains changes change × (change.place ≡ place)

-- what is asked of a change, if it is at one of the places
abbrev pub told_at : (Place → Bool) → (Change → ℤ) → Change → ℤ
told_at test f change = cond (test change.place) (f change) (pos 0)

-- Whichever places are asked for, as much changes there.
abbrev pub TellAlike : (Change → ℤ) → List Change → List Change → Type 0
TellAlike f told changes = (test : Place → Bool) → total (told_at test f) told ≡ total (told_at test f) changes

-- Both lists tell the same: at the same places something changes, and as much of each.
pub record TellAs (told changes : List Change) : Type 0 where
  pub count : TellAlike (λ change. change.count) told changes
  pub subject : TellAlike (λ change. change.subject) told changes
  pub clip : TellAlike (λ change. change.clip) told changes
  pub of : All (λ change. IsChanged changes change.place) told
  pub all : All (λ change. IsChanged told change.place) changes

-- The order of places: by the line, and then along it.
abbrev pub cmp_lines : Edge → Edge → Ordering
cmp_lines = then_cmp (on (λ edge. edge.x0) int_cmp) (then_cmp (on (λ edge. edge.y0) int_cmp) (then_cmp (on (λ edge. edge.x1) int_cmp) (on (λ edge. edge.y1) int_cmp)))

abbrev pub cmp_places : Place → Place → Ordering
cmp_places = then_cmp (on (λ place. place.line) cmp_lines) (on (λ place. place.along) int_cmp)

-- the one is before the other
abbrev pub before : Place → Place → Bool
before one other = is_lt (cmp_places one other)

-- No change is before one that stands earlier.
abbrev pub AreInOrder : List Change → Type 0
AreInOrder changes = AllPairs (λ one other. before other.place one.place ≡ false) changes

abbrev pub nothing : Sums
nothing = record { count = pos 0; subject = pos 0; clip = pos 0 }

abbrev pub plus : Sums → Change → Sums
plus sums change = record { count = sums.count +ℤ change.count; subject = sums.subject +ℤ change.subject; clip = sums.clip +ℤ change.clip }

-- The stretch from the one place to the other, with what its edges weigh.
abbrev pub piece_between : Place → Place → Sums → Piece
piece_between from to sums = record { edge = edge_between (point_at from) (point_at to); subject = sums.subject; clip = sums.clip }

abbrev pub is_same_place : Place → Place → Bool
is_same_place one other = (int_eq one.line.x0 other.line.x0 && (int_eq one.line.y0 other.line.y0 && (int_eq one.line.x1 other.line.x1 && int_eq one.line.y1 other.line.y1))) && int_eq one.along other.along

-- The stretch from the one place to the next one, unless they are the same or no edge is there.
abbrev pub stretch_between : Place → Place → Sums → List Piece
stretch_between from to sums = cond (int_eq sums.count (pos 0) || is_same_place from to) [] (piece_between from to sums ∷ [])

-- The stretches from a place on over those of the changes.
abbrev pub stretches_from : Place → Sums → List Change → List Piece
stretches_from from sums [] = []
stretches_from from sums (change ∷ changes) = stretch_between from change.place sums ++ stretches_from change.place (plus sums change) changes

abbrev pub all_stretches : List Change → List Piece
all_stretches [] = []
all_stretches (change ∷ changes) = stretches_from change.place nothing (change ∷ changes)

-- At most 127 edges begin or end.
pub record IsSmallChange (change : Change) : Type 0 where
  pub from : (pos 0 -ℤ pos 127) ≤ℤ change.count
  pub upto : change.count ≤ℤ pos 127
  pub subject_from : (pos 0 -ℤ pos 127) ≤ℤ change.subject
  pub subject_upto : change.subject ≤ℤ pos 127
  pub clip_from : (pos 0 -ℤ pos 127) ≤ℤ change.clip
  pub clip_upto : change.clip ≤ℤ pos 127

-- Changes are appended that tell what those of the edges do.
pub record AppendsTold (operand : Operand) (edges : List Edge) (before after : List Change) : Type 0 where
  pub more : List Change
  pub appended : after ≡ before ++ more
  pub tell : TellAs more (changes_of operand edges)
  pub small : All IsSmallChange more

-- the sums are numbers of 64 bits
pub record Fit (sums : Sums) (change : Change) : Type 0 where
  pub from : (pos 0 -ℤ pos (2 ^ 63)) ≤ℤ (sums.count +ℤ change.count)
  pub below : (sums.count +ℤ change.count) <ℤ pos (2 ^ 63)
  pub subject_from : (pos 0 -ℤ pos (2 ^ 63)) ≤ℤ (sums.subject +ℤ change.subject)
  pub subject_below : (sums.subject +ℤ change.subject) <ℤ pos (2 ^ 63)
  pub clip_from : (pos 0 -ℤ pos (2 ^ 63)) ≤ℤ (sums.clip +ℤ change.clip)
  pub clip_below : (sums.clip +ℤ change.clip) <ℤ pos (2 ^ 63)
