-- What the lines of edges say, and which of these lines are met.
use Rattle.std.specs.Prelude.{◌≡◌, ◌<◌, ◌↔◌, ℕ, List, [], ◌∷◌, Some, codes, AllPairs, Contains, slice_get}
use Rattle.itree.specs.Grammar.{Says, command_lines}
use Rattle.plane.specs.Meet.Meetings.{MeetAt}
use Rattle.plane.specs.declared.edge.Edge.{Edge}

-- the words say the edge
abbrev pub SaysEdge : List (List ℕ) → Edge → Type 0
SaysEdge words edge = Says words (codes "edge") (edge.x0 ∷ edge.y0 ∷ edge.x1 ∷ edge.y1 ∷ [])

-- the words say no edge
abbrev pub SaysNoEdge : List (List ℕ) → Type 0
SaysNoEdge words = (edge : Edge) → ¬ (SaysEdge words edge)

-- the line of this number says an edge before the one at this place, which meets it
abbrev pub IsMetLine : List (List ℕ) → List Edge → ℕ → ℕ → Type 0
IsMetLine lines edges place number =
    (earlier : ℕ) × MeetAt edges earlier place × (slice_get (command_lines lines) earlier ≡ Some number)

-- The numbers are those of the lines of the earlier edges that the edge at this place meets, each once, in rising order.
pub record AreMetLines (lines : List (List ℕ)) (edges : List Edge) (place : ℕ) (numbers : List ℕ) : Type 0 where
  pub rising : AllPairs (λ number later. number < later) numbers
  pub exact : (number : ℕ) → Contains numbers number ↔ IsMetLine lines edges place number
