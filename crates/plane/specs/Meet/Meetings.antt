-- Which pairs of a list's edges meet, and which pairs of two lists' edges.
use Rattle.std.specs.Prelude.{ℕ, List}
use Rattle.plane.specs.declared.edge.Edge.{Edge}
use Rattle.plane.specs.Meet.Edges.{Meet}
use Rattle.plane.specs.Pairs.Pairs.{PairAt, PairBetween, ArePairs, ArePairsBetween}

-- The edges at these two places of the list meet, the first place below the second.
abbrev pub MeetAt : List Edge → ℕ → ℕ → Type 0
MeetAt edges i j = PairAt Meet edges i j

-- Each pair of places whose edges meet stands in the list once, and no other pair does. The order is open.
abbrev pub AreMeetings : List Edge → List (ℕ × ℕ) → Type 0
AreMeetings edges pairs = ArePairs Meet edges pairs

-- The edge at the first place of the one list meets that at the second place of the other list.
abbrev pub MeetBetween : List Edge → List Edge → ℕ → ℕ → Type 0
MeetBetween edges others i j = PairBetween Meet edges others i j

-- Each pair of places whose edges meet, of one list and of the other, stands in the list once, and no other pair does.
abbrev pub AreMeetingsBetween : List Edge → List Edge → List (ℕ × ℕ) → Type 0
AreMeetingsBetween edges others pairs = ArePairsBetween Meet edges others pairs
