-- Edges that meet only at common ends.
use Rattle.std.specs.Prelude.{◌≡◌, ◌⊎◌}
use Rattle.plane.specs.declared.edge.Edge.{Edge}
use Rattle.plane.specs.Meet.Edges.{RationalPoint}
use Rattle.plane.specs.Meet.Kinds.{IsEnd}
use Rattle.plane.specs.Ends.{reversed}

-- The point is an end of both edges, or these have the same ends: they are one, or one is the other from its end to its start.
abbrev pub MeetAtEnds : Edge → Edge → RationalPoint → Type 0
MeetAtEnds one other point = IsEnd one point × IsEnd other point ⊎ (one ≡ other) ⊎ (one ≡ reversed other)
