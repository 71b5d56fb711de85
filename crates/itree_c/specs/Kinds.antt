-- How two edges meet, as C reads it: by a number.
use Rattle.std.specs.Prelude.{◌≡◌, ℤ}
use Rattle.plane.specs.Meet.Kinds.{MeetSo}
use Rattle.plane.specs.declared.edge.Edge.{Edge}
use Rattle.plane.specs.declared.meet.kinds.Meeting.{Meeting}
use Rattle.plane.specs.declared.meet.kinds.Meeting.TheVariants.{Apart, Touch, Cross, Share}
use Rattle.itree_c.specs.declared.kinds.TheConstants.{APART, TOUCH, CROSS, SHARE}

-- the number of each kind
abbrev pub number_of : Meeting → ℤ
number_of Apart = APART
number_of Touch = TOUCH
number_of Cross = CROSS
number_of Share = SHARE

-- it is the number of the kind that tells how the edges meet
abbrev pub IsNumberOfKind : Edge → Edge → ℤ → Type 0
IsNumberOfKind one other number = (kind : Meeting) × MeetSo one other kind × (number ≡ number_of kind)
