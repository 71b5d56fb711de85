-- How edges of valid rings meet, and how they don't.
use Rattle.std.specs.Prelude.{◌≡◌, ◌≢◌, ◌⊎◌, ℕ, Bool, true, false, List}
use Rattle.plane.specs.declared.edge.Edge.{Edge}
use Rattle.plane.specs.declared.meet.kinds.Meeting.TheVariants.{Cross, Share, Touch}
use Rattle.plane.specs.Ends.{start_of}
use Rattle.plane.specs.Meet.Columns.{HaveCommonEnd}
use Rattle.plane.specs.Meet.Edges.{Meet}
use Rattle.plane.specs.Meet.Kinds.{MeetSo}
use Rattle.plane.specs.Pairs.Pairs.{PairAt}

-- Two edges of one ring meet as they should: they touch in one point alone, an end of both, and don't both start there.
pub record MeetInTurn (one other : Edge) : Type 0 where
  pub touch : MeetSo one other Touch
  pub common : HaveCommonEnd one other
  pub starts : start_of one ≢ start_of other

-- They meet otherwise: they cross, share more than one point, touch between the ends of one, or both start at one point.
abbrev pub MeetOtherwise : Edge → Edge → Type 0
MeetOtherwise one other =
    MeetSo one other Cross
    ⊎ (MeetSo one other Share ⊎ ((MeetSo one other Touch × (¬ (HaveCommonEnd one other))) ⊎ (MeetSo one other Touch × (start_of one ≡ start_of other))))

-- Two edges, of whichever rings, cross or share more than one point.
abbrev pub MeetBeyondTouch : Edge → Edge → Type 0
MeetBeyondTouch one other = MeetSo one other Cross ⊎ MeetSo one other Share

-- How two edges may meet: those of one ring in turn, any others in one point alone, an end of one of them.
abbrev pub MayMeet : Bool → Edge → Edge → Type 0
MayMeet true one other = MeetInTurn one other
MayMeet false one other = MeetSo one other Touch

-- And how not.
abbrev pub MayNotMeet : Bool → Edge → Edge → Type 0
MayNotMeet true one other = MeetOtherwise one other
MayNotMeet false one other = MeetBeyondTouch one other

-- Each two of the edges that meet do so as they may.
abbrev pub AllMayMeet : Bool → List Edge → Type 0
AllMayMeet in_ring edges = (i j : ℕ) → PairAt Meet edges i j → PairAt (MayMeet in_ring) edges i j
