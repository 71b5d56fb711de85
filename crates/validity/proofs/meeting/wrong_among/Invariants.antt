use Rattle.std.proofs.Common.{take}
use Rattle.std.specs.List.{All}
use Rattle.plane.specs.Pairs.Pairs.{PairAt}
use Rattle.validity.specs.Meeting.{MayMeet}
use Rattle.validity.proofs.meeting.wrong_among.Given as goal

-- those so far meet as they may
abbrev pub invariant-loop-pair : goal.invariant-loop-pair
invariant-loop-pair l = All (λ pair. PairAt (MayMeet l.in_ring) l.edges pair.0 pair.1) (take l.pair-index l.pairs)
