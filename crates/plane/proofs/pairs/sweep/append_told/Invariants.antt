use Rattle.std.proofs.Common.{take}
use Rattle.plane.specs.Pairs.Sweep.{GainsPairs}
use Rattle.plane.proofs.pairs.sweep.append_told.Given as goal

-- the pairs with the others so far
abbrev pub invariant-loop-other : goal.invariant-loop-other
invariant-loop-other g l = GainsPairs g.T.Boxed.bounds g.T.Meets.Meeting l.fn.strips l.fn.strip l.fn.placed (take l.other-index l.others) l.fn.out.items l.out.items
