use Rattle.plane.specs.Pairs.Live.{held}
use Rattle.plane.specs.Pairs.Parts.{AreReadAhead}
use Rattle.plane.proofs.PairsLemmas.Served.{Served}
use Rattle.plane.proofs.pairs.sweep.append_pairs.Given as goal

-- the parts so far are served, and the items of some from one of them on are read
abbrev pub invariant-loop-next : goal.invariant-loop-next
invariant-loop-next g l = Served g.T.Boxed.bounds g.T.Meets.Meeting l.fn.strips l.items l.parts l.next l.strip (held g.T.Boxed.bounds l.strips l.strip l.live) l.fn.out.items l.out.items
    × AreReadAhead l.items l.parts l.ahead.from l.ahead.items.items
