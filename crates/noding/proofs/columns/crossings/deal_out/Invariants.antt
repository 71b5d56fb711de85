use Rattle.std.proofs.Common.{take}
use Rattle.noding.specs.Columns.Ends.{AreDealt}
use Rattle.noding.proofs.columns.crossings.deal_out.Given as goal

-- the pairs so far are dealt out
abbrev pub invariant-loop-pair : goal.invariant-loop-pair
invariant-loop-pair g l = AreDealt l.fn.count (take l.pair-index l.met) l.dealt.about.items l.dealt.on.items
