use Rattle.std.proofs.Common.{◌≡◌, take}
use Rattle.itree.specs.LocateLines.{edge_numbers}
use Rattle.itree.proofs.answers.locate.edge_numbers.Given as goal

-- of the lines so far, the numbers of those that say edges are kept
abbrev pub invariant-loop-place : goal.invariant-loop-place
invariant-loop-place g l = l.kept.items ≡ edge_numbers (take l.place l.said) (take l.place l.numbers)
