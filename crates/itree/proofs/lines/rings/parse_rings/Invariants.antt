use Rattle.std.proofs.Common.{◌≡◌, ◌≤◌, ◌+◌, ◌++◌, ℕ, List, IfSome, length}
use Rattle.itree.specs.Grammar.{lines_of, lines_left, LinesSay}
use Rattle.itree.specs.RingLines.{RingLine, SaysRing, HoldsSaid}
use Rattle.itree.proofs.lines.rings.parse_rings.Given as goal

-- the rings are those of the lines so far, which are counted, and the other lines are left
abbrev pub invariant-lines : goal.invariant-lines
invariant-lines g l = record {
  in_range : IfSome l.rest (λ left. l.number + length left.now ≤ length l.text);
  so_far : (before : List (List ℕ)) × (said : List RingLine) × (lines_of l.text ≡ before ++ lines_left l.rest) × (l.number ≡ length before) × LinesSay (SaysRing l.kind) before said × HoldsSaid l.rings said;
}

-- how many lines are left
abbrev pub decreases-lines : goal.decreases-lines
decreases-lines g l = length (lines_left l.rest)
