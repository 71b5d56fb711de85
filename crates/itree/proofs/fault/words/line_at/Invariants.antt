use Rattle.std.proofs.Common.{◌≡◌, ◌≤◌, ◌+◌, ◌++◌, ℕ, List, IfSome, length}
use Rattle.itree.specs.Grammar.{lines_of, lines_left}
use Rattle.itree.proofs.fault.words.line_at.Given as goal

-- the lines so far are counted, and the others are left
abbrev pub invariant-lines : goal.invariant-lines
invariant-lines l = record {
  in_range : IfSome l.rest (λ left. l.passed + length left.now ≤ length l.text);
  so_far : (before : List (List ℕ)) × (lines_of l.text ≡ before ++ lines_left l.rest) × (l.passed ≡ length before);
}

-- how many lines are left
abbrev pub decreases-lines : goal.decreases-lines
decreases-lines l = length (lines_left l.rest)
