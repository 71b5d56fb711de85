use Rattle.std.proofs.Common.{◌≡◌, ◌≤◌, ◌+◌, ◌++◌, ℕ, List, IfSome, length}
use Rattle.itree.specs.Grammar.{command_lines}
use Rattle.itree.specs.Grammar.{lines_of, lines_left}
use Rattle.itree.proofs.lines.command_lines.Given as goal

-- the lines so far are counted, those with words are listed, and the other lines are left
abbrev pub invariant-lines : goal.invariant-lines
invariant-lines g l = record {
  in_range : IfSome l.rest (λ left. l.number + length left.now ≤ length l.text);
  so_far : (before : List (List ℕ)) × (lines_of l.text ≡ before ++ lines_left l.rest) × (l.number ≡ length before) × (l.numbers.items ≡ command_lines before);
}

-- how many lines are left
abbrev pub decreases-lines : goal.decreases-lines
decreases-lines g l = length (lines_left l.rest)
