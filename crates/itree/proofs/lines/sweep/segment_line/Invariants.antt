use Rattle.std.proofs.Common.{◌≡◌, ◌≤◌, ◌+◌, ◌++◌, ℕ, List, IfSome, length}
use Rattle.itree.specs.Grammar.{lines_of, lines_left, LinesSay}
use Rattle.itree.specs.SweepLines.{SaysSweepLine}
use Rattle.itree.specs.declared.lines.sweep.SweepLine.{SweepLine}
use Rattle.itree.proofs.SegmentLines.{Passed}
use Rattle.itree.proofs.lines.sweep.segment_line.Given as goal

-- the lines so far are counted, and the segments that they say, of which there are at most as many as are to pass
abbrev pub invariant-lines : goal.invariant-lines
invariant-lines l = record {
  in_range : IfSome l.rest (λ left. l.number + length left.now ≤ length l.text);
  few : l.passed ≤ l.place;
  so_far : (before : List (List ℕ)) × (lines_of l.text ≡ before ++ lines_left l.rest) × (l.number ≡ length before) × ((said : List SweepLine) → LinesSay SaysSweepLine (lines_of l.text) said → Passed before (lines_left l.rest) said l.passed);
}

-- how many lines are left
abbrev pub decreases-lines : goal.decreases-lines
decreases-lines l = length (lines_left l.rest)
