use Rattle.std.proofs.Common.{◌≤◌, ◌-◌, length}
use Rattle.itree.specs.Faults.{IsWordAt}
use Rattle.itree.proofs.fault.words.faulty_number.Given as goal

-- the last word so far stands in the line, and no more words are counted than bytes are passed
abbrev pub invariant-words : goal.invariant-words
invariant-words l = record {
  stands : IsWordAt l.line l.last_start l.last_end;
  few : l.count ≤ l.last_end;
}

-- how many bytes are left
abbrev pub decreases-words : goal.decreases-words
decreases-words l = length l.line - l.last_end
