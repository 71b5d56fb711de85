use Rattle.std.proofs.Common.{◌≡◌, ◌≤◌, ◌-◌, drop, length}
use Rattle.itree.specs.Grammar.{words_of}
use Rattle.itree.proofs.fault.words.word_start.Given as goal

-- there is white space alone from the one place up to the other
abbrev pub invariant-bytes : goal.invariant-bytes
invariant-bytes l = record {
  from : l.from ≤ l.at;
  within : l.at ≤ length l.line;
  blank : words_of (drop l.from l.line) ≡ words_of (drop l.at l.line);
}

-- how many bytes are left
abbrev pub decreases-bytes : goal.decreases-bytes
decreases-bytes l = length l.line - l.at
