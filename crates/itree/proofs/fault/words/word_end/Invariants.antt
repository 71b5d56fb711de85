use Rattle.std.proofs.Common.{◌≡◌, ◌≤◌, ◌<◌, ◌-◌, ℕ, false, get_or, length}
use Rattle.std.specs.Char.{is_ascii_whitespace}
use Rattle.itree.proofs.fault.words.word_end.Given as goal

-- there is no white space from the one place up to the other
abbrev pub invariant-bytes : goal.invariant-bytes
invariant-bytes l = record {
  from : l.start < l.at;
  within : l.at ≤ length l.line;
  solid : (k : ℕ) → l.start ≤ k → k < l.at → is_ascii_whitespace (get_or l.line k 0) ≡ false;
}

-- how many bytes are left
abbrev pub decreases-bytes : goal.decreases-bytes
decreases-bytes l = length l.line - l.at
