use Rattle.std.proofs.Common.{◌≡◌, List, length, string_bytes, take}
use Rattle.itree.specs.Replies.{chain_words, reply_lines}
use Rattle.noding.specs.Offsets.{AreJoined}
use Rattle.noding.proofs.Callers.{joined}
use Rattle.plane.specs.declared.point.Point.{Point}
use Rattle.itree.proofs.lines.snap.chain_text.Given as goal

-- the lines of the chains so far, and the next one begins behind these
abbrev pub invariant-loop-end : goal.invariant-loop-end
invariant-loop-end g l =
    (chains : List (List Point)) → AreJoined chains l.points l.ends
    → (string_bytes l.text ≡ reply_lines chain_words (take l.end-index chains)) × (l.start ≡ length (joined (take l.end-index chains)))
