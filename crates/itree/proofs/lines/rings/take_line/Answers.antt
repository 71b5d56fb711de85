use Rattle.std.proofs.Common.{◌≡◌, ℕ, true, List, Some, map, rules, subst}
use Rattle.std.specs.Str.{IsAscii}
use Rattle.itree.specs.Grammar.{words_of}
use Rattle.itree.specs.RingLines.{SaysRing}
use Rattle.itree.proofs.lines.rings.take_line.Goals as goal

pub returns-clause-said : goal.returns-clause-said
returns-clause-said g c =
    let yes : c.in_ok-take_words.field-0 ≡ true = search rules in
    let ascii : IsAscii c.args.line.now = search rules in
    let same : map (λ word. word.now) c.deref.result.now ≡ words_of c.args.line.now = search rules in
    let (ring, says, holds) = c.in_ok-take_words.ensures.taken yes in
    (Some ring, (ascii, subst (λ (words : List (List ℕ)). SaysRing c.args.kind words ring) same says), holds)
