use Rattle.std.proofs.Common.{[], ◌∷◌, arith}
use Rattle.itree.proofs.Words.{ReadsAll-length}
use Rattle.itree.proofs.lines.two_numbers.Goals as goal

pub returns-in_default-clause-unread : goal.returns-in_default-clause-unread
returns-in_default-clause-unread c = λ none first second read.
    absurd (omega (arith, ReadsAll-length c.args.words.now (first ∷ second ∷ []) read, c.in_default.len_below))

pub returns-in_default-2-clause-unread : goal.returns-in_default-2-clause-unread
returns-in_default-2-clause-unread c = λ none first second read.
    absurd (omega (arith, ReadsAll-length c.args.words.now (first ∷ second ∷ []) read, c.in_default.len_at_least))
