use Rattle.std.proofs.Common.{[], ◌∷◌, arith}
use Rattle.itree.proofs.Words.{ReadsAll-length}
use Rattle.itree.proofs.lines.sets.one_number.Goals as goal

pub returns-in_default-2-clause-unread : goal.returns-in_default-2-clause-unread
returns-in_default-2-clause-unread c = λ none number read.
    absurd (omega (arith, ReadsAll-length c.args.words.now (number ∷ []) read, c.in_default.len_at_least))
