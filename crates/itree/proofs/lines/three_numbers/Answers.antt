use Rattle.std.proofs.Common.{[], ◌∷◌, refl, arith}
use Rattle.itree.proofs.Words.{ReadsAll-length, third_read}
use Rattle.itree.proofs.lines.three_numbers.Goals as goal

pub returns-in_default-clause-unread : goal.returns-in_default-clause-unread
returns-in_default-clause-unread c = λ none first second third read.
    absurd (omega (arith, ReadsAll-length c.args.words.now (first ∷ second ∷ third ∷ []) read, c.in_default.len_below))

pub returns-in_default-2-clause-unread : goal.returns-in_default-2-clause-unread
returns-in_default-2-clause-unread c = λ none first second third read.
    absurd (omega (arith, ReadsAll-length c.args.words.now (first ∷ second ∷ third ∷ []) read, c.in_default.len_at_least))

pub returns-in_err-third-clause-unread : goal.returns-in_err-third-clause-unread
returns-in_err-third-clause-unread c = λ none first second third read.
    c.in_err-third.ensures.unread refl third (third_read c.args.words.now (record { ref_ptr = (0, 0); now = [] }) first second third read)
