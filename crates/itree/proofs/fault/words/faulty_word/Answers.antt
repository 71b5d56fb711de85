use Rattle.itree.proofs.FaultyWords.{IsWordAt-first}
use Rattle.itree.proofs.fault.words.faulty_word.Goals as goal

pub returns-in-None : goal.returns-in-None
returns-in-None c =
    let (from, some, inside, next) = c.in_ok-start.ensures.word in
    (IsWordAt-first c.args.line.now c.in_ok-start.start c.in_ok-start.end some inside next, λ is. absurd (c.beginning-wanted.ensures is))

pub faulty_number-requires : goal.faulty_number-requires
faulty_number-requires c =
    let (from, some, inside, next) = c.in_ok-start.ensures.word in
    IsWordAt-first c.args.line.now c.in_ok-start.start c.in_ok-start.end some inside next
