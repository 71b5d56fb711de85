use Rattle.std.proofs.Common.{arith}
use Rattle.itree.proofs.FaultyWords.{IsWordAt-next}
use Rattle.itree.proofs.fault.words.faulty_number.Goals as goal

pub returns-then-is_full : goal.returns-then-is_full
returns-then-is_full c =
    let (from, some, inside, next) = c.in-Some.ensures.word in
    (IsWordAt-next c.args.line.now c.words.last_start c.words.last_end c.in-Some.start c.in-Some.end c.words.invariant.stands some inside next, λ is ascii number reads. cc)

pub returns-then-not-is_number : goal.returns-then-not-is_number
returns-then-not-is_number c =
    let (from, some, inside, next) = c.in-Some.ensures.word in
    (IsWordAt-next c.args.line.now c.words.last_start c.words.last_end c.in-Some.start c.in-Some.end c.words.invariant.stands some inside next, λ is. c.is_number.ensures c.if-not-is_number.true)

pub words-preserved : goal.words-preserved
words-preserved c =
    let (from, some, inside, next) = c.in-Some.ensures.word in
    record {
      stands = IsWordAt-next c.args.line.now c.words.last_start c.words.last_end c.in-Some.start c.in-Some.end c.words.invariant.stands some inside next;
      few = omega (arith, c.words.invariant.few, from, some);
    }
