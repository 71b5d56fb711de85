use Rattle.std.proofs.Common.{◌∙◌, sym, arith}
use Rattle.itree.proofs.FaultyWords.{words_of-skip}
use Rattle.itree.proofs.fault.words.word_start.Goals as goal

pub bytes-preserved : goal.bytes-preserved
bytes-preserved c = record {
  from = omega (arith, c.bytes.invariant.from);
  within = omega (arith, c.bytes-test.true);
  blank = c.bytes.invariant.blank ∙ words_of-skip c.args.line.now c.bytes.at c.bytes-test.true (sym c.is_ascii_whitespace.ensures.value ∙ c.if-not-is_ascii_whitespace.false);
}
