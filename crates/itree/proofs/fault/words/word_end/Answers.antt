use Rattle.std.proofs.Common.{◌∙◌, inl, inr, get_or, sym, ap, arith}
use Rattle.std.specs.Char.{is_ascii_whitespace}
use Rattle.itree.proofs.FaultyWords.{words_of-solid, solid-next}
use Rattle.itree.proofs.fault.words.word_end.Goals as goal

pub bytes-init : goal.bytes-init
bytes-init c = record {
  from = omega arith;
  within = omega (arith, c.requires.within);
  solid = λ k low high. ap (λ place. is_ascii_whitespace (get_or c.args.line.now place 0)) {x = k} {y = c.args.start} (omega (arith, low, high)) ∙ c.requires.solid;
}

pub bytes-preserved : goal.bytes-preserved
bytes-preserved c = record {
  from = omega (arith, c.bytes.invariant.from);
  within = omega (arith, c.bytes-test.true);
  solid = solid-next c.args.line.now c.args.start c.bytes.at c.bytes.invariant.solid (sym c.is_ascii_whitespace.ensures.value ∙ c.if-is_ascii_whitespace.false);
}

pub returns-clause-word : goal.returns-clause-word
returns-clause-word c =
    words_of-solid c.args.line.now c.args.start c.bytes.at c.bytes.invariant.from c.bytes.invariant.within c.bytes.invariant.solid (inl (omega (arith, c.bytes.invariant.within, c.bytes-test.false)))

pub returns-then-is_ascii_whitespace-clause-word : goal.returns-then-is_ascii_whitespace-clause-word
returns-then-is_ascii_whitespace-clause-word c =
    words_of-solid c.args.line.now c.args.start c.bytes.at c.bytes.invariant.from c.bytes.invariant.within c.bytes.invariant.solid
    (inr (c.bytes-test.true, sym c.is_ascii_whitespace.ensures.value ∙ c.if-is_ascii_whitespace.true))
