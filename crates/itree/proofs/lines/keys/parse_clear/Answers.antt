use Rattle.std.proofs.Common.{arith}
use Rattle.std.proofs.lemmas.Bool.Decides.{nat_tests}
use Rattle.itree.proofs.Words.{clear_alone}
use Rattle.itree.proofs.lines.keys.parse_clear.Goals as goal

pub returns-then-not-is_empty-clause-unsaid : goal.returns-then-not-is_empty-clause-unsaid
returns-then-not-is_empty-clause-unsaid c = λ none. clear_alone c.args.words.now (grind (arith, nat_tests))
