use Rattle.std.proofs.Common.{arith}
use Rattle.std.proofs.lemmas.Bool.{MatchBool-at_true}
use Rattle.tiles.proofs.Ends.{last-closes}
use Rattle.tiles.proofs.cropping.close_up.Goals as goal

pub returns-then-are_same : goal.returns-then-are_same
returns-then-are_same g c = λ before chain is size.
    let same = MatchBool-at_true _ _ c.if-are_same.true c.are_same.ensures in
    let told = c.len-count.ensures in
    last-closes before chain c.args.out.now.items c.truncate.new.self.items c.args.start c.len-count.result is size (omega (arith, told)) c.truncate.ensures.items
    c.index.result.now c.index-then-start-count.result.now c.if-start-count.true c.index.ensures c.index-then-start-count.ensures same
