use Rattle.std.proofs.Common.{arith}
use Rattle.tiles.proofs.Ends.{last-shortens}
use Rattle.tiles.proofs.cropping.shorten.Goals as goal

pub returns-then-is_between-clause-shortened : goal.returns-then-is_between-clause-shortened
returns-then-is_between-clause-shortened g c = λ before chain is size.
    let told = c.len-count.ensures in
    let two = c.if-count-start-lt2.false in
    last-shortens before chain c.args.out.now.items c.truncate.new.self.items c.args.start c.len-count.result is size (omega (arith, told)) c.truncate.ensures.items
    c.args.wide c.index.result.now c.index-2.result.now c.args.next two c.index.ensures c.index-2.ensures c.if-is_between.ensures
