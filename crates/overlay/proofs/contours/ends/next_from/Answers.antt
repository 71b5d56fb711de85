use Rattle.overlay.proofs.ContourLemmas.Ends.{first-at}
use Rattle.overlay.proofs.contours.ends.next_from.Goals as goal

pub returns-else-not-is_behind : goal.returns-else-not-is_behind
returns-else-not-is_behind c =
    let (inside, before) = c.loop-first.invariant in
    first-at c.args.sorted.now c.requires.order c.args.point c.loop-first.first c.loop-first-test.true before c.if-not-is_behind.ensures
