use Rattle.overlay.proofs.WindsLemmas.Told.{leftmost-takes}
use Rattle.overlay.proofs.contours.fans.next_edge.Goals as goal

pub returns-then-is_empty-clause-takes : goal.returns-then-is_empty-clause-takes
returns-then-is_empty-clause-takes g c = λ are. leftmost-takes c.args.sorted.now c.args.used.now c.args.back c.args.at c.leftmost.result are c.leftmost.ensures
