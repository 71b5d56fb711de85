use Rattle.i_tree.proofs.SegLemmas.Masks.{met_word, met-is, met-below}
use Rattle.i_tree.proofs.seg.masks.meeting_mask.Goals as goal

pub returns-clause-value : goal.returns-clause-value
unfolding met_word
returns-clause-value c = rw (c.reach.ensures, c.begin.ensures) (met-is c.args.first c.args.last c.requires.order c.requires.within)

pub returns-clause-below : goal.returns-clause-below
returns-clause-below c = rw (returns-clause-value c) (met-below c.args.first c.args.last c.requires.order c.requires.within)
