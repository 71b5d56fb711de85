use Rattle.i_tree.proofs.SegLemmas.Masks.{placed_word, placed-is, few-placed, placed-below, placed-decodes, placed-meets}
use Rattle.i_tree.proofs.seg.masks.canonical_mask.Goals as goal

pub returns-clause-value : goal.returns-clause-value
unfolding placed_word
returns-clause-value c = rw (c.from.ensures, c.up_to.ensures, c.parent_from.ensures, c.parent_up_to.ensures) (placed-is c.args.first c.args.last c.requires.order c.requires.within)

pub returns-clause-decodes : goal.returns-clause-decodes
returns-clause-decodes c = rw (returns-clause-value c) (placed-decodes c.args.first c.args.last c.requires.order c.requires.within)

pub returns-clause-few : goal.returns-clause-few
returns-clause-few c = rw (returns-clause-value c) (few-placed c.args.first c.args.last c.requires.order c.requires.within)

pub returns-clause-below : goal.returns-clause-below
returns-clause-below c = rw (returns-clause-value c) (placed-below c.args.first c.args.last c.requires.order c.requires.within)

pub returns-clause-meets : goal.returns-clause-meets
returns-clause-meets c = rw (returns-clause-value c) (placed-meets c.args.first c.args.last c.requires.order c.requires.within)
