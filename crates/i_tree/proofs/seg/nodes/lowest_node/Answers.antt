use Rattle.i_tree.proofs.SegLemmas.NodesOf.{lowest-is, trailing-lowest}
use Rattle.i_tree.proofs.seg.nodes.lowest_node.Goals as goal

pub returns-clause-value : goal.returns-clause-value
returns-clause-value c = trailing-lowest c.args.mask c.ranges.mask.fits

pub returns-clause-lowest : goal.returns-clause-lowest
returns-clause-lowest c some = lowest-is c.args.mask some c.ranges.mask.fits
