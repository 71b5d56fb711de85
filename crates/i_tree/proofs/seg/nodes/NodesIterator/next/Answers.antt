use Rattle.std.proofs.Common.{ap, ◌∙◌, arith}
use Rattle.i_tree.specs.Seg.Nodes.{nodes_of}
use Rattle.i_tree.proofs.SegLemmas.NodesOf.{nodes_of-lowest, nodes_of-fewer, nodes_of-zero}
use Rattle.i_tree.proofs.seg.nodes.NodesIterator.next.Goals as goal

pub returns-then-self-eq0-clause-steps : goal.returns-then-self-eq0-clause-steps
returns-then-self-eq0-clause-steps c = (ap nodes_of c.if-self-eq0.true ∙ nodes_of-zero, ap nodes_of c.if-self-eq0.true ∙ nodes_of-zero)

pub returns-clause-steps : goal.returns-clause-steps
returns-clause-steps c = nodes_of-lowest c.args.self.now.mask c.lowest_node-node.result (c.lowest_node-node.ensures.lowest (omega arith))

pub returns-clause-goes : goal.returns-clause-goes
returns-clause-goes c = record { on = λ _. (tt, tt, nodes_of-fewer c.args.self.now.mask c.lowest_node-node.result (c.lowest_node-node.ensures.lowest (omega arith))); keeps = tt; rests = λ _. tt }
