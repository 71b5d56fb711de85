use Rattle.std.proofs.Common.{arith}
use Rattle.layers.specs.Lines.{line_edges, lines_of}
use Rattle.layers.proofs.GatheredLemmas.{AreGathered-all, AreGathered-made, AreGathered-none}
use Rattle.layers.proofs.ListLemmas.{length-lists_of}
use Rattle.layers.proofs.lines.breaking.append_lines.Goals as goal

pub loop-line-init : goal.loop-line-init
loop-line-init g c = AreGathered-none c.args.edges.now.items c.args.ends.now.items

pub loop-line-preserved : goal.loop-line-preserved
loop-line-preserved g c =
    let size = length-lists_of c.args.lines.points.now 0 c.args.lines.ends.now in
    let test = c.loop-line-test.true in
    AreGathered-made line_edges (lines_of c.args.lines) c.loop-line.line _ _ _ _ _ _ c.len.result (omega (arith, size, test)) (rw c.list_at.ensures at c.in_ok-append_line.ensures) c.in_ok-push.ensures.items (omega (arith, c.len.ensures)) c.loop-line.invariant

pub returns-clause-edges : goal.returns-clause-edges
returns-clause-edges g c =
    let size = length-lists_of c.args.lines.points.now 0 c.args.lines.ends.now in
    let past = c.loop-line-test.false in
    (AreGathered-all line_edges (lines_of c.args.lines) c.loop-line.line _ _ _ _ (omega (arith, size, past)) c.loop-line.invariant).0

pub returns-clause-ends : goal.returns-clause-ends
returns-clause-ends g c =
    let size = length-lists_of c.args.lines.points.now 0 c.args.lines.ends.now in
    let past = c.loop-line-test.false in
    (AreGathered-all line_edges (lines_of c.args.lines) c.loop-line.line _ _ _ _ (omega (arith, size, past)) c.loop-line.invariant).1
