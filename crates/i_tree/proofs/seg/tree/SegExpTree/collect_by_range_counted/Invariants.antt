use Rattle.std.proofs.Common.{◌≤◌, length}
use Rattle.std.specs.Vec.{vec_capacity}
use Rattle.i_tree.specs.Seg.Buckets.{interval}
use Rattle.i_tree.specs.Seg.Members.{answer}
use Rattle.i_tree.specs.Seg.Walk.{to_come}
use Rattle.i_tree.proofs.SegLemmas.Collecting.{IsWalked, IsAppended}
use Rattle.i_tree.proofs.seg.tree.SegExpTree.collect_by_range_counted.Given as goal

abbrev pub invariant-loop-value : goal.invariant-loop-value
invariant-loop-value g l =
    record {
      walked : IsWalked g.V.ExpiredVal.expiration g.E.Ord.cmp l.time g.C.Counter.made l.asked l.fn.self l.fn.steps l.self l.cursor.left l.cursor.index l.steps;
      appended : IsAppended (answer g.V.ExpiredVal.expiration g.E.Ord.cmp l.time (interval l.fn.self.buckets (g.R.LayoutNumber.whole l.fn.range.min) (g.R.LayoutNumber.whole l.fn.range.max)) l.fn.self.members)
          l.fn.out.items l.out.items (to_come g.V.ExpiredVal.expiration g.E.Ord.cmp l.time l.asked l.cursor.left l.cursor.index l.self.chunks);
      room : vec_capacity l.fn.out ≤ vec_capacity l.out;
    }

-- Each value that is found is one fewer that is still to come.
abbrev pub decreases-loop-value : goal.decreases-loop-value
decreases-loop-value g l = length (to_come g.V.ExpiredVal.expiration g.E.Ord.cmp l.time l.asked l.cursor.left l.cursor.index l.self.chunks)
