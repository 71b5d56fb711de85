-- The walk is over the entries of the tree, of which the core tells the next one and its item.
use Rattle.std.proofs.Common.{ap, ◌∙◌, arith, length}
use Rattle.i_tree.proofs.RbLemmas.Shape.SubtreeHandles.{live_from_cut, value_at}
use Rattle.i_tree.specs.Rb.RbTree.{Contents}
use Rattle.i_tree.specs.Rb.Shape.{entries}
use Rattle.i_tree.specs.Root.Live.{is_live}
use Rattle.plane.proofs.SweepLineLemmas.Growing.{AreKept-more, AreKept-pass, next_entry}
use Rattle.plane.proofs.sweep_line.growing.append_live.Goals as goal

pub item-requires : goal.item-requires
item-requires g c =
    let same = ap (λ (tree : Contents (g.row.K.Denot × g.row.V.Denot)). entries tree.shape) c.core-tree.ensures in
    let next = next_entry (entries c.args.many.now.shape) c.loop.counter c.loop.here (omega (arith, c.loop-test.true, c.len-end.ensures.value, ap length same)) c.loop.invariant.0.next in
    live_from_cut c.loop.here c.core-tree.result.now.shape _ next.item _ (same ∙ next.cut)

pub append_if_live-requires : goal.append_if_live-requires
append_if_live-requires g c =
    record {
      live = AreKept-pass (λ pair. is_live g.K.ExpiredVal.expiration g.E.Ord.cmp c.args.time pair.0) (entries c.args.many.now.shape) c.loop.counter c.loop.few.pairs
          c.loop.invariant.0.are_kept;
    }

pub after-here-requires : goal.after-here-requires
after-here-requires g c =
    let same = ap (λ (tree : Contents (g.row.K.Denot × g.row.V.Denot)). entries tree.shape) c.core-tree.ensures in
    let next = next_entry (entries c.args.many.now.shape) c.loop.counter c.loop.here (omega (arith, c.loop-test.true, c.len-end.ensures.value, ap length same)) c.loop.invariant.0.next in
    live_from_cut c.loop.here c.core-tree.result.now.shape _ next.item _ (same ∙ next.cut)

pub loop-preserved : goal.loop-preserved
loop-preserved g c =
    let lives = λ (pair : g.row.K.Denot × g.row.V.Denot). is_live g.K.ExpiredVal.expiration g.E.Ord.cmp c.args.time pair.0 in
    let same = ap (λ (tree : Contents (g.row.K.Denot × g.row.V.Denot)). entries tree.shape) c.core-tree.ensures in
    let next = next_entry (entries c.args.many.now.shape) c.loop.counter c.loop.here (omega (arith, c.loop-test.true, c.len-end.ensures.value, ap length same)) c.loop.invariant.0.next in
    let live = live_from_cut c.loop.here c.core-tree.result.now.shape _ next.item _ (same ∙ next.cut) in
    let read = value_at c.loop.here c.core-tree.result.now.shape c.item.result.now (c.item.ensures.core.handles.apart c.loop.here) live c.item.ensures.value _ next.item _ (same ∙ next.cut) in
    let kept = AreKept-more lives (entries c.args.many.now.shape) c.loop.counter c.loop.here next c.loop.few.pairs c.loop.invariant.0.are_kept in (
      record {
        next = c.after-here.ensures.value _ next.item _ (same ∙ next.cut);
        are_kept = rw (c.in_ok-append_if_live.ensures.ok, read) kept;
      },
      omega (arith, c.loop.invariant.1, c.in_ok-append_if_live.ensures.room),
    )
