use Rattle.std.proofs.Common.{refl, arith}
use Rattle.i_tree.specs.Rb.Shape.{entries}
use Rattle.plane.proofs.ColumnLemmas.Comparing.{AreCompared-all, AreCompared-last, AreCompared-next, AreCompared-none}
use Rattle.plane.proofs.ColumnLemmas.StatusEntries.{AreOnce-entries}
use Rattle.plane.proofs.ColumnLemmas.StatusExchange.{read_is}
use Rattle.plane.proofs.ColumnLemmas.StatusWalk.{few, here_live, one_more, stands_at, walk_begins, walk_ends, walk_goes_on, walk_stops}
use Rattle.plane.proofs.columns.status.append_from.Goals as goal

pub loop-here-init : goal.loop-here-init
loop-here-init g c = record {
  walk = walk_begins c.args.asked c.args.place (entries c.args.tree.now.shape) c.args.met.now.items c.args.first c.requires.first;
  steps = AreCompared-none g.met.C.Counter.law c.args.steps.now c.args.met.now.items;
}

pub item-active-requires : goal.item-active-requires
item-active-requires g c =
    here_live c.args.asked c.args.place (entries c.args.tree.now.shape) c.args.met.now.items c.loop-here.met.items c.loop-here.here c.loop-here.invariant.walk c.loop-here-test.true c.args.tree.now.shape refl

pub returns-then-not-is_upto_asked-clause-ok : goal.returns-then-not-is_upto_asked-clause-ok
returns-then-not-is_upto_asked-clause-ok g c =
    let tree = c.args.tree.now.shape in
    let list = entries tree in
    let here = c.loop-here.here in
    let before = c.args.met.now.items in
    let after = c.loop-here.met.items in
    let some = c.loop-here-test.true in
    let walk = c.loop-here.invariant.walk in
    let read = c.item-active.result.now in
    let stands = stands_at c.args.asked c.args.place list before after here walk some read
    (read_is tree c.requires.core.handles here read c.item-active.ensures.value) in
    walk_stops c.args.asked c.args.place list before after here walk some read stands c.if-not-is_upto_asked.ensures

pub after-here-requires : goal.after-here-requires
after-here-requires g c =
    here_live c.args.asked c.args.place (entries c.args.tree.now.shape) c.args.met.now.items c.loop-here.met.items c.loop-here.here c.loop-here.invariant.walk c.loop-here-test.true c.args.tree.now.shape refl

pub loop-here-preserved : goal.loop-here-preserved
loop-here-preserved g c =
    let tree = c.args.tree.now.shape in
    let list = entries tree in
    let here = c.loop-here.here in
    let before = c.args.met.now.items in
    let after = c.loop-here.met.items in
    let some = c.loop-here-test.true in
    let walk = c.loop-here.invariant.walk in
    let read = c.item-active.result.now in
    let stands = stands_at c.args.asked c.args.place list before after here walk some read
    (read_is tree c.requires.core.handles here read c.item-active.ensures.value) in
    record {
      walk = walk_goes_on c.args.asked c.args.place list before after here walk some read stands c.if-not-is_upto_asked.ensures c.push.new.self.items c.in_ok-push.ensures.items c.after-here.result c.after-here.ensures.value;
      steps = AreCompared-next g.met.C.Counter.law _ c.loop-here.steps c.add_comparison.new.self before after c.push.new.self.items (one_more after c.push.new.self.items (read.place, c.args.place) c.in_ok-push.ensures.items) c.loop-here.invariant.steps c.add_comparison.ensures;
    }

pub loop-here-smaller : goal.loop-here-smaller
loop-here-smaller g c =
    let tree = c.args.tree.now.shape in
    let list = entries tree in
    let here = c.loop-here.here in
    let before = c.args.met.now.items in
    let after = c.loop-here.met.items in
    let some = c.loop-here-test.true in
    let walk = c.loop-here.invariant.walk in
    let read = c.item-active.result.now in
    let stands = stands_at c.args.asked c.args.place list before after here walk some read
    (read_is tree c.requires.core.handles here read c.item-active.ensures.value) in
    let then = c.push.new.self.items in
    let pushed = c.in_ok-push.ensures.items in
    let more = one_more after then (read.place, c.args.place) pushed in
    let most = few c.args.asked c.args.place list before then c.after-here.result
    (walk_goes_on c.args.asked c.args.place list before after here walk some read stands c.if-not-is_upto_asked.ensures then pushed c.after-here.result c.after-here.ensures.value) in
    omega (arith, more, most)

pub returns-clause-ok : goal.returns-clause-ok
returns-clause-ok g c =
    let tree = c.args.tree.now.shape in
    walk_ends c.args.asked c.args.place (entries tree) c.args.met.now.items c.loop-here.met.items c.loop-here.here c.loop-here.invariant.walk (AreOnce-entries tree c.requires.core.handles) c.loop-here-test.false

pub returns-then-not-is_upto_asked-clause-steps : goal.returns-then-not-is_upto_asked-clause-steps
returns-then-not-is_upto_asked-clause-steps g c =
    AreCompared-last g.met.C.Counter.law c.args.steps.now c.loop-here.steps c.add_comparison.new.self c.args.met.now.items c.loop-here.met.items c.loop-here.invariant.steps c.add_comparison.ensures

pub returns-clause-steps : goal.returns-clause-steps
returns-clause-steps g c = AreCompared-all c.args.steps.now c.loop-here.steps c.args.met.now.items c.loop-here.met.items c.loop-here.invariant.steps
