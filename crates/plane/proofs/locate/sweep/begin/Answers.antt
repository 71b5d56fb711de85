use Rattle.std.proofs.Common.{◌≡◌, ◌≢◌, arith}
use Rattle.std.specs.List.{All}
use Rattle.std.proofs.lemmas.Int.{ints}
use Rattle.std.specs.declared.cmp.Ordering.TheVariants.{Greater}
use Rattle.std.proofs.lemmas.Result.{err_from_is_err_and, on_ok_weaker}
use Rattle.plane.specs.SweepLine.Active.{cmp_active, live_entries}
use Rattle.plane.proofs.LocateLemmas.Serving.{GoesRight, crossing_above, crossing_below, in_order_above, in_order_below}
use Rattle.plane.proofs.locate.sweep.begin.Goals as goal

pub check_neighbours-requires : goal.check_neighbours-requires
check_neighbours-requires g c =
    let entries = live_entries c.args.beginning.edge.x0 (g.C.StatusCollection.stored c.args.status.now) in
    let rights : All GoesRight entries = λ k d inside. let (from, lives) = c.requires.sorted.active k d inside in omega (arith, ints, from, lives) in
    record {
      order = in_order_below entries (c.args.beginning, tt) c.in_ok-below.below rights c.requires.right (c.in_ok-below.ensures).neighbours.0;
    }

pub check_neighbours-requires-2 : goal.check_neighbours-requires-2
check_neighbours-requires-2 g c =
    let entries = live_entries c.args.beginning.edge.x0 (g.C.StatusCollection.stored c.args.status.now) in
    let rights : All GoesRight entries = λ k d inside. let (from, lives) = c.requires.sorted.active k d inside in omega (arith, ints, from, lives) in
    record {
      order = in_order_above entries (c.args.beginning, tt) c.in_ok-below.above rights c.requires.right (c.in_ok-below.ensures).neighbours.1;
    }

pub returns-in_err-check_neighbours-clause-crossing : goal.returns-in_err-check_neighbours-clause-crossing
returns-in_err-check_neighbours-clause-crossing g c i j says_cross =
    let (fault, was, given) = err_from_is_err_and c.from_residual-in_err-check_neighbours.result c.from_residual-in_err-check_neighbours.ensures.1 in
    crossing_below (λ entry. cmp_active entry.0 c.args.beginning ≢ Greater) (live_entries c.args.beginning.edge.x0 (g.C.StatusCollection.stored c.args.status.now)) (c.args.beginning, tt) c.in_ok-below.below i j
    (c.in_ok-below.ensures).neighbours.0 ((c.in_err-check_neighbours.ensures).crossing i j cc)

pub returns-clause-crossing : goal.returns-clause-crossing
returns-clause-crossing g c i j says_cross =
    crossing_above (λ entry. cmp_active entry.0 c.args.beginning ≡ Greater) (live_entries c.args.beginning.edge.x0 (g.C.StatusCollection.stored c.args.status.now)) (c.args.beginning, tt) c.in_ok-below.above i j
    (c.in_ok-below.ensures).neighbours.1 (c.check_neighbours-2.ensures.crossing i j says_cross)

pub returns-clause-ok : goal.returns-clause-ok
returns-clause-ok g c =
    on_ok_weaker c.check_neighbours-2.result
    (λ apart. ((c.in_ok-below.below, c.in_ok-below.above), (c.in_ok-below.ensures).neighbours, c.in_ok-check_neighbours.ensures.ok, apart, (c.in_ok-below.ensures).ok))
    c.check_neighbours-2.ensures.ok
