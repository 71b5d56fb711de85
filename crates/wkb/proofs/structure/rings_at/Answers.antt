use Rattle.std.proofs.lemmas.Result.{err_from_is_err_and}
use Rattle.wkb.proofs.Loops.{rings-more, rings-stop, rings-end}
use Rattle.wkb.proofs.structure.rings_at.Goals as goal

pub returns-in_err-ring-clause-found : goal.returns-in_err-ring-clause-found
returns-in_err-ring-clause-found g c =
    let p = err_from_is_err_and c.from_residual.result c.from_residual.ensures.1 in
    rw (p.1, p.2) (rings-stop c.in_err-ring.field-0.0 c.loop-index.rings.items c.args.header.now c.args.count c.loop-index.index c.args.bytes.now c.loop-index.end _ c.loop-index-test.true c.in_err-ring.ensures.found c.loop-index.invariant.found)

pub loop-index-preserved : goal.loop-index-preserved
loop-index-preserved g c = record {
  within = c.in_ok-ring.ensures.within;
  found = rw c.in_ok-push.ensures.items (rings-more c.loop-index.rings.items c.args.header.now c.args.count c.loop-index.index c.args.bytes.now c.loop-index.end c.in_ok-ring.ring _ c.loop-index-test.true c.in_ok-ring.ensures.found c.loop-index.invariant.found);
}

pub returns-clause-found : goal.returns-clause-found
returns-clause-found g c = rings-end c.loop-index.rings.items c.args.header.now _ c.args.count c.loop-index.index c.args.bytes.now c.loop-index.end _ c.loop-index-test.false c.loop-index.invariant.found
