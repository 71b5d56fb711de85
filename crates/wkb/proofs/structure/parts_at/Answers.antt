use Rattle.std.proofs.lemmas.Result.{err_from_is_err_and}
use Rattle.wkb.specs.Format.{part_at}
use Rattle.wkb.proofs.Loops.{parts-more, parts-stop, parts-end}
use Rattle.wkb.proofs.structure.parts_at.Goals as goal

pub returns-in_err-end-clause-found : goal.returns-in_err-end-clause-found
returns-in_err-end-clause-found g c =
    let p = err_from_is_err_and c.from_residual.result c.from_residual.ensures.1 in
    rw (p.1, p.2) (parts-stop c.in_err-end.field-0.0 (part_at c.args.bytes.now) c.loop.rings.items c.args.count c.loop.counter c.loop.end _ c.loop-test.true c.in_err-end.ensures.found c.loop.invariant.found)

pub loop-preserved : goal.loop-preserved
loop-preserved g c = record {
  within = c.in_ok-end.ensures.within;
  found = parts-more (part_at c.args.bytes.now) c.loop.rings.items c.part_at.new.rings.items c.args.count c.loop.counter c.loop.end c.in_ok-end.end _ c.loop-test.true c.in_ok-end.ensures.found c.loop.invariant.found;
}

pub returns-clause-found : goal.returns-clause-found
returns-clause-found g c = parts-end (part_at c.args.bytes.now) c.loop.rings.items c.args.count c.loop.counter c.loop.end _ c.loop-test.false c.loop.invariant.found
