use Rattle.std.proofs.Common.{ℕ, List, Result, ◌-◌, sym, ap, ◌∙◌}
use Rattle.wkb.specs.declared.fault.Flaw.{Flaw}
use Rattle.wkb.specs.declared.structure.RingAt.{RingAt}
use Rattle.std.proofs.lemmas.Result.{err_from_is_err_and}
use Rattle.wkb.specs.Format.{geometry_at, with_front}
use Rattle.wkb.proofs.Loops.{parts-more, parts-stop, parts-end, no_header, areas_here, nested_here, no_count, parts_here}
use Rattle.wkb.proofs.structure.+geometry_at.Goals as goal

pub returns-in_err-header-clause-found : goal.returns-in_err-header-clause-found
returns-in_err-header-clause-found g t c =
    let p = err_from_is_err_and c.from_residual.result c.from_residual.ensures.1 in
    rw (p.1, p.2) (no_header c.in_err-header.field-0.0 _ c.args.most_nested c.args.bytes.now c.args.place c.in_err-header.ensures.found)

pub returns-then-kind_of-ne-COLLECTION-clause-found : goal.returns-then-kind_of-ne-COLLECTION-clause-found
returns-then-kind_of-ne-COLLECTION-clause-found g t c =
    let same = areas_here c.args.most_nested c.args.bytes.now c.args.place c.in_ok-header.header c.in_ok-header.ensures.found (λ is. c.if-kind_of-ne-COLLECTION.true (c.kind_of.ensures ∙ is)) in
    rw same c.areas_at.ensures.found

pub returns-then-most_nested-eq0-clause-found : goal.returns-then-most_nested-eq0-clause-found
returns-then-most_nested-eq0-clause-found g t c =
    ap (λ (read : Result (List RingAt × ℕ) Flaw). with_front c.args.rings.now.items read) (nested_here c.args.most_nested c.args.bytes.now c.args.place c.in_ok-header.header c.in_ok-header.ensures.found (sym c.kind_of.ensures ∙ c.if-kind_of-ne-COLLECTION.false) c.if-most_nested-eq0.true)

pub returns-in_err-count-clause-found : goal.returns-in_err-count-clause-found
returns-in_err-count-clause-found g t c =
    let p = err_from_is_err_and c.from_residual-in_err-count.result c.from_residual-in_err-count.ensures.1 in
    rw (p.1, p.2) (no_count c.in_err-count.field-0.0 _ c.args.most_nested c.args.bytes.now c.args.place c.in_ok-header.header c.in_ok-header.ensures.found (sym c.kind_of.ensures ∙ c.if-kind_of-ne-COLLECTION.false) c.if-most_nested-eq0.false c.in_err-count.ensures.found)

pub returns-in_err-end-clause-found : goal.returns-in_err-end-clause-found
returns-in_err-end-clause-found g t c =
    let p = err_from_is_err_and c.from_residual-in_err-end.result c.from_residual-in_err-end.ensures.1 in
    let same = parts_here c.args.most_nested c.args.bytes.now c.args.place c.in_ok-header.header c.in_ok-count.count c.in_ok-header.ensures.found (sym c.kind_of.ensures ∙ c.if-kind_of-ne-COLLECTION.false) c.if-most_nested-eq0.false c.in_ok-count.ensures.found in
    rw (p.1, p.2, same) (parts-stop c.in_err-end.field-0.0 (geometry_at (c.args.most_nested - 1) c.args.bytes.now) c.loop.rings.items c.in_ok-count.count c.loop.counter c.loop.end _ c.loop-test.true c.in_err-end.ensures.found c.loop.invariant.found)

pub loop-preserved : goal.loop-preserved
loop-preserved g t c = record {
  within = c.in_ok-end.ensures.within;
  found = parts-more (geometry_at (c.args.most_nested - 1) c.args.bytes.now) c.loop.rings.items c.geometry_at.new.rings.items c.in_ok-count.count c.loop.counter c.loop.end c.in_ok-end.end _ c.loop-test.true c.in_ok-end.ensures.found c.loop.invariant.found;
}

pub returns-clause-found : goal.returns-clause-found
returns-clause-found g t c =
    let same = parts_here c.args.most_nested c.args.bytes.now c.args.place c.in_ok-header.header c.in_ok-count.count c.in_ok-header.ensures.found (sym c.kind_of.ensures ∙ c.if-kind_of-ne-COLLECTION.false) c.if-most_nested-eq0.false c.in_ok-count.ensures.found in
    rw same (parts-end (geometry_at (c.args.most_nested - 1) c.args.bytes.now) c.loop.rings.items c.in_ok-count.count c.loop.counter c.loop.end _ c.loop-test.false c.loop.invariant.found)
