use Rattle.std.proofs.Common.{ℕ, List, ◌++◌, ◌∷◌, [], ◌∙◌, ap, sym, length}
use Rattle.plane.specs.declared.point.Point.{Point}
use Rattle.std.proofs.lemmas.Result.{err_from_is_err_and}
use Rattle.wkb.proofs.RingLemmas.{one_more_ring, flaw_of_rings}
use Rattle.wkb.proofs.shape.append_rings.Goals as goal

pub returns-in_err-append_points-clause-fault : goal.returns-in_err-append_points-clause-fault
returns-in_err-append_points-clause-fault g c =
    let p = err_from_is_err_and c.from_residual.result c.from_residual.ensures.1 in
    rw (p.1, p.2, sym c.deref-ring-items.ensures.value) (flaw_of_rings c.in_err-append_points.field-0.0 c.args.grid.now c.args.bytes.now c.deref-ring-items.result.now c.loop-ring.ring-index c.loop-ring-test.true c.in_err-append_points.ensures.fault)

pub loop-ring-preserved : goal.loop-ring-preserved
loop-ring-preserved g c = λ points ends rest.
    c.loop-ring.invariant points ends (one_more_ring c.args.grid.now c.args.bytes.now c.deref-ring-items.result.now c.loop-ring.ring-index c.loop-ring.points.items c.append_points.new.points.items c.append_points.new.told.items points c.loop-ring.ends.items c.push.new.self.items ends
    c.loop-ring-test.true c.in_ok-append_points.ensures.ring c.in_ok-append_points.ensures.ok
    (c.in_ok-push.ensures.items ∙ ap (λ (n : ℕ). c.loop-ring.ends.items ++ n ∷ []) (ap (λ (ps : List Point). length ps) c.as_slice-all.ensures.value)) rest)
