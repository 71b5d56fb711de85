use Rattle.std.proofs.Common.{◌≡◌, ◌∙◌, [], ◌++◌, ap, ℕ, length, pos, subst, sym, arith}
use Rattle.std.specs.Bool.{◌==◌}
use Rattle.std.specs.List.{All}
use Rattle.plane.specs.declared.edge.Edge.{Edge}
use Rattle.noding.specs.Crossings.{AreHot}
use Rattle.noding.specs.Local.{Moves}
use Rattle.noding.proofs.ChainLemmas.Spreading.{empty-told}
use Rattle.noding.proofs.ColumnLemmas.Rounds.{AreMoved-rounds, AreSpreadStops-rounds, rounds-begin, rounds-next}
use Rattle.noding.proofs.columns.rounds.moved_in_rounds.Goals as goal

pub loop-init : goal.loop-init
loop-init g c = ([], rounds-begin c.args.edges.now c.in_ok-fresh.fresh.items c.in_ok-vec.field-0.items c.new.result.items c.in_ok-fresh.ensures (c.in_ok-vec.ensures.items_if_clones_equal (λ flag same. same)) c.new.ensures.items)

pub spread_points-requires-clause-hot : goal.spread_points-requires-clause-hot
spread_points-requires-clause-hot g c = subst (AreHot c.args.edges.now) (sym c.deref.ensures.value) c.in_ok-hot.ensures

pub spread_points-requires-clause-fresh : goal.spread_points-requires-clause-fresh
spread_points-requires-clause-fresh g c = subst (All (λ point. Moves c.args.edges.now point.x point.y)) (sym c.deref-in-loop.ensures.value) c.loop.invariant.1.moving

pub returns-then-is_empty-clause-moved : goal.returns-then-is_empty-clause-moved
returns-then-is_empty-clause-moved g c =
    let edges = c.args.edges.now in
    let (done, are) = c.loop.invariant in
    let fresh = c.loop.fresh.items in
    let points = c.in_ok-fresh-2.fresh.items in
    let spread = c.spread_points.new.spread in
    let made = c.in_ok-fresh-2.fresh.ok.0 in
    let long : c.in_ok-fresh-2.fresh.len ≡ length points = omega (arith, made) in
    let none : Edge = record { x0 = pos 0; y0 = pos 0; x1 = pos 0; y1 = pos 0 } in
    AreMoved-rounds edges (done ++ fresh) points spread.flags.items spread.stops.items
    (rounds-next edges done fresh c.loop.spread.flags.items c.loop.spread.stops.items are c.deref-in-loop.result.now c.deref-in-loop.ensures.value spread.flags.items spread.stops.items points c.in_ok-fresh-2.ensures.ok)
    (empty-told points c.is_empty.result (c.is_empty.ensures ∙ ap (λ (n : ℕ). n == 0) long) c.if-is_empty.true) none

pub returns-then-is_empty-clause-stops : goal.returns-then-is_empty-clause-stops
returns-then-is_empty-clause-stops g c =
    let edges = c.args.edges.now in
    let (done, are) = c.loop.invariant in
    let fresh = c.loop.fresh.items in
    let points = c.in_ok-fresh-2.fresh.items in
    let spread = c.spread_points.new.spread in
    let made = c.in_ok-fresh-2.fresh.ok.0 in
    let long : c.in_ok-fresh-2.fresh.len ≡ length points = omega (arith, made) in
    AreSpreadStops-rounds edges (done ++ fresh) points spread.flags.items spread.stops.items
    (rounds-next edges done fresh c.loop.spread.flags.items c.loop.spread.stops.items are c.deref-in-loop.result.now c.deref-in-loop.ensures.value spread.flags.items spread.stops.items points c.in_ok-fresh-2.ensures.ok)
    (empty-told points c.is_empty.result (c.is_empty.ensures ∙ ap (λ (n : ℕ). n == 0) long) c.if-is_empty.true)

pub loop-preserved : goal.loop-preserved
loop-preserved g c =
    let (done, are) = c.loop.invariant in
    let fresh = c.loop.fresh.items in
    let spread = c.spread_points.new.spread in (
      done ++ fresh,
      rounds-next c.args.edges.now done fresh c.loop.spread.flags.items c.loop.spread.stops.items are c.deref-in-loop.result.now c.deref-in-loop.ensures.value spread.flags.items spread.stops.items c.in_ok-fresh-2.fresh.items c.in_ok-fresh-2.ensures.ok,
    )
