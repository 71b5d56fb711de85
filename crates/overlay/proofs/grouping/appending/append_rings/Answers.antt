use Rattle.std.proofs.Common.{false, ◌≡◌, ◌<◌, ◌++◌, ◌∷◌, [], ℕ, List, get_or, length, map, ap, sym, ◌∙◌, arith}
use Rattle.std.proofs.lemmas.List.{get_or-map, length-map}
use Rattle.plane.specs.declared.point.Point.{Point}
use Rattle.overlay.proofs.ContourLemmas.Outlines.{outlines-more, stopped}
use Rattle.overlay.specs.Grouping.{ring_in}
use Rattle.overlay.specs.declared.grouping.order.PlacedRing.{PlacedRing}
use Rattle.overlay.proofs.grouping.appending.append_rings.Goals as goal

pub returns-in_err-append_outline-clause-err : goal.returns-in_err-append_outline-clause-err
returns-in_err-append_outline-clause-err g c =
    let (points, ends) = c.loop-ring.invariant in
    stopped c.from_residual.result _ _ _ _ _ _ _ points c.in_err-append_outline.ensures.err ends

pub returns-in_err-push-clause-err : goal.returns-in_err-push-clause-err
returns-in_err-push-clause-err g c =
    let (points, ends) = c.loop-ring.invariant in
    stopped c.from_residual-in_err-push.result _ _ _ _ _ _ _ points (_, c.in_ok-append_outline.ensures.ok) (c.in_err-push.ensures.items ∙ ends)

pub loop-ring-preserved : goal.loop-ring-preserved
loop-ring-preserved g c =
    let (points, ends) = c.loop-ring.invariant in
    let all = c.args.points.now in
    let order = c.args.order.now in
    let rings : List (List Point) = map (ring_in all) order in
    let k = c.loop-ring.ring-index in
    let none : PlacedRing = record { home = 0; is_hole = false; start = 0; end = 0 } in
    let ring = get_or order k none in
    let inside = c.loop-ring-test.true in
    let count = length-map order (ring_in all) in
    let within : k < length rings = omega (arith, inside, count) in
    let len = c.len.ensures in
    let size : c.len.result ≡ length c.append_outline.new.points.items = omega (arith, len) in
    outlines-more rings k within c.args.out.now.items c.loop-ring.out.items c.append_outline.new.points.items (ring_in all ring)
    c.args.ring_ends.now.items c.loop-ring.ring_ends.items c.push.new.self.items points ends (sym (get_or-map (ring_in all) order k none [] inside)) c.in_ok-append_outline.ensures.ok
    (c.in_ok-push.ensures.items ∙ ap (λ (n : ℕ). c.loop-ring.ring_ends.items ++ n ∷ []) size)
