use Rattle.std.proofs.Common.{◌≡◌, ◌++◌, ◌∙◌, ℕ, length, ap, arith}
use Rattle.std.proofs.lemmas.Result.{on_ok_weaker}
use Rattle.noding.specs.Offsets.{offsets}
use Rattle.overlay.specs.Grouping.{polygons_of}
use Rattle.overlay.proofs.GroupingLemmas.Grouped.{AreAppended-all}
use Rattle.overlay.proofs.grouping.appending.append_in_order.Goals as goal

pub returns-clause-ok : goal.returns-clause-ok
returns-clause-ok g c =
    let order = c.args.order.now in
    let out = c.args.out.now in
    let len = c.len-first.ensures in
    let size : c.len-first.result ≡ length out.ring_ends.items = omega (arith, len) in
    let (points, ends) = c.in_ok-append_rings.ensures.ok in
    on_ok_weaker c.append_polygon_ends.result (λ (told : c.append_polygon_ends.new.polygon_ends.items ≡ out.polygon_ends.items ++ offsets c.len-first.result (polygons_of order)).
    AreAppended-all c.args.points.now order out.points.items c.append_rings.new.out.items out.ring_ends.items c.append_rings.new.ring_ends.items out.polygon_ends.items c.append_polygon_ends.new.polygon_ends.items
    points ends (told ∙ ap (λ (n : ℕ). out.polygon_ends.items ++ offsets n (polygons_of order)) size)) c.append_polygon_ends.ensures.ok
