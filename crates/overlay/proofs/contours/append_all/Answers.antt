use Rattle.std.proofs.Common.{List, IsPermutation, sym, subst}
use Rattle.std.specs.List.{flat_map}
use Rattle.std.proofs.lemmas.List.Sorted.{IsPermutation-sym, IsPermutation-trans}
use Rattle.std.proofs.lemmas.Result.{on_ok_weaker}
use Rattle.plane.specs.declared.edge.Edge.{Edge}
use Rattle.plane.specs.declared.point.Point.{Point}
use Rattle.overlay.specs.Contours.Rings.{ring_edges}
use Rattle.overlay.specs.Contours.Walks.{AreAppended}
use Rattle.noding.specs.Windings.{IsClosed}
use Rattle.overlay.proofs.ContourLemmas.Counts.{IsClosed-permuted}
use Rattle.overlay.specs.Sides.{AreBorders, KeepSides}
use Rattle.overlay.proofs.WindsLemmas.Walked.{sides-permuted}
use Rattle.overlay.proofs.contours.append_all.Goals as goal

pub append_rings-requires-clause-closed : goal.append_rings-requires-clause-closed
append_rings-requires-clause-closed g c =
    let edges = c.args.edges.items in
    let sorted = c.put_in_order.new.edges.items in
    subst (λ (list : List Edge). IsClosed list) (sym c.deref.ensures.value) (IsClosed-permuted edges sorted c.put_in_order.ensures.moved c.requires)

pub returns-clause-ok : goal.returns-clause-ok
returns-clause-ok g c =
    let edges = c.args.edges.items in
    let sorted = c.deref.result.now in
    let moved : IsPermutation edges sorted = subst (λ (list : List Edge). IsPermutation edges list) (sym c.deref.ensures.value) c.put_in_order.ensures.moved in
    on_ok_weaker c.append_rings.result (λ (found : (rings : List (List Point)) × AreAppended rings c.args.points.now.items c.append_rings.new.points.items c.args.ring_ends.now.items c.append_rings.new.ring_ends.items
    × IsPermutation (flat_map ring_edges rings) sorted × (AreBorders sorted → KeepSides sorted rings)). (
      found.0,
      record { each = found.1.each; all = IsPermutation-trans (flat_map ring_edges found.0) sorted edges found.2 (IsPermutation-sym edges sorted moved) },
      found.1.points_are,
      found.1.ends_are,
      sides-permuted edges sorted found.0 moved found.3,
    )) c.append_rings.ensures.ok
