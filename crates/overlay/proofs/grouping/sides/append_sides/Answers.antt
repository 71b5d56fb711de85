use Rattle.std.proofs.Common.{◌++◌, ◌+◌, ◌∷◌, [], List, drop, ap, subst, sym, ◌∙◌}
use Rattle.std.specs.List.{Contains}
use Rattle.plane.specs.declared.edge.Edge.{Edge}
use Rattle.plane.specs.declared.point.Point.{Point}
use Rattle.overlay.specs.declared.fill.pieces.Operand.TheVariants.{Subject}
use Rattle.overlay.specs.Contours.Outlines.{next_or, ring_point}
use Rattle.overlay.specs.Contours.Rings.{ring_edges}
use Rattle.overlay.specs.Fill.Turned.{turned}
use Rattle.plane.specs.Ends.{edge_between}
use Rattle.overlay.specs.Grouping.{edges_from, pieces_of}
use Rattle.overlay.proofs.GroupingLemmas.Edges.{edge_at-of, edges_from-first, edges_from-more, turned-more}
use Rattle.overlay.proofs.grouping.sides.append_sides.Goals as goal

pub loop-place-init : goal.loop-place-init
loop-place-init g c = (
  ap (λ (edges : List Edge). pieces_of c.args.sides.now.items ++ turned Subject edges) (sym (edges_from-first c.args.points.now)),
  λ rings inside same all. all,
)

pub loop-place-preserved : goal.loop-place-preserved
loop-place-preserved g c =
    let ring = c.args.points.now in
    let k = c.loop-place.place in
    let behind = ring_point ring 0 in
    let now = pieces_of c.loop-place.sides.items in
    let (same, of) = c.loop-place.invariant in (
      turned-more (edge_between (ring_point ring k) (next_or (drop (k + 1) ring) behind)) (edges_from (drop (k + 1) ring) behind) now (pieces_of c.append_side.new.sides.items) _
          (ap (λ (edges : List Edge). now ++ turned Subject edges) (sym (edges_from-more ring behind k c.loop-place-test.true)) ∙ same)
          (c.in_ok-append_side.ensures.pieces ∙ ap (λ (edge : Edge). now ++ turned Subject (edge ∷ [])) c.edge_at.ensures),
      λ rings inside_it at all. c.in_ok-append_side.ensures.of rings inside_it
          (subst (λ (points : List Point). Contains (ring_edges points) c.edge_at.result) at (subst (Contains (ring_edges ring)) (sym c.edge_at.ensures) (edge_at-of ring k c.loop-place-test.true))) (of rings inside_it at all),
    )
