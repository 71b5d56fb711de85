use Rattle.std.proofs.Common.{◌∷◌, [], ◌++◌, List, map, pos, take, refl, sym, ap, ◌∙◌, append-nil, subst, arith}
use Rattle.std.specs.List.{AllZip}
use Rattle.std.proofs.lemmas.List.{flat_map_more, take_all, take_more}
use Rattle.plane.specs.declared.edge.Edge.{Edge}
use Rattle.plane.specs.declared.point.Point.{Point}
use Rattle.overlay.specs.Contours.Outlines.{ring_point}
use Rattle.overlay.specs.Contours.Rings.{ring_edges}
use Rattle.plane.specs.Ends.{edge_between}
use Rattle.monotone_chains.specs.Stretches.{GoesAlong, but_last}
use Rattle.monotone_chains.specs.Stretches.Cut.{way}
use Rattle.noding.proofs.ChainLemmas.Zips.{AllZip-more}
use Rattle.monotone_chains.proofs.StretchLemmas.RingEdges.{length-ring_edges, ring-edge}
use Rattle.monotone_chains.proofs.stretches.widening.append_ring.Goals as goal

pub loop-place-init : goal.loop-place-init
loop-place-init g c = ([], tt, sym (append-nil c.args.points.now.items))

pub loop-place-preserved : goal.loop-place-preserved
loop-place-preserved g c =
    let (ways, goes, is) = c.loop-place.invariant in
    let (on, along, now) = c.in_ok-append_way.ensures in
    let ring = c.args.ring.now in
    let k = c.loop-place.place in
    let old = c.args.points.now.items in
    let inside = c.loop-place-test.true in
    let edges = ring_edges ring in
    let none : Edge = record { x0 = pos 0; y0 = pos 0; x1 = pos 0; y1 = pos 0 } in
    let edge = edge_between (ring_point ring k) c.next_in.result in
    let size = length-ring_edges ring in
    let stands = ring-edge ring k none inside ∙ sym (ap (λ (to : Point). edge_between (ring_point ring k) to) c.next_in.ensures) in
    let more = take_more edges k none (omega (arith, size, inside)) ∙ ap (λ (e : Edge). take k edges ++ e ∷ []) stands in
    let goes_on = GoesAlong (map way c.args.parts.now) in (
      ways ++ on ∷ [],
      subst (λ (some : List Edge). AllZip goes_on some (ways ++ on ∷ [])) (sym more) (AllZip-more goes_on (take k edges) ways edge on goes along),
      now ∙ ap (λ (list : List Point). list ++ but_last on) is ∙ flat_map_more but_last old ways on,
    )

pub returns : goal.returns
returns g c =
    let (ways, goes, is) = c.loop-place.invariant in
    let edges = ring_edges c.args.ring.now in
    let past = c.loop-place-test.false in
    let size = length-ring_edges c.args.ring.now in
    let all = take_all c.loop-place.place edges (omega (arith, past, size)) in
    (_, (ways, subst (λ (some : List Edge). AllZip (GoesAlong (map way c.args.parts.now)) some ways) all goes, refl), is)
