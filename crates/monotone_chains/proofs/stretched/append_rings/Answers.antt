use Rattle.std.proofs.Common.{◌++◌, [], List, IsTrue, take, sym, ap, ◌∙◌, rules}
use Rattle.std.specs.List.{flat_map}
use Rattle.plane.specs.declared.point.Point.{Point}
use Rattle.overlay.specs.Contours.Rings.{ring_edges}
use Rattle.overlay.specs.Rings.{real_edges, rings_of}
use Rattle.overlay.proofs.EachRing.{real_more}
use Rattle.monotone_chains.proofs.StretchLemmas.CutParts.{AppendsParts-then}
use Rattle.monotone_chains.proofs.stretched.append_rings.Goals as goal

pub loop-ring-preserved : goal.loop-ring-preserved
loop-ring-preserved g c =
    let points = c.args.rings.points.now in
    let ends = c.args.rings.ends.now in
    let edges = real_edges (flat_map ring_edges (take c.loop-ring.ring (rings_of points 0 ends))) in
    let all : IsTrue c.in_ok-append_parts.field-0 = search rules in
    AppendsParts-then _ edges (real_edges (ring_edges c.ring_at-points.result.now)) c.args.parts.now.items c.loop-ring.parts.items c.append_parts.new.parts.items
    (real_more [] points ends c.loop-ring.ring c.loop-ring-test.true ∙ ap (λ (ring : List Point). edges ++ real_edges (ring_edges ring)) (sym c.ring_at-points.ensures))
    c.loop-ring.invariant (c.in_ok-append_parts.ensures all)
