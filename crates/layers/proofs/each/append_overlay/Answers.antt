use Rattle.std.proofs.Common.{List, ap, subst₂, ◌∙◌}
use Rattle.std.specs.Prelude.{Err}
use Rattle.plane.specs.declared.edge.Edge.{Edge}
use Rattle.overlay.specs.Overlay.{IsOverlay}
use Rattle.overlay.specs.declared.fault.OverlayFault.{OverlayFault}
use Rattle.layers.specs.Gathered.{group_rings}
use Rattle.layers.proofs.EachLemmas.{HasEnds-joined}
use Rattle.layers.proofs.each.append_overlay.Goals as goal

pub returns-in-Ok-clause-ok : goal.returns-in-Ok-clause-ok
returns-in-Ok-clause-ok g c =
    let (polygons, is, appended) = c.in-Ok.ensures.ok in
    let (ends, edges) = HasEnds-joined (group_rings c.args.pair.subject) _ _ c.rings.result c.rings.ensures.points c.rings.ensures.ends c.in_ok-subject.ensures in
    let (clip_ends, clip_edges) = HasEnds-joined (group_rings c.args.pair.clip) _ _ c.rings-2.result c.rings-2.ensures.points c.rings-2.ensures.ends c.in_ok-clip.ensures in
    (polygons, subst₂ (λ (subject clip : List Edge). IsOverlay c.args.pair.rule c.args.pair.operation subject clip polygons) edges clip_edges is, appended)

pub unreachable-requires : goal.unreachable-requires
unreachable-requires g c =
    let (ends, edges) = HasEnds-joined (group_rings c.args.pair.subject) _ _ c.rings.result c.rings.ensures.points c.rings.ensures.ends c.in_ok-subject.ensures in
    let (clip_ends, clip_edges) = HasEnds-joined (group_rings c.args.pair.clip) _ _ c.rings-2.result c.rings-2.ensures.points c.rings-2.ensures.ends c.in_ok-clip.ensures in
    c.overlay.ensures.lengths.0 (c.in-Err-Lengths.is ∙ ap (λ (fault : OverlayFault). Err fault) c.in-Err-Lengths.field-0-is) (ends, clip_ends)
