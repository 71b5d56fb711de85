use Rattle.std.proofs.Common.{◌∙◌, List, Err, ap, subst}
use Rattle.std.specs.List.{flat_map}
use Rattle.itree.specs.RingLines.{subject_of, others_of}
use Rattle.itree.proofs.Ringed.{HasEnds-held, edges-held, rings-appended, all-appended}
use Rattle.overlay.specs.Contours.Rings.{ring_edges}
use Rattle.plane.specs.declared.edge.Edge.{Edge}
use Rattle.overlay.specs.Overlay.{IsOverlay}
use Rattle.overlay.specs.Rings.{edges_of}
use Rattle.itree.proofs.answers.rings.answer_rings.Goals as goal

pub unreachable-requires : goal.unreachable-requires
unreachable-requires g c =
    let (said, held) = c.requires in
    let rings = c.args.rings.now in
    c.overlay.ensures.lengths.0 (c.in-Err-Lengths.is ∙ ap Err c.in-Err-Lengths.field-0-is) (
      HasEnds-held (subject_of said) c.rings-subject.result rings.subject.points.items rings.subject.ends.items c.rings-subject.ensures.points c.rings-subject.ensures.ends held.0,
      HasEnds-held (others_of said) c.rings-clip.result rings.other.points.items rings.other.ends.items c.rings-clip.ensures.points c.rings-clip.ensures.ends held.1,
    )

pub returns-in-Ok-clause-answered : goal.returns-in-Ok-clause-answered
returns-in-Ok-clause-answered g c = λ said (subject, clip).
    let rings = c.args.rings.now in
    let (polygons, is, appended) = c.in-Ok.ensures.ok in
    let of_subject = edges-held (subject_of said) c.rings-subject.result rings.subject.points.items rings.subject.ends.items c.rings-subject.ensures.points c.rings-subject.ensures.ends subject in
    let of_clip = edges-held (others_of said) c.rings-clip.result rings.other.points.items rings.other.ends.items c.rings-clip.ensures.points c.rings-clip.ensures.ends clip in
    let made = c.new-polygons.ensures in
    record {
      polygons = polygons;
      are = subst (λ (edges : List Edge). IsOverlay c.args.rule c.args.operation (flat_map ring_edges (subject_of said)) edges polygons) of_clip
          (subst (λ (edges : List Edge). IsOverlay c.args.rule c.args.operation edges (edges_of c.rings-clip.result) polygons) of_subject is);
      written = c.in_ok-polygon_text-in-Ok.ensures polygons
          (rings-appended polygons c.new-polygons.result c.overlay.new.out appended made.points made.ring_ends made.polygon_ends)
          (all-appended polygons c.new-polygons.result c.overlay.new.out appended made.points made.ring_ends made.polygon_ends);
    }
