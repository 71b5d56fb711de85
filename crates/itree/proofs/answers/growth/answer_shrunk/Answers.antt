use Rattle.std.proofs.Common.{◌≡◌, ◌∙◌, List, Err, ⊎_elim, ap, subst, sym, rules}
use Rattle.std.specs.List.{flat_map}
use Rattle.itree.specs.Answers.{IsUnfitShrunk}
use Rattle.itree.specs.RingLines.{RingLine, HoldsSaid, subject_of, others_of, shape_of}
use Rattle.itree.specs.declared.fault.Fault.TheVariants as faults
use Rattle.itree.specs.declared.fault.Unfit.{Unfit}
use Rattle.itree.proofs.Grown.{told-as, unfit-of}
use Rattle.itree.proofs.Ringed.{HasEnds-held, edges-held, rings-appended, all-appended}
use Rattle.offset.specs.Minkowski.{IsShrunk, IsErosionFault}
use Rattle.offset.specs.Shape.{IsConvexAroundOrigin}
use Rattle.offset.specs.declared.fault.MinkowskiFault.TheVariants as minkowski_fault
use Rattle.overlay.specs.Contours.Rings.{ring_edges}
use Rattle.overlay.specs.Rings.{edges_of}
use Rattle.plane.specs.declared.edge.Edge.{Edge}
use Rattle.plane.specs.declared.point.Point.{Point}
use Rattle.itree.proofs.answers.growth.answer_shrunk.Goals as goal

pub fault_of-requires : goal.fault_of-requires
fault_of-requires g c = λ is.
    let (said, held) = c.requires in
    let rings = c.args.rings.now in
    c.erode.ensures.lengths.0 (c.in-Err.is ∙ ap Err is)
    (HasEnds-held (subject_of said) c.rings-subject.result rings.subject.points.items rings.subject.ends.items c.rings-subject.ensures.points c.rings-subject.ensures.ends held.0)

pub returns-in-Ok-clause-answered : goal.returns-in-Ok-clause-answered
returns-in-Ok-clause-answered g c = λ said (subject, other).
    let rings = c.args.rings.now in
    let (convex, (polygons, is, appended)) = c.in-Ok.ensures.ok in
    let of_shape : c.as_slice-shape.result.now ≡ shape_of said = c.as_slice-shape.ensures.value ∙ other.0 in
    let of_subject = edges-held (subject_of said) c.rings-subject.result rings.subject.points.items rings.subject.ends.items c.rings-subject.ensures.points c.rings-subject.ensures.ends subject in
    let made = c.new-polygons.ensures in
    record {
      polygons = polygons;
      shape = subst IsConvexAroundOrigin of_shape convex;
      are = subst (λ (corners : List Point). IsShrunk c.args.rule (flat_map ring_edges (subject_of said)) corners polygons) of_shape
          (subst (λ (edges : List Edge). IsShrunk c.args.rule edges c.as_slice-shape.result.now polygons) of_subject is);
      written = c.in_ok-polygon_text-in-Ok.ensures polygons
          (rings-appended polygons c.new-polygons.result c.erode.new.out appended made.points made.ring_ends made.polygon_ends)
          (all-appended polygons c.new-polygons.result c.erode.new.out appended made.points made.ring_ends made.polygon_ends);
    }

pub returns-clause-unfit : goal.returns-clause-unfit
returns-clause-unfit g c = λ why told said (subject, other).
    let rings = c.args.rings.now in
    let of_shape : c.as_slice-shape.result.now ≡ shape_of said = c.as_slice-shape.ensures.value ∙ other.0 in
    let of_subject = edges-held (subject_of said) c.rings-subject.result rings.subject.points.items rings.subject.ends.items c.rings-subject.ensures.points c.rings-subject.ensures.ends subject in
    let same : c.fault_of.result ≡ faults.Unfit why = cc in
    ⊎_elim
    (λ (is, this).
    subst (λ (reason : Unfit). IsUnfitShrunk c.args.rule said reason) (sym this)
    (λ convex. (c.erode.ensures.shape.0 (c.in-Err.is ∙ ap Err is)).1 (subst IsConvexAroundOrigin (sym of_shape) convex)))
    (λ (is, this).
    subst (λ (reason : Unfit). IsUnfitShrunk c.args.rule said reason) (sym this)
    (subst (λ (corners : List Point). IsErosionFault c.args.rule (flat_map ring_edges (subject_of said)) corners minkowski_fault.Range) of_shape
    (subst (λ (edges : List Edge). IsErosionFault c.args.rule edges c.as_slice-shape.result.now minkowski_fault.Range) of_subject
    (c.erode.ensures.range (c.in-Err.is ∙ ap Err is)))))
    (unfit-of c.in-Err.fault why (sym c.fault_of.ensures ∙ same))

pub returns-clause-err : goal.returns-clause-err
returns-clause-err g c = told-as c.in-Err.fault c.fault_of.result c.fault_of.ensures
