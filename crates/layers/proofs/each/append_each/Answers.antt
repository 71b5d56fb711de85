use Rattle.std.proofs.Common.{◌++◌, ◌∷◌, [], ◌∙◌, List, subst₂, sym, append-nil, arith}
use Rattle.plane.specs.declared.edge.Edge.{Edge}
use Rattle.plane.proofs.PairsLemmas.Extends.{OnErr-always, Extends-trans}
use Rattle.overlay.specs.Overlay.{IsOverlay}
use Rattle.layers.specs.Shapes.{edges_of_groups}
use Rattle.layers.proofs.EachLemmas.{AreAppended-group, AreAppended-none, AreOverlaysUpto-all, AreOverlaysUpto-more, AreOverlaysUpto-none, edges_of_groups-at, ends-group, length-edges_of_groups}
use Rattle.layers.proofs.each.append_each.Goals as goal

pub loop-at-init : goal.loop-at-init
loop-at-init g c = (
  [],
  AreOverlaysUpto-none c.args.rule c.args.operation (edges_of_groups c.args.subjects.shapes c.args.subjects.groups) (edges_of_groups c.args.clips.shapes c.args.clips.groups),
  AreAppended-none c.args.out.now.points.items c.args.out.now.ring_ends.items c.args.out.now.polygon_ends.items,
  sym (append-nil c.args.ends.now.items),
)

pub loop-at-preserved : goal.loop-at-preserved
loop-at-preserved g c =
    let rule = c.args.rule in
    let operation = c.args.operation in
    let subjects = edges_of_groups c.args.subjects.shapes c.args.subjects.groups in
    let clips = edges_of_groups c.args.clips.shapes c.args.clips.groups in
    let at = c.loop-at.at in
    let test = c.loop-at-test.true in
    let alike = c.requires.lengths.4 in
    let (each, upto, appended, ends) = c.loop-at.invariant in
    let (polygons, is, more) = c.in_ok-append_pair.ensures.ok in
    let subject_is = edges_of_groups-at c.args.subjects.shapes c.args.subjects.groups c.group_at.result at test c.group_at.ensures.rings in
    let clip_is = edges_of_groups-at c.args.clips.shapes c.args.clips.groups c.group_at-in-loop-at.result at (omega (arith, test, alike)) c.group_at-in-loop-at.ensures.rings in
    let all = AreAppended-group each polygons _ _ _ _ _ _ _ _ _ appended more in
    let len = c.len.ensures in (
      each ++ polygons ∷ [],
      AreOverlaysUpto-more rule operation subjects clips at each polygons upto (subst₂ (λ (subject clip : List Edge). IsOverlay rule operation subject clip polygons) subject_is clip_is is),
      all,
      ends-group each polygons _ _ _ _ _ _ _ _ _ c.len.result all ends (omega (arith, len)) c.in_ok-push.ensures.items,
    )

pub returns-clause-ok : goal.returns-clause-ok
returns-clause-ok g c =
    let subjects = edges_of_groups c.args.subjects.shapes c.args.subjects.groups in
    let clips = edges_of_groups c.args.clips.shapes c.args.clips.groups in
    let (each, upto, appended, ends) = c.loop-at.invariant in
    let past = c.loop-at-test.false in
    let within = c.loop-at.auto.at-end in
    let alike = c.requires.lengths.4 in
    let size = length-edges_of_groups c.args.subjects.shapes c.args.subjects.groups in
    let clip_size = length-edges_of_groups c.args.clips.shapes c.args.clips.groups in (
      each,
      AreOverlaysUpto-all c.args.rule c.args.operation subjects clips c.loop-at.at each (omega (arith, size, past, within)) (omega (arith, clip_size, alike, past, within)) upto,
      appended,
      ends,
    )

pub returns-in_err-append_pair-clause-err : goal.returns-in_err-append_pair-clause-err
returns-in_err-append_pair-clause-err g c =
    let (each, upto, appended, ends) = c.loop-at.invariant in
    let (points, ring_ends, polygon_ends) = c.in_err-append_pair.ensures.err in
    OnErr-always c.from_residual.result _ (
      (
        Extends-trans c.args.out.now.points.items c.loop-at.out.points.items c.append_pair.new.out.points.items (_, appended.points_are) points,
        Extends-trans c.args.out.now.ring_ends.items c.loop-at.out.ring_ends.items c.append_pair.new.out.ring_ends.items (_, appended.rings_are) ring_ends,
        Extends-trans c.args.out.now.polygon_ends.items c.loop-at.out.polygon_ends.items c.append_pair.new.out.polygon_ends.items (_, appended.polygons_are) polygon_ends,
      ),
      (_, ends),
    )

pub returns-in_err-push-clause-err : goal.returns-in_err-push-clause-err
returns-in_err-push-clause-err g c =
    let (each, upto, appended, ends) = c.loop-at.invariant in
    let (polygons, is, more) = c.in_ok-append_pair.ensures.ok in
    let all = AreAppended-group each polygons _ _ _ _ _ _ _ _ _ appended more in
    OnErr-always c.from_residual-in_err-push.result _ (
      ((_, all.points_are), (_, all.rings_are), (_, all.polygons_are)),
      (_, c.in_err-push.ensures.items ∙ ends),
    )
