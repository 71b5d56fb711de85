use Rattle.std.proofs.Common.{◌≡◌, ◌++◌, ◌∷◌, [], ℕ, Bool, List, length, get_or, ap, subst, subst₂, sym, ◌∙◌, arith}
use Rattle.std.specs.List.{flat_map}
use Rattle.std.proofs.lemmas.List.Edits.{length-between}
use Rattle.plane.specs.declared.edge.Edge.{Edge}
use Rattle.plane.proofs.PairsLemmas.Extends.{OnErr-always, Extends-trans}
use Rattle.noding.specs.Offsets.{offsets}
use Rattle.overlay.specs.Polygons.{rings_of as all_pieces}
use Rattle.overlay.specs.Rings.{AreEnds}
use Rattle.layers.specs.LineParts.{AreRunsBy, IsPath}
use Rattle.layers.proofs.EachLemmas.{AreAppended-more, AreAppended-none}
use Rattle.layers.proofs.ListLemmas.{AreEnds-at, length-lists_of, lists_of-at}
use Rattle.layers.proofs.LineLemmas.Runs.{AreAppended-line, upto-all, upto-more, upto-none}
use Rattle.layers.proofs.lines.joining.append_pieces.Goals as goal

pub list_at-requires-in-loop-line-clause-ends : goal.list_at-requires-in-loop-line-clause-ends
list_at-requires-in-loop-line-clause-ends g c = subst (λ (n : ℕ). AreEnds 0 c.args.ends.now n) (sym c.requires.flags) c.requires.ends

pub append_runs-requires-clause-flags : goal.append_runs-requires-clause-flags
append_runs-requires-clause-flags g c =
    let edges = c.args.edges.now in
    let kept = c.args.kept.now in
    let ends = c.args.ends.now in
    let line = c.loop-line.line in
    let test = c.loop-line-test.true in
    let start = get_or (0 ∷ ends) line 0 in
    let end = get_or ends line 0 in
    let (onwards, inside) = AreEnds-at 0 ends (length edges) line c.requires.ends test in
    let same = c.requires.flags in
    let size = ap (λ (list : List Edge). length list) (c.list_at.ensures ∙ lists_of-at edges 0 ends line test) in
    let marks = ap (λ (list : List Bool). length list) (c.list_at-in-loop-line.ensures ∙ lists_of-at kept 0 ends line test) in
    let first = length-between edges start end inside in
    let second = length-between kept start end (omega (arith, inside, same)) in
    omega (arith, size, marks, first, second)

pub append_runs-requires-clause-path : goal.append_runs-requires-clause-path
append_runs-requires-clause-path g c =
    let size = length-lists_of c.args.edges.now 0 c.args.ends.now in
    let test = c.loop-line-test.true in
    subst IsPath (sym c.list_at.ensures) (c.requires.paths c.loop-line.line [] (omega (arith, size, test)))

pub returns-in_err-append_runs-clause-err : goal.returns-in_err-append_runs-clause-err
returns-in_err-append_runs-clause-err g c =
    let out = c.args.out.now in
    let now = c.loop-line.out in
    let (clipped, are, upto) = c.loop-line.invariant in
    let (points, ends) = c.in_err-append_runs.ensures.err in
    OnErr-always c.from_residual.result _ (
      Extends-trans out.points.items now.points.items c.append_runs.new.points.items (flat_map (λ piece. piece) (all_pieces clipped), are.points_are) points,
      Extends-trans out.piece_ends.items now.piece_ends.items c.append_runs.new.ends.items (offsets (length out.points.items) (all_pieces clipped), are.rings_are) ends,
      (offsets (length out.piece_ends.items) clipped, are.polygons_are),
    )

pub returns-in_err-push-clause-err : goal.returns-in_err-push-clause-err
returns-in_err-push-clause-err g c =
    let out = c.args.out.now in
    let now = c.loop-line.out in
    let (clipped, are, upto) = c.loop-line.invariant in
    let (runs, told, points, ends) = c.in_ok-append_runs.ensures.ok in
    OnErr-always c.from_residual-in_err-push.result _ (
      Extends-trans out.points.items now.points.items c.append_runs.new.points.items (flat_map (λ piece. piece) (all_pieces clipped), are.points_are) (flat_map (λ run. run) runs, points),
      Extends-trans out.piece_ends.items now.piece_ends.items c.append_runs.new.ends.items (offsets (length out.points.items) (all_pieces clipped), are.rings_are) (offsets (length now.points.items) runs, ends),
      (offsets (length out.piece_ends.items) clipped, c.in_err-push.ensures.items ∙ are.polygons_are),
    )

pub loop-line-init : goal.loop-line-init
loop-line-init g c =
    let out = c.args.out.now in
    ([], AreAppended-none out.points.items out.piece_ends.items out.line_ends.items, upto-none c.args.edges.now c.args.kept.now c.args.ends.now)

pub loop-line-preserved : goal.loop-line-preserved
loop-line-preserved g c =
    let out = c.args.out.now in
    let now = c.loop-line.out in
    let (clipped, are, upto) = c.loop-line.invariant in
    let (runs, told, points, piece_ends) = c.in_ok-append_runs.ensures.ok in
    let size : c.len.result ≡ length c.append_runs.new.ends.items = (let len = c.len.ensures in omega (arith, len)) in (
      clipped ++ runs ∷ [],
      AreAppended-more clipped (runs ∷ []) out.points.items now.points.items c.append_runs.new.points.items out.piece_ends.items now.piece_ends.items c.append_runs.new.ends.items out.line_ends.items now.line_ends.items c.push.new.self.items
          are (AreAppended-line runs now.points.items c.append_runs.new.points.items now.piece_ends.items c.append_runs.new.ends.items now.line_ends.items c.push.new.self.items
          points piece_ends (c.in_ok-push.ensures.items ∙ ap (λ (n : ℕ). now.line_ends.items ++ n ∷ []) size)),
      upto-more c.args.edges.now c.args.kept.now c.args.ends.now c.loop-line.line clipped runs c.loop-line-test.true
          (subst₂ (λ (flags : List Bool) (some : List Edge). AreRunsBy flags some runs) c.list_at-in-loop-line.ensures c.list_at.ensures told) upto,
    )

pub returns-clause-ok : goal.returns-clause-ok
returns-clause-ok g c =
    let (clipped, are, upto) = c.loop-line.invariant in
    (clipped, are, upto-all c.args.edges.now c.args.kept.now c.args.ends.now c.loop-line.line clipped c.loop-line-test.false upto)
