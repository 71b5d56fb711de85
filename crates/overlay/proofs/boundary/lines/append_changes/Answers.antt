use Rattle.std.proofs.Common.{◌≡◌, ◌≢◌, ◌++◌, ◌∷◌, [], List, pos, get_or, take, sym, ap, subst, subst₂, ◌∙◌, arith}
use Rattle.std.proofs.lemmas.Int.{ints}
use Rattle.std.proofs.lemmas.Bool.{MatchBool-at_true}
use Rattle.std.proofs.lemmas.List.{take_all, take_more}
use Rattle.std.proofs.lemmas.Result.{on_ok_weaker}
use Rattle.plane.specs.declared.edge.Edge.{Edge}
use Rattle.overlay.specs.declared.boundary.lines.Change.{Change}
use Rattle.overlay.specs.declared.boundary.lines.Run.{Run}
use Rattle.overlay.specs.Lines.{AppendsTold, IsSmallRun, longer, no_run, run_changes}
use Rattle.overlay.proofs.LineLemmas.Runs.{AreRunUpto, runs-all, runs-more, runs-next, runs-none, small-none}
use Rattle.overlay.proofs.boundary.lines.append_changes.Goals as goal
use Rattle.overlay.proofs.boundary.lines.append_changes.Goals.{then-run-eq-LONGEST_RUN+in_ok-push_run, then-run-eq-LONGEST_RUN-via-then-run-eq-LONGEST_RUN, then-run-eq-LONGEST_RUN-via-else-run-eq-LONGEST_RUN+then-not-is_same, else-run-eq-LONGEST_RUN+else-not-is_same}

pub loop-edge-init : goal.loop-edge-init
loop-edge-init g c =
    let none : Edge = record { x0 = pos 0; y0 = pos 0; x1 = pos 0; y1 = pos 0 } in
    subst (AreRunUpto c.args.operand [] c.args.changes.now.items c.args.changes.now.items) (sym c.no_run-run.ensures) (runs-none c.args.operand c.args.changes.now.items none)

pub push_run-requires : goal.push_run-requires
push_run-requires g c = c.loop-edge.invariant.small

pub push_run-requires-2 : goal.push_run-requires-2
push_run-requires-2 g c = c.loop-edge.invariant.small

pub longer-run-requires-clause-small : goal.longer-run-requires-clause-small
longer-run-requires-clause-small g c =
    elim c.if-run-eq-LONGEST_RUN.branch [
      | then-run-eq-LONGEST_RUN+in_ok-push_run w ↦ subst IsSmallRun (sym (w.run-is ∙ w.no_run-run-then-run-eq-LONGEST_RUN.ensures)) (small-none c.onwards-line.result)
      | else-run-eq-LONGEST_RUN+else-not-is_same w ↦ subst IsSmallRun (sym w.run-is) c.loop-edge.invariant.small
    ]

-- The edge goes on the run, where that has room and is of its line, and else a run that begins behind the one before.
pub loop-edge-preserved : goal.loop-edge-preserved
loop-edge-preserved g c =
    let operand = c.args.operand in
    let edges = c.args.edges.now in
    let k = c.loop-edge.edge-index in
    let before = c.args.changes.now.items in
    let now = c.loop-edge.changes.items in
    let run = c.loop-edge.run in
    let line = c.onwards-line.result in
    let none : Edge = record { x0 = pos 0; y0 = pos 0; x1 = pos 0; y1 = pos 0 } in
    let edge = get_or edges k none in
    subst (λ (done : List Edge). AreRunUpto operand done before c.if-run-eq-LONGEST_RUN.changes.items c.longer-run.result) (sym (take_more edges k none c.loop-edge-test.true))
    (elim c.if-run-eq-LONGEST_RUN.branch [
      | then-run-eq-LONGEST_RUN+in_ok-push_run w ↦
          let is = w.run-is ∙ w.no_run-run-then-run-eq-LONGEST_RUN.ensures in
          subst₂ (AreRunUpto operand (take k edges ++ edge ∷ []) before)
          (sym (ap (λ changes. changes.items) w.changes-is ∙ w.in_ok-push_run.ensures)) (sym (c.longer-run.ensures ∙ ap (λ (one : Run). longer one edge) is))
          (runs-more operand (take k edges) before (now ++ run_changes operand run) (no_run line) (runs-next operand (take k edges) before now run c.loop-edge.invariant line) edge (sym c.onwards-line.ensures) (omega (arith, ints)))
      | else-run-eq-LONGEST_RUN+else-not-is_same w ↦
          let most = c.loop-edge.invariant.small.upto in
          let other = w.if-run-eq-LONGEST_RUN.false in
          let same = MatchBool-at_true (line ≡ run.edge) (line ≢ run.edge) w.if-not-is_same.false w.is_same.ensures in
          subst₂ (AreRunUpto operand (take k edges ++ edge ∷ []) before)
          (sym (ap (λ changes. changes.items) w.changes-is)) (sym (c.longer-run.ensures ∙ ap (λ (one : Run). longer one edge) w.run-is))
          (runs-more operand (take k edges) before now run c.loop-edge.invariant edge (sym c.onwards-line.ensures ∙ same) (omega (arith, ints, most, other)))
    ])

pub returns : goal.returns
returns g c =
    let edges = c.args.edges.now in
    let k = c.loop-edge.edge-index in
    let before = c.args.changes.now.items in
    let now = c.loop-edge.changes.items in
    let run = c.loop-edge.run in
    let all = runs-all c.args.operand (take k edges) before now run c.loop-edge.invariant in
    on_ok_weaker c.push_run-2.result
    (λ items. subst₂ (λ (done : List Edge) (after : List Change). AppendsTold c.args.operand done before after) (take_all k edges c.loop-edge-test.false) (sym items) all) c.push_run-2.ensures
