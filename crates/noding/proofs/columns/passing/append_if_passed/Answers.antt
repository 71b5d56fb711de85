use Rattle.std.proofs.Common.{◌∙◌, ap, get_or, pos, rules, w32, FitsSigned}
use Rattle.std.proofs.lemmas.Int.{to_z-of_z}
use Rattle.plane.specs.Pairs.Pairs.{PairBetween}
use Rattle.plane.specs.declared.point.Point.{Point}
use Rattle.noding.specs.Close.{PassesInside, PassesPoint}
use Rattle.noding.specs.Columns.Passing.{nowhere}
use Rattle.noding.proofs.ColumnLemmas.PassingPairs.{is_none, is_pair, keeps-all, keeps-first, keeps-less, keeps-more}
use Rattle.noding.proofs.columns.passing.append_if_passed.Goals as goal
use Rattle.noding.proofs.columns.passing.append_if_passed.Goals.{then-passes_inside+in_ok-push, else-passes_inside}

pub loop-pair-init : goal.loop-pair-init
loop-pair-init g c = keeps-first (PairBetween PassesPoint c.args.edges.now c.args.points.now) c.args.met.now c.args.pairs.now.items

pub loop-pair-preserved : goal.loop-pair-preserved
loop-pair-preserved g c =
    let edges = c.args.edges.now in
    let points = c.args.points.now in
    let met = c.args.met.now in
    let k = c.loop-pair.pair-index in
    let origin : Point = record { x = pos 0; y = pos 0 } in
    let pair = get_or met k (0, 0) in
    let edge = get_or edges pair.0 nowhere in
    let point = get_or points pair.1 origin in
    let within = c.requires k (0, 0) c.loop-pair-test.true in
    let x : FitsSigned w32 point.x = search rules in
    let y : FitsSigned w32 point.y = search rules in
    elim c.if-passes_inside.branch [
      | then-passes_inside+in_ok-push w ↦
          let passes : PassesInside edge point.x point.y = simp to_z-of_z at w.if-passes_inside.ensures in
          keeps-more (PairBetween PassesPoint edges points) met c.args.pairs.now.items k c.loop-pair.pairs.items c.if-passes_inside.pairs.items c.loop-pair-test.true c.loop-pair.invariant
          (is_pair edges points pair nowhere origin within.0 within.1 passes) (ap (λ pairs. pairs.items) w.pairs-is ∙ w.in_ok-push.ensures.items)
      | else-passes_inside w ↦
          let none : ¬ (PassesInside edge point.x point.y) = simp to_z-of_z at w.if-passes_inside.ensures in
          keeps-less (PairBetween PassesPoint edges points) met c.args.pairs.now.items k c.loop-pair.pairs.items c.if-passes_inside.pairs.items c.loop-pair-test.true c.loop-pair.invariant
          (is_none edges points pair nowhere origin within.0 within.1 none) (ap (λ pairs. pairs.items) w.pairs-is)
    ]

pub returns : goal.returns
returns g c =
    keeps-all (PairBetween PassesPoint c.args.edges.now c.args.points.now) c.args.met.now c.args.pairs.now.items c.loop-pair.pair-index c.loop-pair.pairs.items c.loop-pair-test.false c.loop-pair.invariant
