use Rattle.std.proofs.Common.{◌<ℤ◌, ◌∙◌, ap, arith}
use Rattle.std.proofs.lemmas.Bool.{both_ways}
use Rattle.i_tree.proofs.RbLemmas.SearchPath.Descent.{cut_here, falls_left, falls_right, path_end, path_top}
use Rattle.i_tree.proofs.RbLemmas.SearchPath.Counts.{compared_all, compared_more, compared_none}
use Rattle.i_tree.proofs.RbLemmas.Shape.Contexts.{subtree_at-none}
use Rattle.i_tree.specs.Rb.Place.{place_below}
use Rattle.i_tree.specs.Rb.Shape.{entries, occurs, rank}
use Rattle.i_tree.specs.declared.TheConstants.{EMPTY_REF}
use Rattle.plane.specs.declared.sweep_line.active.ActiveEdge.{ActiveEdge}
use Rattle.plane.proofs.ColumnLemmas.StatusDescent.{All-at_entry, BeginsBehind, FindsInFront, descended, goes_on_left, goes_on_right}
use Rattle.plane.proofs.columns.descent.descend.Goals as goal
use Rattle.plane.proofs.columns.descent.descend.Goals.{then-on_right, else-on_right}

pub stands_in_front-on_right-requires-clause-right :
    goal.stands_in_front-on_right-requires-clause-right
stands_in_front-on_right-requires-clause-right g c =
    All-at_entry (λ (other : ActiveEdge). other.edge.x0 <ℤ other.edge.x1) (entries c.args.tree.now.shape) _ c.loop-here.here c.item.result.now _
    (cut_here c.args.tree.now.shape c.loop-here.here c.item.result.now c.item.ensures.value c.loop-here.invariant.way.at) c.requires.right

pub loop-here-init : goal.loop-here-init
loop-here-init g c =
    record {
      way = path_top _ _ _ c.args.tree.now.shape c.root-here.result tt (record { live = c.root-here.ensures.live; is = c.root-here.ensures.part });
      counted = compared_none g.met.C.Counter.law c.args.steps.now _ _ (omega (arith, ap rank c.root-here.ensures.part));
    }

pub loop-here-preserved-then-on_right-2 : goal.loop-here-preserved-then-on_right-2
loop-here-preserved-then-on_right-2 g c =
    let tree = c.args.tree.now.shape in
    record {
      way = elim c.if-on_right.branch [
        | then-on_right w ↦
            goes_on_right c.args.sought tree c.loop-here.here c.loop-here-test.true c.item.result.now c.item.ensures.value c.right-here.result
            (record { live = c.right-here.ensures.live; is = c.right-here.ensures.part }) (place_below c.loop-here.above c.loop-here.on_right) c.loop-here.last c.loop-here.invariant.way
            c.if-on_right-2.ensures c.stands_in_front-on_right.result c.if-on_right-2.true c.if-on_right.last w.last-is
        | else-on_right w ↦ absurd (both_ways c.stands_in_front-on_right.result w.if-on_right.false c.if-on_right-2.true)
      ];
      counted = compared_more g.met.C.Counter.law _ c.loop-here.steps c.add_comparison.new.self _ _ _ c.loop-here.invariant.counted
          (falls_right tree c.loop-here.here c.item.result.now c.item.ensures.value c.right-here.result c.item.ensures.core.falls c.right-here.ensures.part) c.add_comparison.ensures;
    }

pub loop-here-preserved : goal.loop-here-preserved
loop-here-preserved g c =
    let tree = c.args.tree.now.shape in
    record {
      way = elim c.if-on_right.branch [
        | then-on_right w ↦ absurd (both_ways c.stands_in_front-on_right.result c.if-on_right-2.false w.if-on_right.true)
        | else-on_right w ↦
            goes_on_left c.args.sought tree c.loop-here.here c.loop-here-test.true c.item.result.now c.item.ensures.value c.left-here.result
            (record { live = c.left-here.ensures.live; is = c.left-here.ensures.part }) (place_below c.loop-here.above c.loop-here.on_right) c.loop-here.last c.loop-here.invariant.way
            c.if-on_right-2.ensures c.stands_in_front-on_right.result c.if-on_right-2.false c.if-on_right.last w.last-is
      ];
      counted = compared_more g.met.C.Counter.law _ c.loop-here.steps c.add_comparison.new.self _ _ _ c.loop-here.invariant.counted
          (falls_left tree c.loop-here.here c.item.result.now c.item.ensures.value c.left-here.result c.item.ensures.core.falls c.left-here.ensures.part) c.add_comparison.ensures;
    }

pub returns-clause-steps : goal.returns-clause-steps
returns-clause-steps g c =
    compared_all g.met.C.Counter.law c.args.tree.now.shape c.args.steps.now c.loop-here.steps _ c.root-here.ensures.core c.loop-here.invariant.counted

pub returns-clause-end : goal.returns-clause-end
returns-clause-end g c =
    let tree = c.args.tree.now.shape in
    let empty = subtree_at-none c.loop-here.here tree (ap (λ handle. occurs handle tree) c.loop-here-test.false ∙ c.root-here.ensures.core.handles.none_empty) in
    descended c.args.sought tree (record { last = c.loop-here.last; above = c.loop-here.above; on_right = c.loop-here.on_right })
    (path_end (FindsInFront c.args.sought) (BeginsBehind c.args.sought) EMPTY_REF tree c.loop-here.here (place_below c.loop-here.above c.loop-here.on_right) c.loop-here.last empty c.loop-here.invariant.way)
    c.requires.parted.0 c.requires.parted.1 c.requires.parted.2
