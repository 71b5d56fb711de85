use Rattle.std.proofs.Common.{sym, ◌∙◌}
use Rattle.i_tree.specs.Rb.Context.{HasOneSubtree}
use Rattle.i_tree.proofs.RbLemmas.Balance.Ranks.{IsCore-from_red_black}
use Rattle.i_tree.proofs.RbLemmas.Removal.Shapes.{TakesOut-plain, TakesOut-rebalanced, IsRedBlack-unbalanced, LeavesShort, IsShort-at, IsHandle-gone, IsHandle-parent}
use Rattle.i_tree.proofs.RootLemmas.Counts.{OnlyRotates-none}
use Rattle.i_tree.proofs.rb.tree.RbTree.remove_at.Goals.{After-detach-item}
use Rattle.i_tree.proofs.rb.tree.RbTree.remove_at.Goals as goal

pub parent-parent-requires : goal.parent-parent-requires
parent-parent-requires g c = rw c.self.view_is (IsHandle-gone c.args.self.now.shape c.args.gone c.requires)

pub is_black-was_black-requires : goal.is_black-was_black-requires
is_black-was_black-requires g c = λ _. rw c.self.view_is (IsHandle-gone c.args.self.now.shape c.args.gone c.requires)

pub invariant_of-self : goal.invariant_of-self
invariant_of-self g c =
    let one : HasOneSubtree c.self.inside.arena.shape c.args.gone = rw c.self.view_is c.requires in
    let balanced = IsRedBlack-unbalanced _ c.detach.new.self.shape c.args.gone c.parent-parent.result c.is_black-was_black.result c.self.invariant.1 c.self.invariant.0 one
    c.detach.ensures.shape c.parent-parent.ensures.value c.is_black-was_black.ensures.value c.then-parent.either in
    (balanced, c.detach.ensures.handles)

pub returns-then-parent-clause-shape : goal.returns-then-parent-clause-shape
returns-then-parent-clause-shape g c =
    let one : HasOneSubtree c.self.inside.arena.shape c.args.gone = rw c.self.view_is c.requires in
    rw (← c.self.view_is) (TakesOut-plain _ c.args.gone c.detach.new.self.shape c.self.invariant.0 one c.detach.ensures.shape)

pub returns-then-parent-clause-core : goal.returns-then-parent-clause-core
returns-then-parent-clause-core g c = IsCore-from_red_black c.detach.new.self.shape c.detach.ensures.handles (invariant_of-self g c).0

pub side_of-side-requires : goal.side_of-side-requires
side_of-side-requires g c =
    let one : HasOneSubtree c.self.inside.arena.shape c.args.gone = rw c.self.view_is c.requires in
    IsHandle-parent _ c.args.gone c.parent-parent.result one c.parent-parent.ensures.value c.if-parent.false

leaves : (g : _) (c : goal.After-detach-item g) → LeavesShort c.self.inside.arena.shape c.args.gone c.parent-parent.result c.side_of-side.result c.detach-item.new.self.shape
leaves g c =
    record {
      handles = c.self.invariant.1;
      balanced = c.self.invariant.0;
      detaches = c.detach-item.ensures.shape;
      some = c.if-parent.false;
      parent_is = c.parent-parent.ensures.value;
      black_is = λ around subtree is at. sym c.if-not-was_black.false ∙ c.is_black-was_black.ensures.value around subtree is at;
      side_is = c.side_of-side.ensures;
    }

pub rebalance_removal-requires : goal.rebalance_removal-requires
rebalance_removal-requires g c =
    let one : HasOneSubtree c.self.inside.arena.shape c.args.gone = rw c.self.view_is c.requires in
    IsShort-at _ c.detach-item.new.self.shape c.args.gone c.parent-parent.result c.side_of-side.result one (leaves g (goal.at.rebalance_removal-requires g c).After-detach-item)

pub returns-clause-shape : goal.returns-clause-shape
returns-clause-shape g c =
    let one : HasOneSubtree c.self.inside.arena.shape c.args.gone = rw c.self.view_is c.requires in
    rw (← c.self.view_is) (TakesOut-rebalanced _ c.detach-item.new.self.shape c.rebalance_removal.new.arena.shape c.args.gone c.parent-parent.result c.side_of-side.result one (leaves g (goal.at.returns-clause-shape g c).After-detach-item) c.rebalance_removal.ensures.rebalanced)

pub returns-clause-core : goal.returns-clause-core
returns-clause-core g c = IsCore-from_red_black c.rebalance_removal.new.arena.shape c.rebalance_removal.ensures.handles c.rebalance_removal.ensures.balanced

pub returns-then-parent-clause-steps : goal.returns-then-parent-clause-steps
returns-then-parent-clause-steps g c = OnlyRotates-none g.met.C.Counter.law c.args.steps.now 3
