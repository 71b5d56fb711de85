use Rattle.std.proofs.Common.{◌≡◌, [], length, refl, sym, ap, ◌∙◌, arith}
use Rattle.i_tree.specs.Rb.Balance.{IsShort}
use Rattle.i_tree.specs.Rb.Shape.{entries}
use Rattle.i_tree.proofs.RbLemmas.Removal.Rebalancing.{balanced-ended, balanced-root, at_root, IsHandle-risen, IsHandle-above, entries-risen, red_nodes-few}
use Rattle.i_tree.proofs.RbLemmas.Removal.Progress.{Rebalances, Progress-start, Progress-next, Rebalances-ended, Rebalances-root}
use Rattle.i_tree.proofs.RootLemmas.Counts.{OnlyRotates-none, OnlyRotates-both}
use Rattle.i_tree.proofs.rb.rebalancing.removal.rebalance_removal.Goals as goal

pub loop-parent-init : goal.loop-parent-init
loop-parent-init g c =
    record {
      rebalances = λ cut. Progress-start c.args.arena.now.shape c.args.parent c.args.short cut;
      spare = refl;
      steps = OnlyRotates-none g.met.C.Counter.law c.args.steps.now 0;
    }

pub rebalance_short_side-requires : goal.rebalance_short_side-requires
rebalance_short_side-requires g c =
    (c.loop-parent.invariant.rebalances c.requires).present

-- the last step has rebalanced the present node
rebalances_ended : (g : _) (c : goal.Then-rebalance_short_side g) (cut : IsShort c.args.arena.now.shape c.args.parent c.args.short) → Rebalances c.args.arena.now.shape c.args.parent c.args.short cut cut.around c.rebalance_short_side.new.arena.shape
rebalances_ended g c cut =
    let progress = c.loop-parent.invariant.rebalances cut in
    Rebalances-ended c.args.arena.now.shape c.args.parent c.args.short cut c.loop-parent.arena.shape c.rebalance_short_side.new.arena.shape c.loop-parent.node c.loop-parent.side progress
    (c.if-rebalance_short_side.ensures.rebalanced progress.present)

pub returns-then-rebalance_short_side : goal.returns-then-rebalance_short_side
returns-then-rebalance_short_side g c =
    let present = (c.loop-parent.invariant.rebalances c.requires).present in
    record {
      balanced = balanced-ended c.loop-parent.arena.shape c.rebalance_short_side.new.arena.shape c.loop-parent.node c.loop-parent.side present (c.if-rebalance_short_side.ensures.rebalanced present);
      spare = c.rebalance_short_side.ensures.spare ∙ c.loop-parent.invariant.spare;
      handles = c.rebalance_short_side.ensures.handles;
      steps = OnlyRotates-both g.met.C.Counter.law 3 (omega arith) c.loop-parent.invariant.steps c.if-rebalance_short_side.ensures.steps;
      rebalanced = record {
        list = (rebalances_ended g c c.requires).entries_are ∙ sym (ap entries c.requires.is);
        own = λ cut. (rebalances_ended g c cut).own;
        outer = λ cut. (rebalances_ended g c cut).outer;
        whole = λ cut. (rebalances_ended g c cut).whole;
      };
    }

pub parent-above-requires : goal.parent-above-requires
parent-above-requires g c =
    let present = (c.loop-parent.invariant.rebalances c.requires).present in
    IsHandle-risen c.loop-parent.arena.shape c.rebalance_short_side.new.arena.shape c.loop-parent.node c.loop-parent.side present (c.if-rebalance_short_side.ensures.rebalanced present)

-- the subtree that is a level short now is the whole tree
root : (g : _) (c : goal.Then-above g) (present : IsShort c.loop-parent.arena.shape c.loop-parent.node c.loop-parent.side) → present.around ≡ []
root g c present =
    at_root c.loop-parent.arena.shape c.rebalance_short_side.new.arena.shape c.loop-parent.node c.loop-parent.side present (c.if-rebalance_short_side.ensures.rebalanced present)
    c.parent-above.result c.parent-above.ensures.value c.rebalance_short_side.ensures.handles c.if-above.true

rebalances_root : (g : _) (c : goal.Then-above g) (cut : IsShort c.args.arena.now.shape c.args.parent c.args.short) → Rebalances c.args.arena.now.shape c.args.parent c.args.short cut cut.around c.rebalance_short_side.new.arena.shape
rebalances_root g c cut =
    let progress = c.loop-parent.invariant.rebalances cut in
    Rebalances-root c.args.arena.now.shape c.args.parent c.args.short cut c.loop-parent.arena.shape c.rebalance_short_side.new.arena.shape c.loop-parent.node c.loop-parent.side progress
    (c.if-rebalance_short_side.ensures.rebalanced progress.present) (root g c progress.present)

pub returns-then-above : goal.returns-then-above
returns-then-above g c =
    let present = (c.loop-parent.invariant.rebalances c.requires).present in
    record {
      balanced = balanced-root c.loop-parent.arena.shape c.rebalance_short_side.new.arena.shape c.loop-parent.node c.loop-parent.side present (c.if-rebalance_short_side.ensures.rebalanced present) (root g c present);
      spare = c.rebalance_short_side.ensures.spare ∙ c.loop-parent.invariant.spare;
      handles = c.rebalance_short_side.ensures.handles;
      steps = OnlyRotates-both g.met.C.Counter.law 3 (omega arith) c.loop-parent.invariant.steps c.if-rebalance_short_side.ensures.steps;
      rebalanced = record {
        list = (rebalances_root g c c.requires).entries_are ∙ sym (ap entries c.requires.is);
        own = λ cut. (rebalances_root g c cut).own;
        outer = λ cut. (rebalances_root g c cut).outer;
        whole = λ cut. (rebalances_root g c cut).whole;
      };
    }

pub side_of-side-requires : goal.side_of-side-requires
side_of-side-requires g c =
    let progress = c.loop-parent.invariant.rebalances c.requires in
    let risen = c.if-rebalance_short_side.ensures.rebalanced progress.present in
    IsHandle-above _ _ c.loop-parent.node c.loop-parent.side progress.present risen c.parent-above.result c.parent-above.ensures.value c.if-above.false

pub loop-parent-smaller : goal.loop-parent-smaller
loop-parent-smaller g c =
    let tree = c.loop-parent.arena.shape in
    let new = c.rebalance_short_side.new.arena.shape in
    let progress = c.loop-parent.invariant.rebalances c.requires in
    let risen = c.if-rebalance_short_side.ensures.rebalanced progress.present in
    let same = ap length (entries-risen tree new c.loop-parent.node c.loop-parent.side progress.present risen) in
    omega (arith, same, risen.more_red, red_nodes-few new)

pub loop-parent-preserved : goal.loop-parent-preserved
loop-parent-preserved g c =
    record {
      rebalances = λ cut.
          let progress = c.loop-parent.invariant.rebalances cut in
          let risen = c.if-rebalance_short_side.ensures.rebalanced progress.present in
          Progress-next c.args.arena.now.shape c.args.parent c.args.short cut _ _ c.loop-parent.node c.loop-parent.side progress risen c.rebalance_short_side.ensures.handles
          c.parent-above.result c.parent-above.ensures.value c.if-above.false c.side_of-side.result c.side_of-side.ensures;
      spare = c.rebalance_short_side.ensures.spare ∙ c.loop-parent.invariant.spare;
      steps = OnlyRotates-both g.met.C.Counter.law 0 (omega arith) c.loop-parent.invariant.steps c.if-rebalance_short_side.ensures.steps;
    }
