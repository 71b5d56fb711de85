use Rattle.std.proofs.Common.{◌∙◌}
use Rattle.i_tree.specs.declared.rb.links.Colour.TheVariants.{Black}
use Rattle.i_tree.proofs.RbLemmas.Balance.Frames.{entries-painted}
use Rattle.i_tree.proofs.RbLemmas.Balance.Insertion.{IsHandle-raised, IsHandle-parent, balanced-under_black, HasRedParent-from, IsHandle-red_parent, balanced-painted_root, IsUnderRed-from}
use Rattle.i_tree.proofs.RbLemmas.Balance.UnderRed.{IsUnderRed-found, IsHandle-above, uncle_is, IsHandle-uncle, SeesUncle-from, IsHandle-uncle_then, IsHandle-above_then, entries-recoloured, IsRaised-recoloured}
use Rattle.i_tree.proofs.RootLemmas.Counts.{OnlyRotates-none}
use Rattle.i_tree.proofs.rb.rebalancing.insertion.rebalance_insertion.Goals as goal

pub parent-parent-requires : goal.parent-parent-requires
parent-parent-requires g c = IsHandle-raised c.loop-added.invariant.raised

pub is_black-requires : goal.is_black-requires
is_black-requires g c = IsHandle-parent c.loop-added.invariant.raised c.parent-parent.result c.parent-parent.ensures.value

pub returns-then-is_black : goal.returns-then-is_black
returns-then-is_black g c =
    record {
      balanced = balanced-under_black c.loop-added.invariant.raised c.parent-parent.result c.parent-parent.ensures.value c.is_black.ensures.value c.if-is_black.true;
      entries = c.loop-added.invariant.same_entries;
      spare = c.loop-added.invariant.same_spare;
      handles = c.parent-parent.ensures.handles;
      steps = rw c.loop-added.invariant.same_steps (OnlyRotates-none g.met.C.Counter.law c.args.steps.now 2);
    }

pub parent-grandparent-requires : goal.parent-grandparent-requires
parent-grandparent-requires g c =
    IsHandle-red_parent (HasRedParent-from c.loop-added.invariant.raised c.parent-parent.result c.parent-parent.ensures.value c.is_black.ensures.value c.if-is_black.false)

pub paint-requires : goal.paint-requires
paint-requires g c =
    IsHandle-red_parent (HasRedParent-from c.loop-added.invariant.raised c.parent-parent.result c.parent-parent.ensures.value c.is_black.ensures.value c.if-is_black.false)

pub returns-then-grandparent : goal.returns-then-grandparent
returns-then-grandparent g c =
    let red = HasRedParent-from c.loop-added.invariant.raised c.parent-parent.result c.parent-parent.ensures.value c.is_black.ensures.value c.if-is_black.false in
    record {
      balanced = balanced-painted_root red c.parent-parent.ensures.handles c.parent-grandparent.result c.parent-grandparent.ensures.value c.if-grandparent.true c.paint.new.self.shape c.paint.ensures.shape;
      entries = entries-painted Black c.parent-parent.result c.loop-added.arena.shape c.paint.new.self.shape (IsHandle-red_parent red) c.paint.ensures.shape ∙ c.loop-added.invariant.same_entries;
      spare = c.paint.ensures.spare ∙ c.loop-added.invariant.same_spare;
      handles = c.paint.ensures.handles;
      steps = rw c.loop-added.invariant.same_steps (OnlyRotates-none g.met.C.Counter.law c.args.steps.now 2);
    }

pub side_of-side-requires : goal.side_of-side-requires
side_of-side-requires g c =
    let red = HasRedParent-from c.loop-added.invariant.raised c.parent-parent.result c.parent-parent.ensures.value c.is_black.ensures.value c.if-is_black.false in
    let (side, under) = IsUnderRed-from red c.parent-grandparent.result c.parent-grandparent.ensures.value c.if-grandparent.false in
    IsHandle-above under

pub child-uncle-requires : goal.child-uncle-requires
child-uncle-requires g c =
    let red = HasRedParent-from c.loop-added.invariant.raised c.parent-parent.result c.parent-parent.ensures.value c.is_black.ensures.value c.if-is_black.false in
    let (side, under) = IsUnderRed-from red c.parent-grandparent.result c.parent-grandparent.ensures.value c.if-grandparent.false in
    IsHandle-above under

pub is_black-requires-in-loop-added : goal.is_black-requires-in-loop-added
is_black-requires-in-loop-added g c =
    let red = HasRedParent-from c.loop-added.invariant.raised c.parent-parent.result c.parent-parent.ensures.value c.is_black.ensures.value c.if-is_black.false in
    let under = IsUnderRed-found red c.parent-parent.ensures.handles c.parent-grandparent.result c.parent-grandparent.ensures.value c.if-grandparent.false c.side_of-side.result c.side_of-side.ensures in
    IsHandle-uncle under (uncle_is under c.other.result c.other.ensures c.child-uncle.result c.child-uncle.ensures)

pub lift-requires-clause-uncle : goal.lift-requires-clause-uncle
lift-requires-clause-uncle g c =
    let red = HasRedParent-from c.loop-added.invariant.raised c.parent-parent.result c.parent-parent.ensures.value c.is_black.ensures.value c.if-is_black.false in
    let under = IsUnderRed-found red c.parent-parent.ensures.handles c.parent-grandparent.result c.parent-grandparent.ensures.value c.if-grandparent.false c.side_of-side.result c.side_of-side.ensures in
    let sees = SeesUncle-from under c.other.result c.other.ensures c.child-uncle.result c.child-uncle.ensures c.is_black-in-loop-added.result c.is_black-in-loop-added.ensures.value in
    (sees.under, sees.says_is ∙ c.if-is_black-2.true)

pub paint-requires-in-loop-added : goal.paint-requires-in-loop-added
paint-requires-in-loop-added g c =
    IsHandle-red_parent (HasRedParent-from c.loop-added.invariant.raised c.parent-parent.result c.parent-parent.ensures.value c.is_black.ensures.value c.if-is_black.false)

pub paint-requires-in-loop-added-2 : goal.paint-requires-in-loop-added-2
paint-requires-in-loop-added-2 g c =
    let red = HasRedParent-from c.loop-added.invariant.raised c.parent-parent.result c.parent-parent.ensures.value c.is_black.ensures.value c.if-is_black.false in
    let under = IsUnderRed-found red c.parent-parent.ensures.handles c.parent-grandparent.result c.parent-grandparent.ensures.value c.if-grandparent.false c.side_of-side.result c.side_of-side.ensures in
    let sees = SeesUncle-from under c.other.result c.other.ensures c.child-uncle.result c.child-uncle.ensures c.is_black-in-loop-added.result c.is_black-in-loop-added.ensures.value in
    IsHandle-uncle_then sees c.if-is_black-2.false c.paint-in-loop-added.new.self.shape c.paint-in-loop-added.ensures.shape

pub paint-requires-in-loop-added-3 : goal.paint-requires-in-loop-added-3
paint-requires-in-loop-added-3 g c =
    let red = HasRedParent-from c.loop-added.invariant.raised c.parent-parent.result c.parent-parent.ensures.value c.is_black.ensures.value c.if-is_black.false in
    let under = IsUnderRed-found red c.parent-parent.ensures.handles c.parent-grandparent.result c.parent-grandparent.ensures.value c.if-grandparent.false c.side_of-side.result c.side_of-side.ensures in
    let sees = SeesUncle-from under c.other.result c.other.ensures c.child-uncle.result c.child-uncle.ensures c.is_black-in-loop-added.result c.is_black-in-loop-added.ensures.value in
    IsHandle-above_then sees c.if-is_black-2.false c.paint-in-loop-added.new.self.shape c.paint-in-loop-added.ensures.shape c.paint-in-loop-added-2.new.self.shape c.paint-in-loop-added-2.ensures.shape

pub loop-added-smaller : goal.loop-added-smaller
loop-added-smaller g c =
    let red = HasRedParent-from c.loop-added.invariant.raised c.parent-parent.result c.parent-parent.ensures.value c.is_black.ensures.value c.if-is_black.false in
    let under = IsUnderRed-found red c.parent-parent.ensures.handles c.parent-grandparent.result c.parent-grandparent.ensures.value c.if-grandparent.false c.side_of-side.result c.side_of-side.ensures in
    let sees = SeesUncle-from under c.other.result c.other.ensures c.child-uncle.result c.child-uncle.ensures c.is_black-in-loop-added.result c.is_black-in-loop-added.ensures.value in
    (IsRaised-recoloured sees c.if-is_black-2.false c.paint-in-loop-added.new.self.shape c.paint-in-loop-added.ensures.shape c.paint-in-loop-added-2.new.self.shape c.paint-in-loop-added-2.ensures.shape c.paint-in-loop-added-3.new.self.shape c.paint-in-loop-added-3.ensures.shape).1

pub loop-added-preserved : goal.loop-added-preserved
loop-added-preserved g c =
    let red = HasRedParent-from c.loop-added.invariant.raised c.parent-parent.result c.parent-parent.ensures.value c.is_black.ensures.value c.if-is_black.false in
    let under = IsUnderRed-found red c.parent-parent.ensures.handles c.parent-grandparent.result c.parent-grandparent.ensures.value c.if-grandparent.false c.side_of-side.result c.side_of-side.ensures in
    let sees = SeesUncle-from under c.other.result c.other.ensures c.child-uncle.result c.child-uncle.ensures c.is_black-in-loop-added.result c.is_black-in-loop-added.ensures.value in
    record {
      raised = (IsRaised-recoloured sees c.if-is_black-2.false c.paint-in-loop-added.new.self.shape c.paint-in-loop-added.ensures.shape c.paint-in-loop-added-2.new.self.shape c.paint-in-loop-added-2.ensures.shape c.paint-in-loop-added-3.new.self.shape c.paint-in-loop-added-3.ensures.shape).0;
      same_entries = entries-recoloured sees c.if-is_black-2.false c.paint-in-loop-added.new.self.shape c.paint-in-loop-added.ensures.shape c.paint-in-loop-added-2.new.self.shape c.paint-in-loop-added-2.ensures.shape c.paint-in-loop-added-3.new.self.shape c.paint-in-loop-added-3.ensures.shape ∙ c.loop-added.invariant.same_entries;
      same_spare = c.paint-in-loop-added-3.ensures.spare ∙ c.paint-in-loop-added-2.ensures.spare ∙ c.paint-in-loop-added.ensures.spare ∙ c.loop-added.invariant.same_spare;
      same_steps = c.loop-added.invariant.same_steps;
    }
