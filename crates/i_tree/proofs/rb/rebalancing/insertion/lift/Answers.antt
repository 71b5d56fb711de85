use Rattle.std.proofs.Common.{inl, inr, sym, ap, ◌∙◌, subst, rules, arith}
use Rattle.i_tree.specs.Rb.RbTree.{Contents}
use Rattle.i_tree.specs.Root.Steps.{OnlyRotates}
use Rattle.i_tree.proofs.RbLemmas.Balance.Frames.{Rotations, entries-rotated}
use Rattle.i_tree.proofs.RbLemmas.Balance.Insertion.{IsStraightened, CanRotation-leaning, balanced-lifted}
use Rattle.i_tree.proofs.RbLemmas.Balance.UnderRed.{IsLeaning-joined, IsHandle-under_parent, CanRotation-inner}
use Rattle.i_tree.proofs.RootLemmas.Counts.{OnlyRotates-none, OnlyRotates-one, OnlyRotates-both}
use Rattle.i_tree.proofs.rb.rebalancing.insertion.lift.Goals as goal
use Rattle.i_tree.proofs.rb.rebalancing.insertion.lift.Goals.{After-other-2, then-child-node, else-child-node}

pub child-requires : goal.child-requires
child-requires g c = IsHandle-under_parent c.requires.uncle.0

pub rotate-requires : goal.rotate-requires
rotate-requires g c = CanRotation-inner c.requires.uncle.0 c.other.result c.other.ensures c.child.result c.child.ensures c.requires.handles c.if-child-node.true

straightened : (g : _) (c : goal.After-other-2 g) → IsStraightened c.args.arena.now.shape c.if-child-node.arena.shape c.args.node c.args.parent c.args.side c.child.result
straightened g c =
    elim c.if-child-node.branch [
      | then-child-node w ↦ inl (w.if-child-node.true, subst (λ (contents : Contents g.row.T.Denot). Rotations c.args.parent c.args.side c.args.arena.now.shape contents.shape) (sym w.arena-is) w.rotate.ensures.shape)
      | else-child-node w ↦ inr (w.if-child-node.false, ap (λ (contents : Contents g.row.T.Denot). contents.shape) w.arena-is)
    ]

pub rotate-requires-2 : goal.rotate-requires-2
rotate-requires-2 g c =
    let (lean, kept) = IsLeaning-joined c.requires.uncle.0 c.other.result c.other.ensures c.child.result c.child.ensures c.requires.handles c.requires.uncle.1 _ (straightened g c) in
    CanRotation-leaning c.other-2.ensures lean

pub returns : goal.returns
returns g c =
    let (lean, kept) = IsLeaning-joined c.requires.uncle.0 c.other.result c.other.ensures c.child.result c.child.ensures c.requires.handles c.requires.uncle.1 _ (straightened g (goal.at.returns g c).After-other-2) in
    let straightening : OnlyRotates g.C.Counter.made c.args.steps.now c.if-child-node.steps 1 = elim c.if-child-node.branch [
      | then-child-node w ↦ rw w.steps-is (OnlyRotates-one w.rotate.ensures.steps)
      | else-child-node w ↦ rw w.steps-is (OnlyRotates-none g.met.C.Counter.law c.args.steps.now 1)
    ] in
    record {
      balanced = balanced-lifted c.other-2.ensures lean c.rotate-2.new.self.shape c.rotate-2.ensures.shape;
      entries = entries-rotated c.args.grandparent c.other-2.result _ c.rotate-2.new.self.shape (CanRotation-leaning c.other-2.ensures lean) c.rotate-2.ensures.shape ∙ kept;
      spare = search rules;
      handles = c.rotate-2.ensures.handles;
      steps = OnlyRotates-both g.met.C.Counter.law 2 (omega arith) straightening (OnlyRotates-one c.rotate-2.ensures.steps);
    }
