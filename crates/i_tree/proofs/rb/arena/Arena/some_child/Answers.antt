use Rattle.i_tree.proofs.RbLemmas.Slots.Clear.{IsChildless-here}
use Rattle.i_tree.proofs.RbLemmas.Shape.Ends.{fewer-further}
use Rattle.i_tree.proofs.RbLemmas.Shape.Subtrees.{IsTopOf-on, IsTopOf-none}
use Rattle.i_tree.specs.declared.rb.links.Side.TheVariants.{Left, Right}
use Rattle.i_tree.proofs.rb.arena.Arena.some_child.Goals as goal

pub returns-then-left-clause-live : goal.returns-then-left-clause-live
returns-then-left-clause-live g c =
    (IsTopOf-on Left c.args.self.now.shape c.args.node c.child-left.result c.requires.handles c.requires.live c.child-left.ensures).live

pub returns-then-left-clause-fewer : goal.returns-then-left-clause-fewer
returns-then-left-clause-fewer g c some =
    let below = IsTopOf-on Left _ c.args.node c.child-left.result c.requires.handles c.requires.live c.child-left.ensures in
    rw below.at (fewer-further Left _ c.args.node c.requires.handles c.requires.live)

pub returns-clause-none : goal.returns-clause-none
returns-clause-none g c none =
    let on_left = IsTopOf-on Left _ c.args.node c.child-left.result c.requires.handles c.requires.live c.child-left.ensures in
    let on_right = IsTopOf-on Right _ c.args.node c.child.result c.requires.handles c.requires.live c.child.ensures in
    IsChildless-here _ c.args.node c.requires.handles c.requires.live
    (IsTopOf-none _ c.child-left.result _ c.requires.handles on_left c.if-left.false)
    (IsTopOf-none _ c.child.result _ c.requires.handles on_right none)

pub returns-clause-live : goal.returns-clause-live
returns-clause-live g c =
    (IsTopOf-on Right c.args.self.now.shape c.args.node c.child.result c.requires.handles c.requires.live c.child.ensures).live

pub returns-clause-fewer : goal.returns-clause-fewer
returns-clause-fewer g c some =
    let below = IsTopOf-on Right _ c.args.node c.child.result c.requires.handles c.requires.live c.child.ensures in
    rw below.at (fewer-further Right _ c.args.node c.requires.handles c.requires.live)
