use Rattle.std.proofs.Common.{sym, ◌∙◌, arith}
use Rattle.i_tree.proofs.RbLemmas.Shape.Beside.{ComesNextTo-first, nothing_next, IsParentOf-above}
use Rattle.i_tree.proofs.rb.tree.RbTree.parent_from.Goals as goal

pub loop-self-init : goal.loop-self-init
loop-self-init g c =
    ComesNextTo-first c.args.side c.self.inside.arena.shape c.args.handle c.self.invariant.1 (rw c.self.view_is c.requires.live) (rw c.self.view_is c.requires.free)

pub returns-then-parent : goal.returns-then-parent
returns-then-parent g c =
    let here = c.loop-self.invariant in
    let parent_is = c.parent-parent.ensures.value here.around here.subtree here.is here.at in
    let nothing = nothing_next c.args.side _ here.around here.subtree c.self.invariant.1 here.is (sym c.if-parent.true ∙ parent_is) in
    rw (← c.self.view_is) (λ front item back is. sym (here.same front item back is ∙ nothing))

pub child-requires : goal.child-requires
child-requires g c =
    let here = c.loop-self.invariant in
    let parent_is = c.parent-parent.ensures.value here.around here.subtree here.is here.at in
    (IsParentOf-above c.args.side c.self.inside.arena.shape c.args.handle c.loop-self.child c.parent-parent.result c.self.invariant.1 here parent_is c.if-parent.false).live

pub returns-then-child : goal.returns-then-child
returns-then-child g c =
    let here = c.loop-self.invariant in
    let parent_is = c.parent-parent.ensures.value here.around here.subtree here.is here.at in
    let above = IsParentOf-above c.args.side c.self.inside.arena.shape c.args.handle c.loop-self.child c.parent-parent.result c.self.invariant.1 here parent_is c.if-parent.false in
    rw (← c.self.view_is) (above.next c.child.result (rw (← c.other.ensures) c.child.ensures) c.if-child.true)

pub loop-self-smaller : goal.loop-self-smaller
loop-self-smaller g c =
    let here = c.loop-self.invariant in
    let parent_is = c.parent-parent.ensures.value here.around here.subtree here.is here.at in
    let above = IsParentOf-above c.args.side c.self.inside.arena.shape c.args.handle c.loop-self.child c.parent-parent.result c.self.invariant.1 here parent_is c.if-parent.false in
    let grows = above.grows in
    let within = above.within in
    omega arith

pub loop-self-preserved : goal.loop-self-preserved
loop-self-preserved g c =
    let here = c.loop-self.invariant in
    let parent_is = c.parent-parent.ensures.value here.around here.subtree here.is here.at in
    let above = IsParentOf-above c.args.side c.self.inside.arena.shape c.args.handle c.loop-self.child c.parent-parent.result c.self.invariant.1 here parent_is c.if-parent.false in
    above.further c.child.result (rw (← c.other.ensures) c.child.ensures) c.if-child.false
