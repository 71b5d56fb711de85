use Rattle.std.proofs.Common.{true, false, sym, arith}
use Rattle.i_tree.specs.declared.rb.links.Colour.TheVariants.{Red}
use Rattle.i_tree.proofs.RbLemmas.Removal.ShortSide.{IsHandle-short, IsHandle-far, far_top, says_far, red_subtrees, CanRotation-short}
use Rattle.i_tree.proofs.RbLemmas.Removal.RedSibling.{HasBlackSibling-folded, IsEnded-from_folded}
use Rattle.i_tree.proofs.RootLemmas.Counts.{OnlyRotates-one, OnlyRotates-both, OnlyRotates-either}
use Rattle.i_tree.proofs.rb.rebalancing.removal.rebalance_short_side.Goals as goal

pub child-sibling-requires : goal.child-sibling-requires
child-sibling-requires g c =
    IsHandle-short c.args.arena.now.shape c.args.node c.args.short c.requires

pub is_black-requires : goal.is_black-requires
is_black-requires g c =
    let cut = c.requires in
    let far = far_top _ c.args.node c.args.short cut c.other.result c.child-sibling.result c.other.ensures c.child-sibling.ensures in
    IsHandle-far _ c.args.node c.args.short cut c.child-sibling.result far

pub rebalance_beside_black-requires : goal.rebalance_beside_black-requires
rebalance_beside_black-requires g c =
    let cut = c.requires in
    let far = far_top _ c.args.node c.args.short cut c.other.result c.child-sibling.result c.other.ensures c.child-sibling.ensures in
    record { cut = cut; black = sym (says_far _ c.args.node c.args.short cut c.child-sibling.result true far c.if-is_black.ensures.value) }

pub returns-then-is_black-clause-rebalanced : goal.returns-then-is_black-clause-rebalanced
returns-then-is_black-clause-rebalanced g c cut =
    let far = far_top _ c.args.node c.args.short cut c.other.result c.child-sibling.result c.other.ensures c.child-sibling.ensures in
    c.rebalance_beside_black.ensures.rebalanced cut (sym (says_far _ c.args.node c.args.short cut c.child-sibling.result true far c.if-is_black.ensures.value))

pub rotate-requires : goal.rotate-requires
rotate-requires g c =
    let cut = c.requires in
    let far = far_top _ c.args.node c.args.short cut c.other.result c.child-sibling.result c.other.ensures c.child-sibling.ensures in
    let red = sym (says_far _ c.args.node c.args.short cut c.child-sibling.result false far c.if-is_black.ensures.value) in
    let subtrees = red_subtrees _ c.args.node c.args.short cut c.child-sibling.result far red in
    CanRotation-short _ c.args.node c.args.short cut c.child-sibling.result Red subtrees

pub rebalance_beside_black-requires-2 : goal.rebalance_beside_black-requires-2
rebalance_beside_black-requires-2 g c =
    let cut = c.requires in
    let far = far_top _ c.args.node c.args.short cut c.other.result c.child-sibling.result c.other.ensures c.child-sibling.ensures in
    let red = sym (says_far _ c.args.node c.args.short cut c.child-sibling.result false far c.if-is_black.ensures.value) in
    let subtrees = red_subtrees _ c.args.node c.args.short cut c.child-sibling.result far red in
    HasBlackSibling-folded _ c.args.node c.args.short cut c.child-sibling.result subtrees red c.rotate.new.self.shape c.rotate.ensures.shape

pub returns-clause-rebalanced : goal.returns-clause-rebalanced
returns-clause-rebalanced g c cut =
    let far = far_top _ c.args.node c.args.short cut c.other.result c.child-sibling.result c.other.ensures c.child-sibling.ensures in
    let red = sym (says_far _ c.args.node c.args.short cut c.child-sibling.result false far c.if-is_black.ensures.value) in
    let subtrees = red_subtrees _ c.args.node c.args.short cut c.child-sibling.result far red in
    IsEnded-from_folded _ c.args.node c.args.short cut c.child-sibling.result subtrees red c.rotate.new.self.shape c.rotate.ensures.shape c.rebalance_beside_black-2.new.arena.shape c.rebalance_beside_black-2.result c.rebalance_beside_black-2.ensures.rebalanced

pub returns-clause-steps : goal.returns-clause-steps
returns-clause-steps g c =
    OnlyRotates-both g.met.C.Counter.law 3 (omega arith) (OnlyRotates-one c.rotate.ensures.steps) (OnlyRotates-either 2 c.rebalance_beside_black-2.result c.rebalance_beside_black-2.ensures.steps)
