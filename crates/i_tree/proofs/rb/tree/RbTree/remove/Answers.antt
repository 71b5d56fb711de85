use Rattle.std.proofs.Common.{◌∙◌}
use Rattle.i_tree.specs.declared.rb.links.Side.TheVariants.{Left, Right}
use Rattle.i_tree.proofs.RbLemmas.Removal.Items.{IsCore-with_item}
use Rattle.i_tree.proofs.RbLemmas.Removal.Removed.{HasOneSubtree-either, HasNext-from, HasOneSubtree-next, IsHandle-next, removed_one, removed_one_side, removed_two, removed_two_side, removed_two_rank}
use Rattle.i_tree.proofs.RootLemmas.Counts.{RemovesOne-rebalanced}
use Rattle.i_tree.proofs.rb.tree.RbTree.remove.Goals as goal

pub remove_at-requires : goal.remove_at-requires
remove_at-requires g c =
    HasOneSubtree-either c.args.self.now.shape c.args.handle c.left-left.result c.right-right.result c.left-left.ensures.core.handles c.requires
    c.left-left.ensures.part c.right-right.ensures.part c.then-left.either

pub returns-then-left-clause-list : goal.returns-then-left-clause-list
returns-then-left-clause-list g c =
    let one = HasOneSubtree-either c.args.self.now.shape c.args.handle c.left-left.result c.right-right.result c.left-left.ensures.core.handles c.requires
    c.left-left.ensures.part c.right-right.ensures.part c.then-left.either in
    removed_one c.args.self.now.shape c.remove_at.new.self.shape c.args.handle c.remove_at.result c.left-left.ensures.core.handles one
    c.remove_at.ensures.shape c.remove_at.ensures.item

pub returns-then-left-clause-left : goal.returns-then-left-clause-left
returns-then-left-clause-left g c =
    let one = HasOneSubtree-either c.args.self.now.shape c.args.handle c.left-left.result c.right-right.result c.left-left.ensures.core.handles c.requires
    c.left-left.ensures.part c.right-right.ensures.part c.then-left.either in
    removed_one_side c.args.self.now.shape c.remove_at.new.self.shape c.args.handle c.left-left.ensures.core.handles c.remove_at.ensures.core.handles one
    c.remove_at.ensures.shape Left

pub returns-then-left-clause-right : goal.returns-then-left-clause-right
returns-then-left-clause-right g c =
    let one = HasOneSubtree-either c.args.self.now.shape c.args.handle c.left-left.result c.right-right.result c.left-left.ensures.core.handles c.requires
    c.left-left.ensures.part c.right-right.ensures.part c.then-left.either in
    removed_one_side c.args.self.now.shape c.remove_at.new.self.shape c.args.handle c.left-left.ensures.core.handles c.remove_at.ensures.core.handles one
    c.remove_at.ensures.shape Right

pub remove_at-item-requires : goal.remove_at-item-requires
remove_at-item-requires g c =
    HasOneSubtree-next _ c.args.handle c.first_below-next.result
    (HasNext-from _ c.args.handle c.right-right.result c.first_below-next.result c.left-left.ensures.core.handles c.requires c.right-right.ensures.part c.first_below-next.ensures)

pub item_mut-requires : goal.item_mut-requires
item_mut-requires g c =
    IsHandle-next _ c.remove_at-item.new.self.shape c.args.handle c.first_below-next.result
    (HasNext-from _ c.args.handle c.right-right.result c.first_below-next.result c.left-left.ensures.core.handles c.requires c.right-right.ensures.part c.first_below-next.ensures)
    c.remove_at-item.ensures.shape

pub returns-clause-list : goal.returns-clause-list
returns-clause-list g c front item back list =
    let has = HasNext-from c.args.self.now.shape c.args.handle c.right-right.result c.first_below-next.result c.left-left.ensures.core.handles c.requires
    c.right-right.ensures.part c.first_below-next.ensures in
    let changed = removed_two c.args.self.now.shape c.remove_at-item.new.self.shape c.args.handle c.first_below-next.result c.replace.new.dest c.item_mut.result.now
    c.left-left.ensures.core.handles c.remove_at-item.ensures.core.handles has c.remove_at-item.ensures.shape
    (λ place shade before kept after is. c.replace.ensures.after ∙ c.remove_at-item.ensures.item place shade before kept after is)
    c.item_mut.ensures.value front item back list in
    (c.replace.ensures.value ∙ changed.0, changed.1)

pub returns-clause-left : goal.returns-clause-left
returns-clause-left g c =
    let has = HasNext-from c.args.self.now.shape c.args.handle c.right-right.result c.first_below-next.result c.left-left.ensures.core.handles c.requires
    c.right-right.ensures.part c.first_below-next.ensures in
    removed_two_side c.args.self.now.shape c.remove_at-item.new.self.shape c.args.handle c.first_below-next.result c.replace.new.dest c.left-left.ensures.core.handles
    c.remove_at-item.ensures.core.handles has c.remove_at-item.ensures.shape Left

pub returns-clause-right : goal.returns-clause-right
returns-clause-right g c =
    let has = HasNext-from c.args.self.now.shape c.args.handle c.right-right.result c.first_below-next.result c.left-left.ensures.core.handles c.requires
    c.right-right.ensures.part c.first_below-next.ensures in
    removed_two_side c.args.self.now.shape c.remove_at-item.new.self.shape c.args.handle c.first_below-next.result c.replace.new.dest c.left-left.ensures.core.handles
    c.remove_at-item.ensures.core.handles has c.remove_at-item.ensures.shape Right

pub returns-clause-rank : goal.returns-clause-rank
returns-clause-rank g c =
    removed_two_rank c.args.self.now.shape c.remove_at-item.new.self.shape c.args.handle c.first_below-next.result c.replace.new.dest c.remove_at-item.ensures.shape

pub returns-clause-core : goal.returns-clause-core
returns-clause-core g c = IsCore-with_item c.args.handle c.replace.new.dest c.remove_at-item.new.self.shape c.remove_at-item.ensures.core

pub returns-then-left-clause-steps : goal.returns-then-left-clause-steps
returns-then-left-clause-steps g c = RemovesOne-rebalanced g.met.C.Counter.law 3 c.add_removal.ensures c.remove_at.ensures.steps

pub returns-clause-steps : goal.returns-clause-steps
returns-clause-steps g c = RemovesOne-rebalanced g.met.C.Counter.law 3 c.add_removal.ensures c.remove_at-item.ensures.steps
