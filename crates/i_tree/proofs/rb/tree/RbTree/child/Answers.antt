use Rattle.std.specs.Prelude.{ℕ, ◌<◌}
use Rattle.i_tree.specs.declared.rb.links.Side.{Side}
use Rattle.i_tree.specs.declared.rb.links.Side.TheVariants.{Left, Right}
use Rattle.i_tree.specs.Rb.Context.{subtree_on}
use Rattle.i_tree.proofs.RbLemmas.Shape.Subtrees.{IsTopOf-on, IsTopOf-none}
use Rattle.i_tree.proofs.RbLemmas.Shape.SubtreeHandles.{RanksFall-subtree, subtrees_live, ranks_below}
use Rattle.i_tree.proofs.RbLemmas.Balance.Ranks.{IsCore-from_red_black}
use Rattle.i_tree.specs.Rb.Shape.{IsHandle, Shape, entries, left_at, left_subtree, rank, right_at, right_subtree, subtree_at}
use Rattle.i_tree.proofs.rb.tree.RbTree.child.Goals as goal

falls_on : {T : Type 0} (side : Side) (tree : Shape T) (handle : ℕ)
    → (rank (left_at handle tree) < rank (subtree_at handle tree)) × (rank (right_at handle tree) < rank (subtree_at handle tree))
    → rank (subtree_on side handle tree) < rank (subtree_at handle tree)
falls_on Left tree handle falls = falls.0
falls_on Right tree handle falls = falls.1

pub returns : goal.returns
returns g c =
    let tree = c.self.inside.arena.shape in
    let live : IsHandle tree c.args.handle = rw c.self.view_is c.requires in
    let below = IsTopOf-on c.args.side tree c.args.handle c.child.result c.self.invariant.1 live c.child.ensures in
    let core = IsCore-from_red_black tree c.self.invariant.1 c.self.invariant.0 in
    let (item, subtrees) = subtrees_live c.args.handle tree live in
    let falls = ranks_below (subtree_at c.args.handle tree) (entries (left_subtree (subtree_at c.args.handle tree))) (c.args.handle, item) (entries (right_subtree (subtree_at c.args.handle tree))) (RanksFall-subtree c.args.handle tree core.falls) subtrees in
    rw (← c.self.view_is) (record {
      value = below.value;
      part = below.at;
      lower = rw below.at (falls_on c.args.side tree c.args.handle falls);
      live = below.live;
      empty = IsTopOf-none tree c.child.result _ c.self.invariant.1 below;
      core = core;
    })
