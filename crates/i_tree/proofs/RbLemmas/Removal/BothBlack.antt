-- A step of the rebalancing after a removal where the sibling and both its children are black: the sibling is red then.
use Rattle.std.proofs.Common.{◌≡◌, ℕ, ◌+◌, Bool, true, false, [], refl, sym, ap, ◌∙◌, arith}
use Rattle.i_tree.specs.declared.rb.links.Colour.TheVariants.{Red, Black}
use Rattle.i_tree.specs.declared.rb.links.Side.{Side}
use Rattle.i_tree.specs.Rb.Balance.{is_black, is_black_colour, IsShort}
use Rattle.i_tree.specs.Rb.Context.{fork_on, plug}
use Rattle.i_tree.specs.Rb.Rebalancing.{red_nodes, IsSubtree, IsBlackSubtree}
use Rattle.i_tree.specs.Rb.ShortSides.{IsEnded, IsRisen}
use Rattle.i_tree.specs.Rb.Shape.{Shape, entries, black_levels, IsHandle}
use Rattle.i_tree.proofs.RbLemmas.Shape.Contexts.{fork_on-other, top-fork_on}
use Rattle.i_tree.proofs.RbLemmas.Balance.Ranks.{is_black-fork_on}
use Rattle.i_tree.proofs.RbLemmas.Balance.Frames.{IsBlackSubtree-from, IsSubtree-red, IsBlackSubtree-black, IsHandle-at, red_nodes-fork_on, red_nodes-plug, Paints, painted}
use Rattle.i_tree.proofs.RbLemmas.Balance.Insertion.{SaysBlack}
use Rattle.i_tree.proofs.RbLemmas.Removal.Step.{black_colour, level_red, Subtrees, entries-painted_far}
use Rattle.i_tree.proofs.RbLemmas.Removal.ShortSide.{below, at_sibling, far_frames, near_subtree, at}

module _ {T : Type 0} where
  module _ (tree : Shape T) (node : ℕ) (side : Side) (cut : IsShort tree node side) where
    module _ (sibling : ℕ) (subtrees : Subtrees side Black cut.far sibling) where
      -- both subtrees of the sibling are black: it is red then
      module _ (inner_black : is_black subtrees.inner ≡ true) (outer_is_black : is_black subtrees.outer ≡ true) (one : Shape T) (paints : Paints Red sibling tree one) where
        red_far : Shape T
        red_far = fork_on side Red subtrees.inner sibling subtrees.item subtrees.outer

        at_red : one ≡ plug cut.around (fork_on side cut.colour cut.near node cut.item red_far)
        unfolding red_far far_frames
        at_red =
            painted side Red sibling tree one paints (far_frames tree node side cut) Black subtrees.inner subtrees.item subtrees.outer (at_sibling tree node side cut sibling subtrees)
            ∙ ap (plug cut.around) (sym (fork_on-other side cut.colour cut.near node cut.item red_far))

        pub IsHandle-above_red : IsHandle one node
        IsHandle-above_red = IsHandle-at one cut.around side cut.colour cut.near node cut.item red_far at_red

        pub says_node : (says : Bool) → SaysBlack one node says → says ≡ is_black_colour cut.colour
        says_node says says_is = grind (arith, red_far, at_red, top-fork_on, is_black-fork_on)

        red_far_subtree : IsSubtree (black_levels cut.near) red_far
        unfolding red_far
        red_far_subtree = IsSubtree-red side sibling subtrees.item (IsBlackSubtree-from (below tree node side cut sibling subtrees).0 inner_black) (IsBlackSubtree-from (below tree node side cut sibling subtrees).1 outer_is_black)

        node_subtree : IsBlackSubtree (black_levels cut.near + 1) (fork_on side Black cut.near node cut.item red_far)
        node_subtree = IsBlackSubtree-black side node cut.item (near_subtree tree node side cut) red_far_subtree

        entries-red : entries (fork_on side Black cut.near node cut.item red_far) ≡ entries (fork_on side cut.colour cut.near node cut.item cut.far)
        unfolding red_far
        entries-red =
            entries-painted_far side Black cut.colour cut.near node cut.item subtrees.inner sibling subtrees.item subtrees.outer
            ∙ ap (λ (far : Shape T). entries (fork_on side cut.colour cut.near node cut.item far)) (sym subtrees.is)

        more_red_nodes : red_nodes one ≡ red_nodes tree + 1
        unfolding red_far
        more_red_nodes =
            let old = ap red_nodes ((at tree node side cut) sibling Black subtrees) ∙ red_nodes-plug cut.around (fork_on side cut.colour cut.near node cut.item (fork_on side Black subtrees.inner sibling subtrees.item subtrees.outer)) in
            let old_here = red_nodes-fork_on side cut.colour cut.near node cut.item (fork_on side Black subtrees.inner sibling subtrees.item subtrees.outer) in
            let new = ap red_nodes at_red ∙ red_nodes-plug cut.around (fork_on side cut.colour cut.near node cut.item red_far) in
            let new_here = red_nodes-fork_on side cut.colour cut.near node cut.item red_far in
            let new_far = red_nodes-fork_on side Red subtrees.inner sibling subtrees.item subtrees.outer in
            omega (arith, red_nodes-fork_on side Black subtrees.inner sibling subtrees.item subtrees.outer)

        black_node : is_black_colour cut.colour ≡ true → cut.colour ≡ Black
        black_node black = black_colour cut.colour (λ red. let same = ap is_black_colour red in cc)

        pub IsRisen-black : is_black_colour cut.colour ≡ true → IsRisen tree node side cut one
        IsRisen-black black =
            record {
              was_black = black_node black;
              subtree = fork_on side Black cut.near node cut.item red_far;
              is = at_red ∙ ap (λ colour. plug cut.around (fork_on side colour cut.near node cut.item red_far)) (black_node black);
              at_top = top-fork_on side Black cut.near node cut.item red_far;
              balanced = node_subtree.balanced;
              levels = omega (arith, node_subtree.deep, cut.one_less);
              black = node_subtree.black;
              entries_are = entries-red;
              kept = record { around = []; colour = Black; far = red_far; is = refl };
              more_red = more_red_nodes;
            }

        pub IsEnded-red : (two : Shape T) → Paints Black node one two → is_black_colour cut.colour ≡ false → IsEnded tree node side cut two
        IsEnded-red two paints_node red =
            record {
              subtree = fork_on side Black cut.near node cut.item red_far;
              is = painted side Black node one two paints_node cut.around cut.colour cut.near cut.item red_far at_red;
              balanced = node_subtree.balanced;
              levels = omega (arith, level_red cut.colour red, node_subtree.deep, cut.one_less);
              black = λ _. node_subtree.black;
              entries_are = entries-red;
              kept = record { around = []; colour = Black; far = red_far; is = refl };
            }
