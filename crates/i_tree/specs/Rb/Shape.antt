-- What contracts see of the core: a binary tree whose nodes have a colour, a handle and an item, and words on it.
use Rattle.std.specs.Prelude.{◌≡◌, ℕ, ◌+◌, ◌*◌, ◌<◌, ◌≤◌, ◌==◌, max, List, [], ◌∷◌, ◌++◌, if◌then◌else◌}
use Rattle.i_tree.specs.declared.TheConstants.{EMPTY_REF}
use Rattle.i_tree.specs.declared.rb.links.Colour.{Colour}
use Rattle.i_tree.specs.declared.rb.links.Colour.TheVariants.{Red, Black}

-- one where the two are the same, else none
abbrev pub one_if_same : ℕ → ℕ → ℕ
one_if_same first second = if first == second then 1 else 0

-- a tree is empty, or a node with a left subtree, a handle, an item and a right subtree
pub data Shape (T : Type 0) : Type 0 where
  leaf : Shape T
  fork : Colour → Shape T → ℕ → T → Shape T → Shape T

module _ {T : Type 0} where
  -- the pairs of handle and item, in order
  abbrev pub entries : Shape T → List (ℕ × T)
  entries leaf = []
  entries (fork _ before handle item after) = entries before ++ (handle, item) ∷ entries after

  -- the handle at the top
  abbrev pub top : Shape T → ℕ
  top leaf = EMPTY_REF
  top (fork _ _ handle _ _) = handle

  abbrev pub left_subtree : Shape T → Shape T
  left_subtree leaf = leaf
  left_subtree (fork _ before _ _ _) = before

  abbrev pub right_subtree : Shape T → Shape T
  right_subtree leaf = leaf
  right_subtree (fork _ _ _ _ after) = after

  -- the first of two trees that isn't empty
  abbrev pub or_else : Shape T → Shape T → Shape T
  or_else leaf second = second
  or_else (fork colour before handle item after) second = fork colour before handle item after

  -- the subtree whose top is the handle, and the empty tree where there is none
  abbrev pub subtree_at : ℕ → Shape T → Shape T
  subtree_at wanted leaf = leaf
  subtree_at wanted (fork colour before handle item after) =
      if wanted == handle then fork colour before handle item after else or_else (subtree_at wanted before) (subtree_at wanted after)

  -- how many levels of black nodes there are, counted along the left side
  abbrev pub black_levels : Shape T → ℕ
  black_levels leaf = 0
  black_levels (fork Red before _ _ _) = black_levels before
  black_levels (fork Black before _ _ _) = black_levels before + 1

  -- twice the number of black levels, and one more under a red top
  abbrev pub rank : Shape T → ℕ
  rank leaf = 0
  rank (fork Red before _ _ _) = 2 * black_levels before + 1
  rank (fork Black before _ _ _) = 2 * (black_levels before + 1)

  abbrev pub height : Shape T → ℕ
  height leaf = 0
  height (fork _ before _ _ after) = max (height before) (height after) + 1

  -- at each node, the ranks of both subtrees are below its own
  abbrev pub RanksFall : Shape T → Type 0
  RanksFall leaf = Unit {0}
  RanksFall (fork colour before handle item after) =
      (rank before < rank (fork colour before handle item after)) × (rank after < rank (fork colour before handle item after))
      × RanksFall before × RanksFall after

  -- how often the handle stands in the tree
  abbrev pub occurs : ℕ → Shape T → ℕ
  occurs wanted leaf = 0
  occurs wanted (fork _ before handle _ after) = occurs wanted before + one_if_same wanted handle + occurs wanted after

  -- some node has the handle
  abbrev pub IsHandle : Shape T → ℕ → Type 0
  IsHandle tree handle = 0 < occurs handle tree

  -- the subtree below the handle, on its left or right
  abbrev pub left_at : ℕ → Shape T → Shape T
  left_at handle tree = left_subtree (subtree_at handle tree)

  -- and that on its right
  abbrev pub right_at : ℕ → Shape T → Shape T
  right_at handle tree = right_subtree (subtree_at handle tree)

  -- the tree with this item at the handle
  abbrev pub with_item : ℕ → T → Shape T → Shape T
  with_item wanted new leaf = leaf
  with_item wanted new (fork colour before handle item after) =
      fork colour (with_item wanted new before) handle (if wanted == handle then new else item) (with_item wanted new after)

  -- the handle of the first pair
  abbrev pub first_handle : List (ℕ × T) → ℕ
  first_handle [] = EMPTY_REF
  first_handle (entry ∷ _) = entry.0

  -- the handle of the last pair
  abbrev pub last_handle : List (ℕ × T) → ℕ
  last_handle [] = EMPTY_REF
  last_handle (entry ∷ []) = entry.0
  last_handle (_ ∷ next ∷ rest) = last_handle (next ∷ rest)

  -- no handle stands twice, and neither `EMPTY_REF` nor 0 is one
  pub record AreHandles (tree : Shape T) : Type 0 where
    pub apart : (handle : ℕ) → occurs handle tree ≤ 1
    pub none_empty : occurs EMPTY_REF tree ≡ 0
    pub none_reserved : occurs 0 tree ≡ 0
