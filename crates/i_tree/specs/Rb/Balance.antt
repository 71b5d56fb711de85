-- When a tree is red-black, and what holds of each tree of the core. What is around a subtree that can be red-black is for
-- its private contracts.
use Rattle.std.specs.Prelude.{◌≡◌, ◌≤◌, ℕ, ◌+◌, length, Bool, true, false, List, [], ◌∷◌}
use Rattle.i_tree.specs.declared.rb.links.Colour.{Colour}
use Rattle.i_tree.specs.declared.rb.links.Colour.TheVariants.{Red, Black}
use Rattle.i_tree.specs.Rb.Shape.{Shape, leaf, fork, entries, black_levels, rank, height, RanksFall, AreHandles}
use Rattle.i_tree.specs.declared.rb.links.Side.{Side}
use Rattle.i_tree.specs.Rb.Context.{Frame, fork_on, plug}
use Rattle.i_tree.specs.Root.Levels.{TwiceLevels}

-- how many black levels a node of the colour adds
abbrev pub level_of : Colour → ℕ
level_of Red = 0
level_of Black = 1

abbrev pub is_black_colour : Colour → Bool
is_black_colour Red = false
is_black_colour Black = true

module _ {T : Type 0} where
  -- the top is black, as an empty subtree is
  abbrev pub is_black : Shape T → Bool
  is_black leaf = true
  is_black (fork colour _ _ _ _) = is_black_colour colour

  -- a red node has no red subtree
  abbrev pub MayHold : Colour → Shape T → Shape T → Type 0
  MayHold Red before after = (is_black before ≡ true) × (is_black after ≡ true)
  MayHold Black _ _ = Unit {0}

  -- no red node has a red subtree, and at each node both subtrees have as many black levels
  abbrev pub IsRedBlack : Shape T → Type 0
  IsRedBlack leaf = Unit {0}
  IsRedBlack (fork colour before handle item after) =
      IsRedBlack before × IsRedBlack after × (black_levels before ≡ black_levels after) × MayHold colour before after

  -- the innermost frame isn't red
  abbrev pub is_black_around : List (Frame T) → Bool
  is_black_around [] = true
  is_black_around (frame ∷ _) = is_black_colour frame.colour

  -- a red frame has a black sibling, and no red frame next around it
  abbrev pub MayStand : Colour → Shape T → List (Frame T) → Type 0
  MayStand Red sibling around = (is_black sibling ≡ true) × (is_black_around around ≡ true)
  MayStand Black _ _ = Unit {0}

  -- the frames make a red-black tree of each red-black subtree of so many black levels, whose top is black or whose
  -- innermost frame is
  abbrev pub Fits : List (Frame T) → ℕ → Type 0
  Fits [] levels = Unit {0}
  Fits (frame ∷ around) levels =
      IsRedBlack frame.sibling × (black_levels frame.sibling ≡ levels) × MayStand frame.colour frame.sibling around
      × Fits around (levels + level_of frame.colour)

  -- the tree is red-black but for this red node, which may stand under a red one
  pub record IsRaised (tree : Shape T) (handle : ℕ) : Type 0 where
    pub around : List (Frame T)
    pub before : Shape T
    pub item : T
    pub after : Shape T
    pub is : tree ≡ plug around (fork Red before handle item after)
    pub subtree : IsRedBlack (fork Red before handle item after)
    pub fits : Fits around (black_levels before)

  -- the tree would be red-black if this side of the node had one black level more. The side may have a red top under a
  -- red node
  pub record IsShort (tree : Shape T) (handle : ℕ) (side : Side) : Type 0 where
    pub around : List (Frame T)
    pub colour : Colour
    pub near : Shape T
    pub item : T
    pub far : Shape T
    pub is : tree ≡ plug around (fork_on side colour near handle item far)
    pub near_balanced : IsRedBlack near
    pub far_balanced : IsRedBlack far
    pub one_less : black_levels far ≡ black_levels near + 1
    pub red_holds : colour ≡ Red → (is_black far ≡ true) × (is_black_around around ≡ true)
    pub fits : Fits around (black_levels far + level_of colour)

  -- what holds of each tree of the core: its handles are such, it is red-black, ranks fall from a node to its subtrees, no
  -- tree is higher than its rank, and the rank is at most twice the levels of the number of entries
  pub record IsCore (tree : Shape T) : Type 0 where
    pub handles : AreHandles tree
    pub balanced : IsRedBlack tree
    pub falls : RanksFall tree
    pub low : height tree ≤ rank tree
    pub bounded : TwiceLevels (length (entries tree)) (rank tree)
