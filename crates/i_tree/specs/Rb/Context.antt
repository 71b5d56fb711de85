-- A place in a tree, as what is around a subtree of it. For the private contracts of the core.
use Rattle.std.specs.Prelude.{◌≡◌, ℕ, List, [], ◌∷◌}
use Rattle.i_tree.specs.declared.TheConstants.{EMPTY_REF}
use Rattle.i_tree.specs.declared.rb.links.Colour.{Colour}
use Rattle.i_tree.specs.declared.rb.links.Side.{Side}
use Rattle.i_tree.specs.declared.rb.links.Side.TheVariants.{Left, Right}
use Rattle.i_tree.specs.Rb.Shape.{Shape, leaf, fork, left_at, right_at}

abbrev pub other_side : Side → Side
other_side Left = Right
other_side Right = Left

-- a node that has one subtree missing, on the side, and the other subtree as its sibling
pub record Frame (T : Type 0) : Type 0 where
  pub side : Side
  pub colour : Colour
  pub handle : ℕ
  pub item : T
  pub sibling : Shape T

module _ {T : Type 0} where
  -- a node whose subtree on the side is the near one
  abbrev pub fork_on : Side → Colour → Shape T → ℕ → T → Shape T → Shape T
  fork_on Left colour near handle item far = fork colour near handle item far
  fork_on Right colour near handle item far = fork colour far handle item near

  -- the subtree below the handle on the side
  abbrev pub subtree_on : Side → ℕ → Shape T → Shape T
  subtree_on Left handle tree = left_at handle tree
  subtree_on Right handle tree = right_at handle tree

  -- the node with the missing subtree put in
  abbrev pub fill : Frame T → Shape T → Shape T
  fill frame subtree = fork_on frame.side frame.colour subtree frame.handle frame.item frame.sibling

  -- the tree that has the subtree inside these frames, the innermost first
  abbrev pub plug : List (Frame T) → Shape T → Shape T
  plug [] subtree = subtree
  plug (frame ∷ around) subtree = plug around (fill frame subtree)

  -- the handle of the innermost frame
  abbrev pub hole_parent : List (Frame T) → ℕ
  hole_parent [] = EMPTY_REF
  hole_parent (frame ∷ _) = frame.handle

  -- wherever the old subtree stood in the old tree, the new subtree stands there in the new tree, and nothing else changed
  abbrev pub Replaces : Shape T → Shape T → Shape T → Shape T → Type 0
  Replaces old_tree new_tree old new = (around : List (Frame T)) → old_tree ≡ plug around old → new_tree ≡ plug around new

  -- the node has no subtree on the side
  pub record HasRoomOn (tree : Shape T) (handle : ℕ) (side : Side) : Type 0 where
    pub around : List (Frame T)
    pub colour : Colour
    pub item : T
    pub far : Shape T
    pub is : tree ≡ plug around (fork_on side colour leaf handle item far)

  -- the node has an empty subtree on some side
  pub record HasOneSubtree (tree : Shape T) (handle : ℕ) : Type 0 where
    pub around : List (Frame T)
    pub side : Side
    pub colour : Colour
    pub subtree : Shape T
    pub item : T
    pub is : tree ≡ plug around (fork_on side colour subtree handle item leaf)

-- a new entry right before the other, or right after it, and then these
abbrev pub beside : {E : Type 0} → Side → E → E → List E → List E
beside Left new at back = new ∷ at ∷ back
beside Right new at back = at ∷ new ∷ back
