-- A subtree of a tree inside its frames: what stands in the whole, and where a handle is.
use Rattle.std.proofs.Common.{◌≡◌, ◌≢◌, ℕ, ◌+◌, ◌<◌, ◌≤◌, ◌⊎◌, Bool, true, false, eqb, cond, List, [], ◌∷◌, ◌++◌, append-nil, refl, sym, ap, ◌∙◌, subst, append_assoc, arith, length, length-append}
use Rattle.std.proofs.lemmas.Bool.{eqb-true, eqb-false, eq-eqb}
use Rattle.i_tree.specs.declared.rb.links.Colour.{Colour}
use Rattle.i_tree.specs.declared.rb.links.Side.{Side}
use Rattle.i_tree.specs.declared.rb.links.Side.TheVariants.{Left, Right}
use Rattle.i_tree.specs.Rb.Shape.{Shape, leaf, fork, entries, or_else, subtree_at, occurs, one_if_same, IsHandle, top}
use Rattle.i_tree.specs.Rb.Context.{Frame, fork_on, fill, plug, other_side}

pub one_if_same-same : (handle : ℕ) → one_if_same handle handle ≡ 1
one_if_same-same handle = ap (λ b. cond b 1 0) (eq-eqb handle handle refl)

-- the test is one of the two
pub one_if_same-cases : (first second : ℕ) → (one_if_same first second ≡ 0 → first ≢ second) × (0 < one_if_same first second → first ≡ second)
one_if_same-cases first second = by_test (eqb first second) refl
  where
    by_test : (b : Bool) → eqb first second ≡ b → (one_if_same first second ≡ 0 → first ≢ second) × (0 < one_if_same first second → first ≡ second)
    by_test true is = (λ zero same. let e : one_if_same first second ≡ 1 = ap (λ t. cond t 1 0) is in omega arith, λ _. eqb-true first second is)
    by_test false is = (λ _. eqb-false first second is, λ some. let e : one_if_same first second ≡ 0 = ap (λ t. cond t 1 0) is in absurd (omega arith))

-- a handle of a node is its own, or stands in one of its subtrees
pub occurs_where : (own handle before after : ℕ) (Goal : Type 0) → 0 < before + one_if_same handle own + after
    → (0 < before → Goal) → (handle ≡ own → Goal) → (0 < after → Goal) → Goal
occurs_where own handle before after Goal some in_before here in_after = grind (arith, one_if_same-cases)

pub eqb-apart : (first second : ℕ) → first ≢ second → eqb first second ≡ false
eqb-apart first second apart = by_test (eqb first second) refl
  where
    by_test : (b : Bool) → eqb first second ≡ b → eqb first second ≡ false
    by_test true is = absurd (apart (eqb-true first second is))
    by_test false is = is

-- the sides of a node
pub other_other : (side : Side) → other_side (other_side side) ≡ side
other_other Left = refl
other_other Right = refl

pub same_or_other : (side other : Side) → (other ≡ side) ⊎ (other ≡ other_side side)
same_or_other side other = grind arith

module _ {T : Type 0} where
  -- how often the handle stands in the frames
  abbrev pub occurs_around : ℕ → List (Frame T) → ℕ
  occurs_around wanted [] = 0
  occurs_around wanted (frame ∷ around) = one_if_same wanted frame.handle + occurs wanted frame.sibling + occurs_around wanted around

  -- how often the handle stands in the list
  abbrev pub occurs_among : ℕ → List (ℕ × T) → ℕ
  occurs_among wanted [] = 0
  occurs_among wanted (entry ∷ rest) = one_if_same wanted entry.0 + occurs_among wanted rest

  pub occurs_among-append : (wanted : ℕ) (first second : List (ℕ × T)) → occurs_among wanted (first ++ second) ≡ occurs_among wanted first + occurs_among wanted second
  occurs_among-append wanted [] second = omega arith
  occurs_among-append wanted (entry ∷ first) second = omega (arith, occurs_among-append wanted first second)

  -- a handle stands as often in the tree as in its entries
  pub occurs_among-entries : (wanted : ℕ) (tree : Shape T) → occurs_among wanted (entries tree) ≡ occurs wanted tree
  occurs_among-entries wanted leaf = refl
  occurs_among-entries wanted (fork shade before own item after) =
      omega (arith, occurs_among-append wanted (entries before) ((own, item) ∷ entries after), occurs_among-entries wanted before, occurs_among-entries wanted after)

  -- the entries before and after the hole
  abbrev pub own_before : Side → ℕ × T → List (ℕ × T) → List (ℕ × T)
  own_before Left entry beside_it = []
  own_before Right entry beside_it = beside_it ++ (entry ∷ [])

  abbrev pub own_after : Side → ℕ × T → List (ℕ × T) → List (ℕ × T)
  own_after Left entry beside_it = entry ∷ beside_it
  own_after Right entry beside_it = []

  abbrev pub before_hole : List (Frame T) → List (ℕ × T)
  before_hole [] = []
  before_hole (frame ∷ around) = before_hole around ++ own_before frame.side (frame.handle, frame.item) (entries frame.sibling)

  abbrev pub after_hole : List (Frame T) → List (ℕ × T)
  after_hole [] = []
  after_hole (frame ∷ around) = own_after frame.side (frame.handle, frame.item) (entries frame.sibling) ++ after_hole around

  pub occurs-fork_on : (wanted : ℕ) (side : Side) (colour : Colour) (near : Shape T) (handle : ℕ) (item : T) (far : Shape T) →
      occurs wanted (fork_on side colour near handle item far) ≡ one_if_same wanted handle + occurs wanted far + occurs wanted near
  occurs-fork_on wanted Left colour near handle item far = omega arith
  occurs-fork_on wanted Right colour near handle item far = omega arith

  pub occurs-plug : (wanted : ℕ) (around : List (Frame T)) (subtree : Shape T) → occurs wanted (plug around subtree) ≡ occurs_around wanted around + occurs wanted subtree
  occurs-plug wanted [] subtree = omega arith
  occurs-plug wanted (frame ∷ around) subtree =
      let outer = occurs-plug wanted around (fill frame subtree) in
      omega (arith, occurs-fork_on wanted frame.side frame.colour subtree frame.handle frame.item frame.sibling)

  pub entries-fork_on : (side : Side) (colour : Colour) (near : Shape T) (handle : ℕ) (item : T) (far : Shape T) →
      entries (fork_on side colour near handle item far) ≡ own_before side (handle, item) (entries far) ++ (entries near ++ own_after side (handle, item) (entries far))
  entries-fork_on Left colour near handle item far = refl
  entries-fork_on Right colour near handle item far = simp (append_assoc, append-nil)

  pub entries-plug : (around : List (Frame T)) (subtree : Shape T) → entries (plug around subtree) ≡ before_hole around ++ (entries subtree ++ after_hole around)
  entries-plug [] subtree = simp append-nil
  entries-plug (frame ∷ around) subtree =
      simp (entries-plug around (fill frame subtree), entries-fork_on frame.side frame.colour subtree frame.handle frame.item frame.sibling, append_assoc)

  pub top-fork_on : (side : Side) (colour : Colour) (near : Shape T) (handle : ℕ) (item : T) (far : Shape T) → top (fork_on side colour near handle item far) ≡ handle
  top-fork_on Left colour near handle item far = refl
  top-fork_on Right colour near handle item far = refl

  -- frames in frames
  pub plug-append : (inner outer : List (Frame T)) (subtree : Shape T) → plug (inner ++ outer) subtree ≡ plug outer (plug inner subtree)
  plug-append [] outer subtree = refl
  plug-append (frame ∷ inner) outer subtree = plug-append inner outer (fill frame subtree)

  pub length-plug : (around : List (Frame T)) (subtree : Shape T) → length (entries (plug around subtree)) ≡ length (before_hole around) + length (entries subtree) + length (after_hole around)
  length-plug around subtree =
      ap length (entries-plug around subtree) ∙ omega (arith, length-append (before_hole around) (entries subtree ++ after_hole around), length-append (entries subtree) (after_hole around))

  -- the other side of a node seen from the one
  pub fork_on-other : (side : Side) (colour : Colour) (near : Shape T) (handle : ℕ) (item : T) (far : Shape T) →
      fork_on side colour near handle item far ≡ fork_on (other_side side) colour far handle item near
  fork_on-other Left colour near handle item far = refl
  fork_on-other Right colour near handle item far = refl

  -- a node of the tree, in its frames
  pub record Cut (tree : Shape T) (handle : ℕ) : Type 0 where
    pub around : List (Frame T)
    pub colour : Colour
    pub before : Shape T
    pub item : T
    pub after : Shape T
    pub is : tree ≡ plug around (fork colour before handle item after)

  -- a live handle is that of a node
  pub cut_inside : (around : List (Frame T)) (subtree : Shape T) (handle : ℕ) → 0 < occurs handle subtree → Cut (plug around subtree) handle
  cut_inside around leaf handle some = absurd (omega arith)
  cut_inside around (fork shade before own item after) handle some =
      let Goal : ℕ → Type 0 = λ other. Cut (plug around (fork shade before own item after)) other in
      occurs_where own handle (occurs handle before) (occurs handle after) (Goal handle) some
      (λ inside. cut_inside (record { side = Left; colour = shade; handle = own; item = item; sibling = after } ∷ around) before handle inside)
      (λ same. subst Goal (sym same) (record { around = around; colour = shade; before = before; item = item; after = after; is = refl }))
      (λ inside. cut_inside (record { side = Right; colour = shade; handle = own; item = item; sibling = before } ∷ around) after handle inside)

  pub cut_at : (tree : Shape T) (handle : ℕ) → IsHandle tree handle → Cut tree handle
  cut_at tree handle live = cut_inside [] tree handle live

  pub or_else-leaf : (tree : Shape T) → or_else tree leaf ≡ tree
  or_else-leaf leaf = refl
  or_else-leaf (fork _ _ _ _ _) = refl

  -- where the subtree at a handle is sought
  pub subtree_at-here : (shade : Colour) (before : Shape T) (own : ℕ) (item : T) (after : Shape T) → subtree_at own (fork shade before own item after) ≡ fork shade before own item after
  subtree_at-here shade before own item after =
      ap (λ b. cond b (fork shade before own item after) (or_else (subtree_at own before) (subtree_at own after))) (eq-eqb own own refl)

  pub subtree_at-below : (wanted : ℕ) (shade : Colour) (before : Shape T) (own : ℕ) (item : T) (after : Shape T) → wanted ≢ own
      → subtree_at wanted (fork shade before own item after) ≡ or_else (subtree_at wanted before) (subtree_at wanted after)
  subtree_at-below wanted shade before own item after apart =
      ap (λ b. cond b (fork shade before own item after) (or_else (subtree_at wanted before) (subtree_at wanted after))) (eqb-apart wanted own apart)

  -- no subtree is at a handle that isn't live
  pub subtree_at-none : (wanted : ℕ) (tree : Shape T) → occurs wanted tree ≡ 0 → subtree_at wanted tree ≡ leaf
  subtree_at-none wanted leaf none = refl
  subtree_at-none wanted (fork shade before own item after) none =
      subtree_at-below wanted shade before own item after ((one_if_same-cases wanted own).0 (omega arith))
      ∙ ap (λ tree. or_else tree (subtree_at wanted after)) (subtree_at-none wanted before (omega arith))
      ∙ subtree_at-none wanted after (omega arith)

  pub subtree_at-fork_on : (wanted : ℕ) (side : Side) (shade : Colour) (near : Shape T) (own : ℕ) (item : T) (far : Shape T) → one_if_same wanted own + occurs wanted far ≡ 0
      → subtree_at wanted (fork_on side shade near own item far) ≡ subtree_at wanted near
  subtree_at-fork_on wanted side shade near own item far none = grind (arith, subtree_at-below, one_if_same-cases, subtree_at-none, or_else-leaf)

  -- a handle that isn't in the frames is found inside them
  pub subtree_at-plug : (around : List (Frame T)) (handle : ℕ) (subtree : Shape T) → occurs_around handle around ≡ 0 → subtree_at handle (plug around subtree) ≡ subtree_at handle subtree
  subtree_at-plug [] handle subtree none = refl
  subtree_at-plug (frame ∷ around) handle subtree none =
      subtree_at-plug around handle (fill frame subtree) (omega arith)
      ∙ subtree_at-fork_on handle frame.side frame.colour subtree frame.handle frame.item frame.sibling (omega arith)

  -- the subtree at the handle of a node, where no handle stands twice
  pub subtree_at-cut : (around : List (Frame T)) (shade : Colour) (before : Shape T) (handle : ℕ) (item : T) (after : Shape T)
      → occurs handle (plug around (fork shade before handle item after)) ≤ 1
      → subtree_at handle (plug around (fork shade before handle item after)) ≡ fork shade before handle item after
  subtree_at-cut around shade before handle item after once = grind (arith, occurs-plug, one_if_same-same, subtree_at-plug, subtree_at-here)

  -- in a list where an item stands once, it is in one place
  pub same_cut : (handle : ℕ) (front back front' back' : List (ℕ × T)) (item item' : T) → occurs_among handle (front ++ (handle, item) ∷ back) ≤ 1
      → front ++ (handle, item) ∷ back ≡ front' ++ (handle, item') ∷ back' → (front ≡ front') × (item ≡ item') × (back ≡ back')
  same_cut handle [] back [] back' item item' once same = grind arith
  same_cut handle [] back (first ∷ front') back' item item' once same = grind (arith, occurs_among-append, one_if_same-same)
  same_cut handle (first ∷ front) back [] back' item item' once same = grind (arith, occurs_among-append, one_if_same-same)
  same_cut handle (first ∷ front) back (other ∷ front') back' item item' once same =
      let head : first ≡ other = cc in
      let rest : front ++ (handle, item) ∷ back ≡ front' ++ (handle, item') ∷ back' = cc in
      let inner = same_cut handle front back front' back' item item' (omega arith) rest in
      (ap (λ entry. entry ∷ front) head ∙ ap (λ list. other ∷ list) inner.0, inner.1, inner.2)
