-- What holds of each red-black tree.
use Rattle.std.proofs.Common.{◌≡◌, ℕ, ◌+◌, ◌*◌, ◌^◌, ◌<◌, ◌≤◌, ◌⊎◌, inl, inr, true, ◌∷◌, length, refl, ap, ◌∙◌, add-one, arith, List}
use Rattle.std.proofs.Math.Nat.{two-pow-succ}
use Rattle.std.proofs.Math.Pow.{pow_mono}
use Rattle.std.proofs.lemmas.Bool.{cases_lt}
use Rattle.std.proofs.lemmas.List.{length-append}
use Rattle.i_tree.specs.declared.rb.links.Colour.{Colour}
use Rattle.i_tree.specs.declared.rb.links.Colour.TheVariants.{Red, Black}
use Rattle.i_tree.specs.declared.rb.links.Side.{Side}
use Rattle.i_tree.specs.declared.rb.links.Side.TheVariants.{Left, Right}
use Rattle.i_tree.specs.Rb.Balance.{IsCore, is_black, IsRedBlack, is_black_colour, is_black_around, level_of, MayStand}
use Rattle.i_tree.specs.Rb.Context.{Frame, fork_on}
use Rattle.i_tree.specs.Rb.Shape.{Shape, leaf, fork, entries, black_levels, rank, height, RanksFall, AreHandles}

pub pow_more : (n : ℕ) → 2 ^ (n + 1) ≡ 2 ^ n + 2 ^ n
pow_more n = ap (λ k. 2 ^ k) (add-one n) ∙ two-pow-succ n

-- a power of two is below a higher one only
pub pow_below_pow : (low high : ℕ) → 2 ^ low < 2 ^ high → low < high
pow_below_pow low high below = by_order (cases_lt low high)
  where
    by_order : (low < high) ⊎ (high ≤ low) → low < high
    by_order (inl under) = under
    by_order (inr over) = absurd (omega (arith, pow_mono over))

module _ {T : Type 0} where
  pub is_black-fork_on : (side : Side) (colour : Colour) (near : Shape T) (handle : ℕ) (item : T) (far : Shape T)
      → is_black (fork_on side colour near handle item far) ≡ is_black_colour colour
  is_black-fork_on Left colour near handle item far = refl
  is_black-fork_on Right colour near handle item far = refl

  -- how many levels a node has, along its near side
  pub levels-fork_on : (side : Side) (colour : Colour) (near : Shape T) (handle : ℕ) (item : T) (far : Shape T)
      → black_levels far ≡ black_levels near → black_levels (fork_on side colour near handle item far) ≡ black_levels near + level_of colour
  levels-fork_on side colour near handle item far even = grind arith

  -- what a red node asks of its surroundings
  pub red_stands : (colour : Colour) (sibling : Shape T) (around : List (Frame T)) → MayStand colour sibling around → colour ≡ Red → (is_black sibling ≡ true) × (is_black_around around ≡ true)
  red_stands Red sibling around stands red = stands
  red_stands Black sibling around stands red = cc

  pub rank-black : (tree : Shape T) → is_black tree ≡ true → rank tree ≡ 2 * black_levels tree
  rank-black tree black = grind arith

  pub rank-at_most : (tree : Shape T) → rank tree ≤ 2 * black_levels tree + 1
  rank-at_most tree = grind arith

  pub RanksFall-from_red_black : (tree : Shape T) → IsRedBlack tree → RanksFall tree
  RanksFall-from_red_black leaf balanced = tt
  RanksFall-from_red_black (fork Red before handle item after) balanced = (
    omega (arith, rank-black before balanced.3.0),
    omega (arith, rank-black after balanced.3.1, balanced.2),
    RanksFall-from_red_black before balanced.0,
    RanksFall-from_red_black after balanced.1,
  )
  RanksFall-from_red_black (fork Black before handle item after) balanced = (
    omega (arith, rank-at_most before),
    omega (arith, rank-at_most after, balanced.2),
    RanksFall-from_red_black before balanced.0,
    RanksFall-from_red_black after balanced.1,
  )

  height-at_most : (tree : Shape T) → RanksFall tree → height tree ≤ rank tree
  height-at_most leaf falls = omega arith
  height-at_most (fork colour before handle item after) falls =
      omega (arith, height-at_most after falls.3, height-at_most before falls.2, falls.0, falls.1)

  length-fork : (colour : Colour) (before : Shape T) (handle : ℕ) (item : T) (after : Shape T)
      → length (entries (fork colour before handle item after)) ≡ length (entries before) + length (entries after) + 1
  length-fork colour before handle item after = omega (arith, length-append (entries before) ((handle, item) ∷ entries after))

  -- so many entries are under so many black levels
  levels-filled : (tree : Shape T) → IsRedBlack tree → 2 ^ black_levels tree ≤ length (entries tree) + 1
  levels-filled leaf balanced = omega arith
  levels-filled (fork Red before handle item after) balanced =
      omega (arith, length-fork Red before handle item after, levels-filled before balanced.0)
  levels-filled (fork Black before handle item after) balanced =
      let even = ap (λ levels. 2 ^ levels) balanced.2 in
      let double = pow_more (black_levels before) in
      omega (arith, levels-filled after balanced.1, levels-filled before balanced.0, length-fork Black before handle item after)

  -- a red top adds a level
  levels-filled_red : (before : Shape T) (handle : ℕ) (item : T) (after : Shape T) → IsRedBlack (fork Red before handle item after)
      → 2 ^ (black_levels before + 1) ≤ length (entries (fork Red before handle item after)) + 1
  levels-filled_red before handle item after balanced =
      let even = ap (λ levels. 2 ^ levels) balanced.2 in
      let double = pow_more (black_levels before) in
      omega (arith, levels-filled after balanced.1, levels-filled before balanced.0, length-fork Red before handle item after)

  rank-bounded : (tree : Shape T) → IsRedBlack tree → (levels : ℕ) → length (entries tree) + 1 < 2 ^ (levels + 1) → rank tree ≤ 2 * levels
  rank-bounded tree balanced levels few = grind (arith, levels-filled_red, pow_below_pow, levels-filled)

  pub IsCore-from_red_black : (tree : Shape T) → AreHandles tree → IsRedBlack tree → IsCore tree
  IsCore-from_red_black tree handles balanced =
      let falls = RanksFall-from_red_black tree balanced in
      record { handles = handles; balanced = balanced; falls = falls; low = height-at_most tree falls; bounded = rank-bounded tree balanced }
