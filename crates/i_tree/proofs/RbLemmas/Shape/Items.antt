-- A tree in which an item is replaced keeps its handles and its balance.
use Rattle.std.proofs.Common.{◌≡◌, ℕ, ◌+◌, refl, sym, ap, ◌∙◌, arith}
use Rattle.i_tree.specs.declared.rb.links.Colour.{Colour}
use Rattle.i_tree.specs.declared.rb.links.Colour.TheVariants.{Red, Black}
use Rattle.i_tree.specs.Rb.Shape.{Shape, leaf, fork, occurs, black_levels, with_item, AreHandles}
use Rattle.i_tree.specs.Rb.Balance.{is_black, MayHold, IsRedBlack}

module _ {T : Type 0} (at : ℕ) (item : T) where
  pub occurs-with_item : (wanted : ℕ) (tree : Shape T) → occurs wanted (with_item at item tree) ≡ occurs wanted tree
  occurs-with_item wanted leaf = refl
  occurs-with_item wanted (fork shade before own held after) =
      omega (arith, occurs-with_item wanted before, occurs-with_item wanted after)

  pub black_levels-with_item : (tree : Shape T) → black_levels (with_item at item tree) ≡ black_levels tree
  black_levels-with_item leaf = refl
  black_levels-with_item (fork Red before own held after) = black_levels-with_item before
  black_levels-with_item (fork Black before own held after) = ap (λ (levels : ℕ). levels + 1) (black_levels-with_item before)

  pub is_black-with_item : (tree : Shape T) → is_black (with_item at item tree) ≡ is_black tree
  is_black-with_item leaf = refl
  is_black-with_item (fork shade before own held after) = refl

  pub MayHold-with_item : (shade : Colour) (before after : Shape T) → MayHold shade before after → MayHold shade (with_item at item before) (with_item at item after)
  MayHold-with_item Red before after may = (is_black-with_item before ∙ may.0, is_black-with_item after ∙ may.1)
  MayHold-with_item Black before after may = tt

  pub IsRedBlack-with_item : (tree : Shape T) → IsRedBlack tree → IsRedBlack (with_item at item tree)
  IsRedBlack-with_item leaf balanced = tt
  IsRedBlack-with_item (fork shade before own held after) balanced = (
    IsRedBlack-with_item before balanced.0,
    IsRedBlack-with_item after balanced.1,
    black_levels-with_item before ∙ balanced.2 ∙ sym (black_levels-with_item after),
    MayHold-with_item shade before after balanced.3,
  )

  pub AreHandles-with_item : (tree : Shape T) → AreHandles tree → AreHandles (with_item at item tree)
  AreHandles-with_item tree handles = grind (arith, occurs-with_item)
