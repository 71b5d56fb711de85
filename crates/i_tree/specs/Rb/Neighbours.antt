-- The ends of a list of entries, and what is next to one of them. For the private contracts of the core.
use Rattle.std.specs.Prelude.{ℕ, List}
use Rattle.i_tree.specs.declared.rb.links.Side.{Side}
use Rattle.i_tree.specs.declared.rb.links.Side.TheVariants.{Left, Right}
use Rattle.i_tree.specs.Rb.Shape.{first_handle, last_handle}

module _ {T : Type 0} where
  -- the handle of the entry at the end of a list on the side
  abbrev pub end_handle : Side → List (ℕ × T) → ℕ
  end_handle Left list = first_handle list
  end_handle Right list = last_handle list

  -- the handle of the entry next to one on the side, by what is in front of it and behind it
  abbrev pub next_handle : Side → List (ℕ × T) → List (ℕ × T) → ℕ
  next_handle Left front back = last_handle front
  next_handle Right front back = first_handle back
