-- The pairs of a tree and its handles.
use Rattle.std.proofs.Common.{◌≡◌, ◌==◌, ℕ, ◌∷◌, refl, sym, if◌then◌else◌}
use Rattle.std.proofs.lemmas.List.{map-append}
use Rattle.i_tree.specs.Set.Pairs.{with_value}
use Rattle.i_tree.specs.Rb.Shape.{Shape, leaf, fork, entries, with_item}

module _ {V : Type 0} where
  -- an item that is put into a tree at a handle is put into its pairs there
  pub with_value-entries : (handle : ℕ) (value : V) (tree : Shape V) → entries (with_item handle value tree) ≡ with_value handle value (entries tree)
  with_value-entries handle value leaf = refl
  with_value-entries handle value (fork colour before at item after) =
      rw (with_value-entries handle value before, with_value-entries handle value after)
      (sym (map-append (λ (pair : ℕ × V). (pair.0, if handle == pair.0 then value else pair.1)) (entries before) ((at, item) ∷ entries after)))
