-- What contracts see of the core, beside its shape.
use Rattle.std.specs.Prelude.{ℕ, suc, zero, ◌+◌, ◌*◌, min, length}
use Rattle.i_tree.specs.declared.TheConstants.{EMPTY_REF}
use Rattle.std.specs.Coded.{Coded, code_by, coded×, coded_ℕ}
use Rattle.std.specs.Prelude.{refl}
use Rattle.i_tree.specs.Rb.Shape.{Shape, entries, with_item}
use Rattle.i_tree.specs.Rb.ShapeCode.{shape_code}

-- the tree, and how many slots are free
pub record Contents (T : Type 0) : Type 0 where
  pub shape : Shape T
  pub spare : ℕ

-- the contents are stored as the pair of the fields
abbrev pub contents_code : {T : Type 0} → Coded T → Coded (Contents T)
contents_code {T} code =
    code_by (Shape T × ℕ) (coded× (shape_code code) coded_ℕ) (λ c. (c.shape, c.spare)) (λ p. record { shape = p.0; spare = p.1 }) (λ _. refl)

-- so many slots, or where none was free twice as many, up to `EMPTY_REF`
abbrev pub slots_grown : ℕ → ℕ → ℕ
slots_grown zero count = min (2 * count) EMPTY_REF
slots_grown (suc _) count = count

module _ {T : Type 0} where
  -- how many slots there are: one for each entry, the free ones, and the reserved one
  abbrev pub slots : Contents T → ℕ
  slots contents = length (entries contents.shape) + contents.spare + 1

  -- how many slots there are once there is room for one more entry
  abbrev pub slots_with_room : Contents T → ℕ
  slots_with_room contents = slots_grown contents.spare (slots contents)

  -- the contents with this item at the handle
  abbrev pub contents_with_item : ℕ → Contents T → T → Contents T
  contents_with_item handle contents item = record contents { shape = with_item handle item contents.shape }
