-- What the parts of a box own.
use Rattle.std.specs.Prelude.{Option, Some, None}
use base.Fml.{Fml, feq}
use mir.Syntax.{Ty}
use denote.RattleType.{RattleType}
use denote.RawPtr.{Ptr, null_ptr}
use Rattle.std.specs.Box.Ownership.{box_owns}

-- the value lies at the pointer, with the right t to free its memory; or there is none, and the pointer is null
abbrev pub owns_at : (Ty → Ptr → Fml) → (R : RattleType) → Ptr → Option R.Denot → Fml
owns_at t R at (Some value) = box_owns t R at value
owns_at t R at None = feq Ptr at null_ptr
