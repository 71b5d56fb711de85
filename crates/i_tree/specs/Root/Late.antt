-- When a time is late. `cmp` compares times.
use Rattle.std.specs.Prelude.{Bool, false}
use Rattle.std.specs.Ordering.{is_lt}
use Rattle.std.specs.declared.cmp.Ordering.{Ordering}
use Rattle.std.specs.declared.option.Option.{Option}
use Rattle.std.specs.declared.option.Option.TheVariants.{None, Some}

-- a time is late that is before the last one; where none came yet, none is
abbrev pub is_late : {E : Type 0} → (E → E → Ordering) → Option E → E → Bool
is_late cmp None time = false
is_late cmp (Some last) time = is_lt (cmp time last)
