-- When a key or a value is live. `expiration` gives its expiration, and `cmp` compares expirations.
use Rattle.std.specs.Prelude.{Bool}
use Rattle.std.specs.Ordering.{is_ge}
use Rattle.std.specs.declared.cmp.Ordering.{Ordering}

-- it is live at each time up to its expiration, and still at the equal moment
abbrev pub is_live : {T E : Type 0} → (T → E) → (E → E → Ordering) → E → T → Bool
is_live expiration cmp time it = is_ge (cmp (expiration it) time)
