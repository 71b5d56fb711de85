-- What an insertion answers that tells whether the key was there.
use Rattle.std.specs.Prelude.{⊤, Result, Option}
use Rattle.std.specs.declared.option.Option.TheVariants.{None, Some}
use Rattle.std.specs.declared.result.Result.TheVariants.{Ok, Err}

module _ {V E : Type 0} where
  -- where a value came back, its key was there, and this holds of it
  abbrev pub IfPresent : Result (Option V) E → (V → Type 0) → Type 0
  IfPresent (Ok (Some given)) Holds = Holds given
  IfPresent (Ok None) Holds = ⊤
  IfPresent (Err refused) Holds = ⊤

  -- where none came back, this holds of the insertion, which succeeded or was refused
  abbrev pub IfAbsent : Result (Option V) E → (Result ⊤ E → Type 0) → Type 0
  IfAbsent (Ok (Some given)) Holds = ⊤
  IfAbsent (Ok None) Holds = Holds (Ok tt)
  IfAbsent (Err refused) Holds = Holds (Err refused)
