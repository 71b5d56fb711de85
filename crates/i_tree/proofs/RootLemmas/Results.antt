-- What holds of a result, by what else does.
use Rattle.std.proofs.Common.{Result, Ok, Err}
use Rattle.std.specs.Result.{IfOk}

module _ {T E : Type 0} where
  pub IfOk-both : (r : Result T E) {P Q R : T → Type 0} → IfOk r P → IfOk r Q → ((x : T) → P x → Q x → R x) → IfOk r R
  IfOk-both (Ok x) p q both = both x p q
  IfOk-both (Err e) p q both = tt
