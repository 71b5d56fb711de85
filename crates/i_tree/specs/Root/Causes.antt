-- Why a call is refused.
use Rattle.std.specs.Prelude.{◌≡◌, ℕ, List, Result, IfErr, codes}
use Rattle.i_tree.specs.declared.Refusal.{Refusal}
use Rattle.i_tree.specs.declared.Refusal.TheVariants.{OutOfMemory, NoHandle}

-- where it is refused, it is for this cause
abbrev pub RefusedFor : {A C : Type 0} → C → Result A C → Type 0
RefusedFor wanted result = IfErr result (λ cause. cause ≡ wanted)

-- what a cause prints
abbrev pub refusal_text : Refusal → List ℕ
refusal_text OutOfMemory = codes "memory was refused"
refusal_text NoHandle = codes "every handle is in use"
