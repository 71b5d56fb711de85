-- What an insertion answers that tells whether the key was there.
use Rattle.std.specs.Prelude.{⊤, Result, Option, OnErr, OnOk}
use Rattle.std.specs.declared.option.Option.TheVariants.{None, Some}
use Rattle.std.specs.declared.result.Result.TheVariants.{Ok, Err}
use Rattle.std.proofs.Common.{arith, ◌≡◌, subst}
use Rattle.i_tree.specs.Set.Insertion.{IfAbsent, IfPresent}

pub IfAbsent-weaker : {V E : Type 0} {P Q : Result ⊤ E → Type 0} (result : Result (Option V) E) → ((insertion : Result ⊤ E) → P insertion → Q insertion) → IfAbsent result P → IfAbsent result Q
IfAbsent-weaker result weaker holds = grind arith

-- what follows from either end of a call follows from the call
pub on_either : {R E : Type 0} {P Q Goal : Type 0} (result : Result R E) → OnOk result P → OnErr result Q → (P → Goal) → (Q → Goal) → Goal
on_either (Ok value) ok err from_ok from_err = from_ok ok
on_either (Err refused) ok err from_ok from_err = from_err err

-- an answer that is known by an equation
pub from_none : {V E : Type 0} (P : Result ⊤ E → Type 0) (answer : Option V) → answer ≡ None → IfAbsent (Ok answer) P → P (Ok tt)
from_none {V} P answer is holds = subst (λ (answer : Option V). IfAbsent (Ok answer) P) is holds

pub from_some : {V : Type 0} (E : Type 0) (P : V → Type 0) (answer : Option V) (given : V) → answer ≡ Some given → IfPresent {E = E} (Ok answer) P → P given
from_some {V} E P answer given is holds = subst (λ (answer : Option V). IfPresent {E = E} (Ok answer) P) is holds
