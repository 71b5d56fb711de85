-- When two runs of the same commands reply alike.
use Rattle.std.specs.Prelude.{◌≡◌, ⊤, false, List, [], ◌∷◌, All, AllPairs}
use Rattle.std.specs.declared.cmp.Ordering.{Ordering}
use Rattle.std.specs.declared.cmp.Ordering.TheVariants as ordering
use Rattle.i_tree.specs.declared.Refusal.{Refusal}
use Rattle.i_tree.specs.Expiring.Live.{live_pairs}
use Rattle.i_tree.specs.Root.Late.{is_late}
use Rattle.runs.specs.KeyMachine.{State, Step}
use Rattle.runs.specs.declared.keys.KeyCommand.{KeyCommand}
use Rattle.runs.specs.declared.keys.KeyCommand.TheVariants.{Insert, Less, LessOrEqualBy, Clear}
use Rattle.runs.specs.declared.keys.KeyReply.{KeyReply}
use Rattle.runs.specs.declared.keys.KeyReply.TheVariants.{Refused}

module _ {V : Type 0} where
  -- the insertion was refused
  abbrev pub IsRefused : KeyReply V → Type 0
  IsRefused reply = (cause : Refusal) × (reply ≡ Refused cause)

  -- no insertion was refused
  abbrev pub NoneRefused : List (KeyReply V) → Type 0
  NoneRefused replies = All (λ reply. ¬ (IsRefused reply)) replies

-- `order` says how a key stands to what a probe looks for.
module _ {K E V P : Type 0} (expiration : K → E) (cmp_time : E → E → Ordering) (cmp_key : K → K → Ordering) (order : P → K → Ordering) where
  -- Unless it is late, the command's probe calls at most one key Equal of the accepted ones that are live at its time:
  -- two that it calls Equal compare Equal, and such keys are one place.
  abbrev pub OneEqual : State K E V → KeyCommand K E V P → Type 0
  OneEqual state (LessOrEqualBy time default probe) =
      is_late cmp_time state.last time ≡ false
      → AllPairs (λ one other. order probe one.0 ≡ ordering.Equal → order probe other.0 ≡ ordering.Equal → cmp_key one.0 other.0 ≡ ordering.Equal)
      (live_pairs expiration cmp_time time state.accepted)
  OneEqual state (Insert key val time) = ⊤
  OneEqual state (Less time default key) = ⊤
  OneEqual state Clear = ⊤

  -- So do the probes of all commands, in each state that steps without a refusal lead to
  abbrev pub OneEqualEach : State K E V → List (KeyCommand K E V P) → Type 0
  OneEqualEach old [] = ⊤
  OneEqualEach old (command ∷ commands) =
      OneEqual old command
      × ((reply : KeyReply V) (new : State K E V) → Step expiration cmp_time cmp_key order old command reply new → ¬ (IsRefused reply) → OneEqualEach new commands)
