-- When commands to a status ask their probes, and about which keys. The known pairs are those stored at the start and
-- those that earlier commands insert, whatever became of them, but none from before a `Clear`.
use Rattle.std.specs.Prelude.{⊤, List, [], ◌∷◌, All, Option, Some, None, IfSome}
use Rattle.std.specs.declared.cmp.Ordering.{Ordering}
use Rattle.i_tree.specs.Expiring.Live.{live_pairs}
use Rattle.runs.specs.declared.status.StatusCommand.{StatusCommand}
use Rattle.runs.specs.declared.status.StatusCommand.TheVariants.{InsertBy, LessOrEqualBy, GreaterBy, NeighboursBy, Clear}

-- the command's time and its probe, where it has them
abbrev pub asks : {K E V P : Type 0} → StatusCommand K E V P → Option (E × P)
asks (InsertBy key val time probe) = Some (time, probe)
asks (LessOrEqualBy time default probe) = Some (time, probe)
asks (GreaterBy time default probe) = Some (time, probe)
asks (NeighboursBy time probe) = Some (time, probe)
asks Clear = None

-- what is known after a command
abbrev pub known_after : {K E V P : Type 0} → StatusCommand K E V P → List (K × V) → List (K × V)
known_after (InsertBy key val time probe) known = (key, val) ∷ known
known_after (LessOrEqualBy time default probe) known = known
known_after (GreaterBy time default probe) known = known
known_after (NeighboursBy time probe) known = known
known_after Clear known = []

module _ {K E V P : Type 0} (expiration : K → E) (cmp_time : E → E → Ordering) (may_call : P → K → Type 0) where
  -- the command's probe may be called on each key of the pairs that is live at its time
  abbrev pub CanProbe : StatusCommand K E V P → List (K × V) → Type 0
  CanProbe command pairs =
      IfSome (asks command) (λ asked. All (λ pair. may_call asked.1 pair.0) (live_pairs expiration cmp_time asked.0 pairs))

  -- so may the probes of all commands, each on what is known by then
  abbrev pub CanProbeAll : List (K × V) → List (StatusCommand K E V P) → Type 0
  CanProbeAll known [] = ⊤
  CanProbeAll known (command ∷ commands) = CanProbe command known × CanProbeAll (known_after command known) commands
