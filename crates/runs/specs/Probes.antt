-- Where the probes of commands are asked, and how they answer there. The known pairs are those stored at the start and
-- those that earlier commands insert, whatever became of them, but none from before a `Clear`.
use Rattle.std.specs.Prelude.{⊤, List, [], ◌∷◌, All}
use Rattle.std.specs.declared.cmp.Ordering.{Ordering}
use Rattle.i_tree.specs.Root.Answer.{AnswersBy, IsMonotone}
use Rattle.i_tree.specs.Expiring.Live.{live_pairs}
use Rattle.runs.specs.declared.keys.KeyCommand.{KeyCommand}
use Rattle.runs.specs.declared.keys.KeyCommand.TheVariants.{Insert, Less, LessOrEqualBy, Clear}

-- what is known after a command
abbrev pub known_after : {K E V P : Type 0} → KeyCommand K E V P → List (K × V) → List (K × V)
known_after (Insert key val time) known = (key, val) ∷ known
known_after (Less time default key) known = known
known_after (LessOrEqualBy time default probe) known = known
known_after Clear known = []

module _ {K E V P : Type 0} (expiration : K → E) (cmp_time : E → E → Ordering) where
  -- the command's probe may be called on each key of the pairs that is live at its time
  abbrev pub CanProbe : (P → K → Type 0) → KeyCommand K E V P → List (K × V) → Type 0
  CanProbe may_call (LessOrEqualBy time default probe) pairs = All (λ pair. may_call probe pair.0) (live_pairs expiration cmp_time time pairs)
  CanProbe may_call (Insert key val time) pairs = ⊤
  CanProbe may_call (Less time default key) pairs = ⊤
  CanProbe may_call Clear pairs = ⊤

  -- so may the probes of all commands, each on what is known by then
  abbrev pub CanProbeAll : (P → K → Type 0) → List (K × V) → List (KeyCommand K E V P) → Type 0
  CanProbeAll may_call known [] = ⊤
  CanProbeAll may_call known (command ∷ commands) = CanProbe may_call command known × CanProbeAll may_call (known_after command known) commands

  module _ (cmp_key : K → K → Ordering) where
    -- at each key of the pairs that is live at its time the command's probe answers by the order, which is monotone there
    abbrev pub ProbesBy : (P → K → Ordering → Type 0) → (P → K → Ordering) → KeyCommand K E V P → List (K × V) → Type 0
    ProbesBy may_answer order (LessOrEqualBy time default probe) pairs =
        AnswersBy (may_answer probe) (order probe) (live_pairs expiration cmp_time time pairs)
        × IsMonotone cmp_key (order probe) (live_pairs expiration cmp_time time pairs)
    ProbesBy may_answer order (Insert key val time) pairs = ⊤
    ProbesBy may_answer order (Less time default key) pairs = ⊤
    ProbesBy may_answer order Clear pairs = ⊤

    -- so do the probes of all commands, each at what is known by then
    abbrev pub ProbesAllBy : (P → K → Ordering → Type 0) → (P → K → Ordering) → List (K × V) → List (KeyCommand K E V P) → Type 0
    ProbesAllBy may_answer order known [] = ⊤
    ProbesAllBy may_answer order known (command ∷ commands) =
        ProbesBy may_answer order command known × ProbesAllBy may_answer order (known_after command known) commands
