-- Steps one after another: what a run is, of any machine.
use Rattle.std.specs.Prelude.{◌≡◌, List, [], ◌∷◌}

-- `Step` tells which reply a state may give to a command, and which state follows.
module _ {State Command Reply : Type 0} (Step : State → Command → Reply → State → Type 0) where
  -- There is one reply for each command, and each is a step on from where the one before it led.
  abbrev pub Chain : State → List Command → List Reply → State → Type 0
  Chain old [] [] new = new ≡ old
  Chain old (command ∷ commands) (reply ∷ replies) new = (middle : State) × Step old command reply middle × Chain middle commands replies new
  Chain old [] (reply ∷ replies) new = ⊥
  Chain old (command ∷ commands) [] new = ⊥
