-- The machine of set commands: what it may reply, and the list that it goes on to. Its state is the values by rising key.
use Rattle.std.specs.Prelude.{◌≡◌, ◌≢◌, List, ◌∷◌, ◌++◌, All, map}
use Rattle.std.specs.declared.cmp.Ordering.{Ordering}
use Rattle.std.specs.declared.cmp.Ordering.TheVariants.{Equal, Greater}
use Rattle.i_tree.specs.Root.Answer.{IsGreatest}
use Rattle.i_tree.specs.Root.Change.{Joins}
use Rattle.i_tree.specs.Root.Pairs.{HasKey, NoKey, IsRising}
use Rattle.runs.specs.Chain.{Chain}
use Rattle.runs.specs.declared.sets.SetCommand.{SetCommand}
use Rattle.runs.specs.declared.sets.SetCommand.TheVariants.{Insert, Delete, Find, Before}
use Rattle.runs.specs.declared.sets.SetReply.{SetReply}
use Rattle.runs.specs.declared.sets.SetReply.TheVariants.{Inserted, Present, Refused, Deleted, Absent, Key, None}

-- `key_of` gives a value's key, and `cmp` compares keys.
module _ {K V : Type 0} (key_of : V → K) where
  -- each value behind its key
  abbrev pub keyed : List V → List (K × V)
  keyed values = map (λ value. (key_of value, value)) values

  module _ (cmp : K → K → Ordering) where
    -- From the old state the machine may give this reply to the command and go on to the new state.
    abbrev pub Step : List V → SetCommand K V → SetReply K V → List V → Type 0
    Step old (Insert value) (Present handed) new = HasKey cmp (keyed old) (key_of value) × (handed ≡ value) × (new ≡ old)
    Step old (Insert value) Inserted new = NoKey cmp (keyed old) (key_of value) × Joins value old new × IsRising cmp (keyed new)
    Step old (Insert value) (Refused handed cause) new = NoKey cmp (keyed old) (key_of value) × (handed ≡ value) × (new ≡ old)
    Step old (Delete key) Deleted new =
        (front : List V) × (value : V) × (back : List V)
        × (old ≡ front ++ value ∷ back) × (cmp (key_of value) key ≡ Equal) × (new ≡ front ++ back)
    Step old (Delete key) Absent new = NoKey cmp (keyed old) key × (new ≡ old)
    Step old (Find key) (Key found) new = (value : V) × IsGreatest cmp (λ other. cmp other key ≢ Greater) (keyed old) (found, value) × (new ≡ old)
    Step old (Find key) None new = All (λ value. cmp (key_of value) key ≡ Greater) old × (new ≡ old)
    Step old (Before key) (Key found) new =
        (front : List V) × (previous : V) × (value : V) × (back : List V)
        × (old ≡ front ++ previous ∷ (value ∷ back)) × (cmp (key_of value) key ≡ Equal) × (found ≡ key_of previous) × (new ≡ old)
    Step old (Before key) None new = (value : V) × (back : List V) × (old ≡ value ∷ back) × (cmp (key_of value) key ≡ Equal) × (new ≡ old)
    Step old (Before key) Absent new = NoKey cmp (keyed old) key × (new ≡ old)
    -- no other reply is given
    Step old command reply new = ⊥

    -- The machine may give these replies to these commands, one step after another.
    abbrev pub Run : List V → List (SetCommand K V) → List (SetReply K V) → List V → Type 0
    Run = Chain Step
