-- How the values of replies are put in order before they are written.
use Rattle.std.specs.Prelude.{◌≡◌, ⊤, List, [], ◌∷◌, IsPermutation}
use Rattle.std.specs.List.Sorted.{IsSorted}
use Rattle.runs.specs.SegMachine.{Reply}
use Rattle.runs.specs.SegMachine.Reply.{Inserted, Outside, Late, Refused, Values, Cleared}
use Rattle.itree.specs.Answers.{cmp_vals}
use Rattle.itree.specs.declared.timed_val.TimedVal.{TimedVal}

-- the reply lists the same values in rising order, or is the same where it lists none
abbrev pub Sorts : Reply TimedVal → Reply TimedVal → Type 0
Sorts (Values found) reply = (listed : List TimedVal) × (reply ≡ Values listed) × IsPermutation found listed × IsSorted cmp_vals listed
Sorts Inserted reply = reply ≡ Inserted
Sorts Outside reply = reply ≡ Outside
Sorts Late reply = reply ≡ Late
Sorts Refused reply = reply ≡ Refused
Sorts Cleared reply = reply ≡ Cleared

-- so do all replies
abbrev pub SortsAll : List (Reply TimedVal) → List (Reply TimedVal) → Type 0
SortsAll [] [] = ⊤
SortsAll (found ∷ others) (listed ∷ others') = Sorts found listed × SortsAll others others'
SortsAll [] (listed ∷ others') = ⊥
SortsAll (found ∷ others) [] = ⊥
