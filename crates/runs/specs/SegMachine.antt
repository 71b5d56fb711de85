-- The machine of segment commands: what it may reply, and the state that it goes on to.
use Rattle.std.specs.Prelude.{◌≡◌, ◌≢◌, ℤ, true, false, List, [], ◌∷◌, Option, Some, None, filter, IsPermutation}
use Rattle.std.specs.declared.cmp.Ordering.{Ordering}
use Rattle.i_tree.specs.Root.Late.{is_late}
use Rattle.i_tree.specs.Seg.Buckets.{Buckets, Accepts, interval}
use Rattle.i_tree.specs.Seg.Members.{Member, member_over, is_live_yet, answer}
use Rattle.i_tree.specs.declared.seg.exp.SegRange.{SegRange}
use Rattle.runs.specs.Chain.{Chain}
use Rattle.runs.specs.declared.segments.SegCommand.{SegCommand}
use Rattle.runs.specs.declared.segments.SegCommand.TheVariants.{Insert, Query, Clear}
use Rattle.runs.specs.declared.segments.SegReply.{SegReply}
use Rattle.runs.specs.declared.segments.SegReply.TheVariants as kept

-- a reply, wherever its list of values is kept
pub data Reply (V : Type 0) : Type 0 where
  Inserted : Reply V
  Outside : Reply V
  Late : Reply V
  Refused : Reply V
  Values : List V → Reply V
  Cleared : Reply V

-- A reply of the program, with its values as a list.
abbrev pub reply_of : {V B : Type 0} → SegReply V B → Reply V
reply_of kept.Inserted = Inserted
reply_of kept.Outside = Outside
reply_of kept.Late = Late
reply_of kept.Refused = Refused
reply_of (kept.Values values) = Values values.items
reply_of kept.Cleared = Cleared

-- one member for each insertion, in any order, and the time of the last query
pub record State (E V : Type 0) : Type 0 where
  pub bag : List (Member V)
  pub latest : Option E

-- a run that begins with nothing has had no query
abbrev pub nothing : {E V : Type 0} → State E V
nothing = record { bag = []; latest = None }

-- the range goes upwards and lies in the machine's own
abbrev pub IsAccepted : {R : Type 0} → (R → ℤ) → Buckets → SegRange R → Type 0
IsAccepted whole buckets range = Accepts buckets (whole range.min) (whole range.max)

-- `expiration` gives a value's expiration, and `cmp` compares times.
module _ {E V : Type 0} (expiration : V → E) (cmp : E → E → Ordering) where
  -- the members that are held are those of the bag that are live at the latest time; where there is none, all
  abbrev pub StandsFor : List (Member V) → Option E → List (Member V) → Type 0
  StandsFor held latest bag = IsPermutation (filter (λ member. is_live_yet expiration cmp latest member.value) bag) held

  -- `whole` gives the whole number of an end of a range, and `buckets` are those of the machine's own range.
  module _ {R : Type 0} (whole : R → ℤ) (buckets : Buckets) where
    -- From the old state the machine may give this reply to the command and go on to the new state.
    abbrev pub Step : State E V → SegCommand R E V → Reply V → State E V → Type 0
    Step old (Insert range val) Outside new = ¬ (IsAccepted whole buckets range) × (new ≡ old)
    Step old (Insert range val) Inserted new =
        IsAccepted whole buckets range
        × (new ≡ record { bag = member_over buckets (whole range.min) (whole range.max) val ∷ old.bag; latest = old.latest })
    Step old (Insert range val) Refused new = IsAccepted whole buckets range × (new ≡ old)
    Step old (Query range time) Outside new = ¬ (IsAccepted whole buckets range) × (new ≡ old)
    Step old (Query range time) Late new = IsAccepted whole buckets range × (is_late cmp old.latest time ≡ true) × (new ≡ old)
    Step old (Query range time) (Values values) new =
        IsAccepted whole buckets range
        × (is_late cmp old.latest time ≡ false)
        × IsPermutation (answer expiration cmp time (interval buckets (whole range.min) (whole range.max)) old.bag) values
        × (new ≡ record { bag = old.bag; latest = Some time })
    Step old (Query range time) Refused new =
        IsAccepted whole buckets range
        × (is_late cmp old.latest time ≡ false)
        × (answer expiration cmp time (interval buckets (whole range.min) (whole range.max)) old.bag ≢ [])
        × (new ≡ record { bag = old.bag; latest = Some time })
    Step old Clear Cleared new = new ≡ nothing
    -- no other reply is given
    Step old (Insert range val) Late new = ⊥
    Step old (Insert range val) (Values values) new = ⊥
    Step old (Insert range val) Cleared new = ⊥
    Step old (Query range time) Inserted new = ⊥
    Step old (Query range time) Cleared new = ⊥
    Step old Clear Inserted new = ⊥
    Step old Clear Outside new = ⊥
    Step old Clear Late new = ⊥
    Step old Clear Refused new = ⊥
    Step old Clear (Values values) new = ⊥

    -- The machine may give these replies to these commands, one step after another.
    abbrev pub Run : State E V → List (SegCommand R E V) → List (Reply V) → State E V → Type 0
    Run = Chain Step

    -- From whichever bag the held members stood for, the replies are a run to one that the members held then stand for.
    abbrev pub RunsOver : List (Member V) → Option E → List (SegCommand R E V) → List (Reply V) → List (Member V) → Option E → Type 0
    RunsOver held latest commands replies held' latest' =
        (bag : List (Member V)) → StandsFor held latest bag
        → (end : List (Member V))
        × Run (record { bag = bag; latest = latest }) commands replies (record { bag = end; latest = latest' })
        × StandsFor held' latest' end

    -- From whichever bag the held members stood for, the reply is a step to one that they stand for now.
    abbrev pub Serves : List (Member V) → Option E → SegCommand R E V → Reply V → List (Member V) → Option E → Type 0
    Serves held latest command reply held' latest' =
        (bag : List (Member V)) → StandsFor held latest bag
        → (bag' : List (Member V))
        × Step (record { bag = bag; latest = latest }) command reply (record { bag = bag'; latest = latest' })
        × StandsFor held' latest' bag'
