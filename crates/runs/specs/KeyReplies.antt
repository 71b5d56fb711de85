-- Which kind of reply each command gets.
use Rattle.std.specs.Prelude.{⊤, List, [], ◌∷◌}
use Rattle.runs.specs.declared.keys.KeyCommand.{KeyCommand}
use Rattle.runs.specs.declared.keys.KeyCommand.TheVariants.{Insert, Less, LessOrEqualBy, Clear}
use Rattle.runs.specs.declared.keys.KeyReply.{KeyReply}
use Rattle.runs.specs.declared.keys.KeyReply.TheVariants.{Inserted, Present, Late, Refused, Value, Cleared}

-- an insertion is told how it went, a query its value, a clear that it was made, and all but a clear may be late
abbrev pub IsReplyTo : {K E V P : Type 0} → KeyCommand K E V P → KeyReply V → Type 0
IsReplyTo (Insert key val time) Inserted = ⊤
IsReplyTo (Insert key val time) Present = ⊤
IsReplyTo (Insert key val time) Late = ⊤
IsReplyTo (Insert key val time) (Refused cause) = ⊤
IsReplyTo (Insert key val time) (Value value) = ⊥
IsReplyTo (Insert key val time) Cleared = ⊥
IsReplyTo (Less time default key) Late = ⊤
IsReplyTo (Less time default key) (Value value) = ⊤
IsReplyTo (Less time default key) Inserted = ⊥
IsReplyTo (Less time default key) Present = ⊥
IsReplyTo (Less time default key) (Refused cause) = ⊥
IsReplyTo (Less time default key) Cleared = ⊥
IsReplyTo (LessOrEqualBy time default probe) Late = ⊤
IsReplyTo (LessOrEqualBy time default probe) (Value value) = ⊤
IsReplyTo (LessOrEqualBy time default probe) Inserted = ⊥
IsReplyTo (LessOrEqualBy time default probe) Present = ⊥
IsReplyTo (LessOrEqualBy time default probe) (Refused cause) = ⊥
IsReplyTo (LessOrEqualBy time default probe) Cleared = ⊥
IsReplyTo Clear Cleared = ⊤
IsReplyTo Clear Inserted = ⊥
IsReplyTo Clear Present = ⊥
IsReplyTo Clear Late = ⊥
IsReplyTo Clear (Refused cause) = ⊥
IsReplyTo Clear (Value value) = ⊥

-- there is one reply for each command, of its kind
abbrev pub RepliesTo : {K E V P : Type 0} → List (KeyCommand K E V P) → List (KeyReply V) → Type 0
RepliesTo [] [] = ⊤
RepliesTo (command ∷ commands) (reply ∷ replies) = IsReplyTo command reply × RepliesTo commands replies
RepliesTo [] (reply ∷ replies) = ⊥
RepliesTo (command ∷ commands) [] = ⊥
