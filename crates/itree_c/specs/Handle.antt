-- Pairs behind a handle, which C holds.
use Rattle.std.specs.Prelude.{◌≡◌, ℕ, ℤ, List, Option, Some, None, map, reverse}
use base.Fml.{Fml}
use denote.RawPtr.{Ptr}
use Rattle.std.specs.contracts.impls.GlobalAllocator.TheImpl.{ghosts}
use Rattle.plane.specs.Meet.Meetings.{AreMeetings, AreMeetingsBetween}
use Rattle.plane.specs.declared.edge.Edge.{Edge}
use Rattle.itree_c.specs.Meetings.{pair_of}
use Rattle.itree_c.specs.Raw.{owns_at}
use Rattle.itree_c.specs.declared.pairs.Pairs.{Pairs}
use Rattle.itree_c.specs.declared.status.TheConstants.{ANSWERED, REFUSED}
use Rattle.itree_c.specs.contracts.pairs.Pairs.{the_row}

-- pairs lie at the handle and are its own, with the right to free their memory; or there are none, and it is null
abbrev pub owns_pairs : Ptr → Option Pairs → Fml
owns_pairs = owns_at (ghosts.dealloc_token (record { memory = record { seal = tt } })) the_row

-- the pairs are those of edges that meet, each once
abbrev pub AreAllMeetings : List Edge → Pairs → Type 0
AreAllMeetings edges pairs =
    (all : List (ℕ × ℕ)) × AreMeetings edges all × (pairs.held.items ≡ map pair_of (reverse all))

-- a call is answered by all pairs, or it is refused and there are none
abbrev pub AnswersAll : List Edge → ℤ → Option Pairs → Type 0
AnswersAll edges status (Some pairs) = (status ≡ ANSWERED) × AreAllMeetings edges pairs
AnswersAll edges status None = status ≡ REFUSED

-- the pairs are those of an edge of the one list and one of the other that meet, each once
abbrev pub AreAllBetween : List Edge → List Edge → Pairs → Type 0
AreAllBetween edges others pairs =
    (all : List (ℕ × ℕ)) × AreMeetingsBetween edges others all × (pairs.held.items ≡ map pair_of (reverse all))

-- a call over two lists is answered by all pairs, or it is refused and there are none
abbrev pub AnswersBetween : List Edge → List Edge → ℤ → Option Pairs → Type 0
AnswersBetween edges others status (Some pairs) = (status ≡ ANSWERED) × AreAllBetween edges others pairs
AnswersBetween edges others status None = status ≡ REFUSED
