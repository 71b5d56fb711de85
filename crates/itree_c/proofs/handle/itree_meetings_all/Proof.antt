-- the handle is the pointer of what was made
use Rattle.itree_c.proofs.HandleMade.{makes}
use Rattle.itree_c.proofs.handle.all_meetings.Met.{met}
use Rattle.itree_c.proofs.handle.all_meetings.Symbol.{name as callee}
use Rattle.itree_c.proofs.handle.itree_meetings_all.Code as code
use Rattle.itree_c.proofs.handle.itree_meetings_all.Statement.{statement}
use Rattle.itree_c.specs.Handle.{AnswersAll}
use Rattle.itree_c.specs.contracts.pairs.Pairs.{the_row as held_row}
use Rattle.itree_c.specs.contracts.handle.itree_meetings_all.Key.{name as #self}
use Rattle.plane.specs.contracts.edge.Edge.{the_row as edge_row}

pub itree_meetings_all_spec : {M : Type 1} → statement M
itree_meetings_all_spec 𝓤 𝓛 𝓜 𝓡 wired =
    makes 𝓛 held_row edge_row tt AnswersAll 𝓜 𝓡 callee (met 𝓤 𝓛 𝓜 𝓡 (code.calls-itree_c::handle::all_meetings 𝓡.env wired)) #self (code.unfolded 𝓤 𝓛.H 𝓜 𝓡 wired)
