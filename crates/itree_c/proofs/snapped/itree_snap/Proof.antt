-- the handle is the pointer of what was made
use Rattle.itree_c.proofs.HandleMade.{makes}
use Rattle.itree_c.proofs.snapped.all_chains.Met.{met}
use Rattle.itree_c.proofs.snapped.all_chains.Symbol.{name as callee}
use Rattle.itree_c.proofs.snapped.itree_snap.Code as code
use Rattle.itree_c.proofs.snapped.itree_snap.Statement.{statement}
use Rattle.itree_c.specs.Chains.{AnswersChains}
use Rattle.itree_c.specs.contracts.chains.Chains.{the_row as held_row}
use Rattle.itree_c.specs.contracts.snapped.itree_snap.Key.{name as #self}
use Rattle.plane.specs.contracts.edge.Edge.{the_row as edge_row}

pub itree_snap_spec : {M : Type 1} → statement M
itree_snap_spec 𝓤 𝓛 𝓜 𝓡 wired =
    makes 𝓛 held_row edge_row tt AnswersChains 𝓜 𝓡 callee (met 𝓤 𝓛 𝓜 𝓡 (code.calls-itree_c::snapped::all_chains 𝓡.env wired)) #self (code.unfolded 𝓤 𝓛.H 𝓜 𝓡 wired)
