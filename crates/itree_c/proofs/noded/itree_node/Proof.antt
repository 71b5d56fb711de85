-- the handle is the pointer of what was made
use Rattle.itree_c.proofs.HandleMade.{makes}
use Rattle.itree_c.proofs.noded.all_node_chains.Met.{met}
use Rattle.itree_c.proofs.noded.all_node_chains.Symbol.{name as callee}
use Rattle.itree_c.proofs.noded.itree_node.Code as code
use Rattle.itree_c.proofs.noded.itree_node.Statement.{statement}
use Rattle.itree_c.specs.Chains.{AnswersNode}
use Rattle.itree_c.specs.contracts.chains.Chains.{the_row as held_row}
use Rattle.itree_c.specs.contracts.noded.itree_node.Key.{name as #self}
use Rattle.plane.specs.contracts.edge.Edge.{the_row as edge_row}

pub itree_node_spec : {M : Type 1} → statement M
itree_node_spec 𝓤 𝓛 𝓜 𝓡 wired =
    makes 𝓛 held_row edge_row tt AnswersNode 𝓜 𝓡 callee (met 𝓤 𝓛 𝓜 𝓡 (code.calls-itree_c::noded::all_node_chains 𝓡.env wired)) #self (code.unfolded 𝓤 𝓛.H 𝓜 𝓡 wired)
