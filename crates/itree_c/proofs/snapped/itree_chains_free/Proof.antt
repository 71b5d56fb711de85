-- the handle's parts become a box, and it is dropped
use Rattle.itree_c.proofs.HandleFrees.{frees}
use Rattle.itree_c.proofs.chains.drop_chains.Met.{met}
use Rattle.itree_c.proofs.chains.drop_chains.Symbol.{name as dropper}
use Rattle.itree_c.specs.contracts.chains.Chains.{the_row as held_row}
use Rattle.itree_c.specs.contracts.snapped.itree_chains_free.Key.{name as #self}
use Rattle.itree_c.proofs.snapped.itree_chains_free.Statement.{statement}
use Rattle.itree_c.proofs.snapped.itree_chains_free.Code as code

pub itree_chains_free_spec : {M : Type 1} → statement M
itree_chains_free_spec 𝓤 𝓛 𝓜 𝓡 wired =
    frees 𝓛 held_row 𝓜 𝓡 dropper (met 𝓤 𝓛 𝓜 𝓡 (code.calls-itree_c::chains::drop_chains 𝓡.env wired)) #self (code.unfolded 𝓤 𝓛.H 𝓜 𝓡 wired)
