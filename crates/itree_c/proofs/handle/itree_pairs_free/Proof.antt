-- the handle's parts become a box, and it is dropped
use Rattle.itree_c.proofs.HandleFrees.{frees}
use Rattle.itree_c.proofs.pairs.drop_pairs.Met.{met}
use Rattle.itree_c.proofs.pairs.drop_pairs.Symbol.{name as dropper}
use Rattle.itree_c.specs.contracts.pairs.Pairs.{the_row as held_row}
use Rattle.itree_c.specs.contracts.handle.itree_pairs_free.Key.{name as #self}
use Rattle.itree_c.proofs.handle.itree_pairs_free.Statement.{statement}
use Rattle.itree_c.proofs.handle.itree_pairs_free.Code as code

pub itree_pairs_free_spec : {M : Type 1} → statement M
itree_pairs_free_spec 𝓤 𝓛 𝓜 𝓡 wired =
    frees 𝓛 held_row 𝓜 𝓡 dropper (met 𝓤 𝓛 𝓜 𝓡 (code.calls-itree_c::pairs::drop_pairs 𝓡.env wired)) #self (code.unfolded 𝓤 𝓛.H 𝓜 𝓡 wired)
