-- the third field and the fourth are those of the offsets
use Rattle.itree_c.proofs.Steps.{◌∙◌, length, refl, vec_ptr}
use Rattle.itree_c.proofs.HandleReads.{reads}
use Rattle.itree_c.proofs.chains.Chains.TheLaws.{lowered, lowers}
use Rattle.itree_c.specs.contracts.chains.Chains.{the_row as held_row}
use Rattle.itree_c.specs.contracts.snapped.itree_chains_offsets.Key.{name as #self}
use Rattle.itree_c.proofs.snapped.itree_chains_offsets.Statement.{statement}
use Rattle.itree_c.proofs.snapped.itree_chains_offsets.Code as code

pub itree_chains_offsets_spec : {M : Type 1} → statement M
itree_chains_offsets_spec 𝓤 𝓛 𝓜 𝓡 wired =
    reads 𝓛 held_row (λ x. length x.held_offsets.items) (λ x. vec_ptr x.held_offsets) 𝓜 𝓡 refl lowered lowers.val_is 2 3 refl (λ x. refl) refl refl
    (λ x. x.offsets) (λ x. x.offset_count) (λ x. refl) (λ x. refl) (λ x good. good.1.1.1.0) (λ x. (x.offsets_told.1 ∙ x.held_offsets.ok.0, x.offsets_told.0))
    #self (code.unfolded 𝓤 𝓛.H 𝓜 𝓡 wired)
