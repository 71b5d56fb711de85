-- the two fields are those of the pairs
use Rattle.itree_c.proofs.Steps.{◌∙◌, length, refl, vec_ptr}
use Rattle.itree_c.proofs.HandleReads.{reads}
use Rattle.itree_c.proofs.pairs.Pairs.TheLaws.{lowered, lowers}
use Rattle.itree_c.specs.contracts.pairs.Pairs.{the_row as held_row}
use Rattle.itree_c.specs.contracts.handle.itree_pairs_first.Key.{name as #self}
use Rattle.itree_c.proofs.handle.itree_pairs_first.Statement.{statement}
use Rattle.itree_c.proofs.handle.itree_pairs_first.Code as code

pub itree_pairs_first_spec : {M : Type 1} → statement M
itree_pairs_first_spec 𝓤 𝓛 𝓜 𝓡 wired =
    reads 𝓛 held_row (λ x. length x.held.items) (λ x. vec_ptr x.held) 𝓜 𝓡 refl lowered lowers.val_is 0 1 refl (λ x. refl) refl refl
    (λ x. x.first) (λ x. x.count) (λ x. refl) (λ x. refl) (λ x good. good.1.0) (λ x. (x.told.1 ∙ x.held.ok.0, x.told.0))
    #self (code.unfolded 𝓤 𝓛.H 𝓜 𝓡 wired)
