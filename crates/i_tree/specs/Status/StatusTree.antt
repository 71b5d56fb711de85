-- What a `StatusTree` promises beyond the trait.
use Rattle.std.specs.Prelude.{Bool, Result}
use Rattle.std.specs.declared.cmp.Ordering.{Ordering}
use Rattle.i_tree.specs.Expiring.Insertion.{InsertsByPath}
use Rattle.i_tree.specs.Expiring.Tree.{items}
use Rattle.i_tree.specs.Rb.RbTree.{Contents}
use Rattle.i_tree.specs.Status.Insertion.{JoinsOrLeaves}
use Rattle.i_tree.specs.declared.Refusal.{Refusal}

-- an insertion's slots, and when it is refused. `is_live` says which keys are live, and `may_answer` how a key may be called by what
-- joins.
abbrev pub StatusTreeInserts : {K V : Type 0} → (K → Bool) → (K → Ordering → Type 0) → Contents (K × V) → Result Bool Refusal → Contents (K × V) → Type 0
StatusTreeInserts is_live may_answer old result new = InsertsByPath is_live may_answer old result new

-- the pairs of a tree after an insertion: where its pair was new it has joined, and else only pairs that are not live are gone
abbrev pub StatusTreeJoins : {K V : Type 0} → (K → Bool) → (K → Ordering → Type 0) → Bool → K × V → Contents (K × V) → Contents (K × V) → Type 0
StatusTreeJoins is_live may_answer is_new pair old new = JoinsOrLeaves is_live may_answer is_new pair (items old.shape) (items new.shape)
