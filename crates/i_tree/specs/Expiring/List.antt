-- What contracts see of a list of pairs whose keys expire. `expiration` gives a key's expiration, and `cmp` compares expirations.
use Rattle.std.specs.Prelude.{◌≡◌, ℕ, ◌+◌, List, length}
use Rattle.std.specs.declared.cmp.Ordering.{Ordering}
use Rattle.i_tree.specs.Expiring.Live.{live_pairs}

-- the pairs that are stored, in their order, and for how many more there is room
pub record Contents (K V : Type 0) : Type 0 where
  pub pairs : List (K × V)
  pub spare : ℕ

-- a query leaves exactly the pairs that are live at its time, and keeps the room
pub record ListLeaves {K V E : Type 0} (expiration : K → E) (cmp : E → E → Ordering) (time : E) (old new : Contents K V) : Type 0 where
  pub keeps_live : new.pairs ≡ live_pairs expiration cmp time old.pairs
  pub room : length new.pairs + new.spare ≡ length old.pairs + old.spare

-- the room that held the pairs is free
pub record ListClears {K V : Type 0} (old new : Contents K V) : Type 0 where
  pub room : new.spare ≡ length old.pairs + old.spare
