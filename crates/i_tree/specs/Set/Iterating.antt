-- What contracts see of an iterator over the values of a set.
use Rattle.std.specs.Prelude.{◌≡◌, ◌≤◌, ◌-◌, ℕ, List, length, drop}
use Rattle.std.specs.Iterator.{YieldsFirstRef}
use Rattle.std.specs.Iterator.Runs.{YieldsRefsInOrder}
use Rattle.i_tree.specs.Rb.Shape.{first_handle}
use Rattle.i_tree.specs.Set.Pairs.{values}
use Rattle.i_tree.specs.declared.set.iterator.SetIterator.{SetIterator}

-- `pairs` are those of a set of the kind `C`.
module _ {K V C : Type 0} (pairs : C → List (ℕ × V)) where
  -- the pairs that are still to come: the last ones, as many as are left
  abbrev pub pairs_left : SetIterator K V C → List (ℕ × V)
  pairs_left walk = drop (length (pairs walk.set.now) - walk.left) (pairs walk.set.now)

  -- the values that are still to come, in order
  abbrev pub values_left : SetIterator K V C → List V
  values_left walk = values (pairs_left walk)

  -- the walk may go on: it has the handle of the first pair that is still to come
  pub record CanYield (walk : SetIterator K V C) : Type 0 where
    pub few : walk.left ≤ length (pairs walk.set.now)
    pub next : walk.next ≡ first_handle (pairs_left walk)

-- every run of such a walk yields the values that were still to come, in order
abbrev pub WalksInOrder : (K : Type 0) {V C : Type 0} → (C → List (ℕ × V)) → Type 0
WalksInOrder K pairs = YieldsRefsInOrder (YieldsFirstRef (values_left {K = K} pairs)) (values_left {K = K} pairs)
