-- What contracts see of a tree of pairs whose keys expire, beside its core.
use Rattle.std.specs.Prelude.{◌≡◌, ℕ, ◌-◌, Bool, if◌then◌else◌, List, length, map}
use Rattle.std.specs.declared.cmp.Ordering.{Ordering}
use Rattle.i_tree.specs.Expiring.Live.{live_pairs, IsExpired}
use Rattle.i_tree.specs.Rb.Balance.{IsCore}
use Rattle.i_tree.specs.Rb.RbTree.{Contents, slots, slots_grown}
use Rattle.i_tree.specs.Rb.Shape.{Shape, leaf, entries}
use Rattle.i_tree.specs.Root.Change.{Gains}
use Rattle.i_tree.specs.Root.Descent.{Descends}
use Rattle.i_tree.specs.Root.Steps.{Counts}

module _ {T : Type 0} where
  -- the items of a core, in order
  abbrev pub items : Shape T → List T
  items tree = map (λ entry. entry.1) (entries tree)

  -- how many slots there are where so many entries are stored after an insertion: as many as before if these sufficed,
  -- else twice as many, up to `EMPTY_REF`
  abbrev pub slots_for : Contents T → ℕ → ℕ
  slots_for contents stored = slots_grown (slots contents - stored) (slots contents)

  -- after an insertion there are so many slots: as many as before if these sufficed, else twice as many
  abbrev pub DoublesIfFull : Contents T → Contents T → Type 0
  DoublesIfFull old new = slots new ≡ slots_for old (length (items new.shape))

  -- a query keeps the slots
  pub record TreeLeaves (old new : Contents T) : Type 0 where
    pub core : IsCore new.shape
    pub slots : slots new ≡ slots old

  -- `clear` leaves no node, and keeps the slots
  pub record TreeClears (old new : Contents T) : Type 0 where
    pub empty : new.shape ≡ leaf
    pub slots : slots new ≡ slots old

  -- The steps of a descent that has brought a tree from its old state to its new one, as `Descends` says of them; the last says
  -- whether an entry joined. `Made` says which counts were made.
  abbrev pub TreeDescends : {S : Type 0} → (S → S → Counts → Type 0) → S → S → Contents T → Contents T → Bool → Type 0
  TreeDescends Made before after old new joined =
      Descends Made before after (length (items old.shape)) (length (items new.shape)) (if joined then 1 else 0)

-- `expiration` gives a key's expiration, and `cmp` compares expirations.
module _ {K V E : Type 0} (expiration : K → E) (cmp : E → E → Ordering) where
  -- the pairs in a tree whose keys are live at a time, in their order
  abbrev pub live_in : E → Contents (K × V) → List (K × V)
  live_in time tree = live_pairs expiration cmp time (items tree.shape)

  -- some pairs in a tree are gone that were expired at a time, and the pair has joined the others
  abbrev pub TreeGains : E → K × V → Contents (K × V) → Contents (K × V) → Type 0
  TreeGains time pair old new = Gains (IsExpired expiration cmp time) pair (items old.shape) (items new.shape)
