-- What contracts see of an iterator over the values that a query finds.
use Rattle.std.specs.Prelude.{◌≡◌, ◌<◌, ◌≤◌, ◌^◌, List, [], ◌∷◌, length, IsPermutation, MatchOption}
use Rattle.std.specs.declared.cmp.Ordering.{Ordering}
use Rattle.std.specs.declared.option.Option.{Option}
use Rattle.std.specs.declared.option.Option.TheVariants.{None, Some}
use Rattle.i_tree.specs.declared.seg.iterator.SegExpTreeIterator.{SegExpTreeIterator}
use Rattle.i_tree.specs.Seg.Copies.{stored_copies}
use Rattle.i_tree.specs.Seg.Members.{values_of}
use Rattle.i_tree.specs.Seg.Walk.{to_come, LosesExpiredAt, Cleans, HasPassed}

-- `U` is the unsigned type of the layout numbers.
module _ {R E V A U : Type 0} where
  -- the values that the walk still yields, in some order
  abbrev pub still_to_come : (V → E) → (E → E → Ordering) → SegExpTreeIterator R E V A U → List V
  still_to_come expiration cmp walk =
      values_of (to_come expiration cmp walk.time walk.asked walk.cursor.left walk.cursor.index walk.tree.now.chunks)

  -- the walk may go on: the latest time of the tree is the walk's, there is a chunk for each node that is left, and the walk
  -- has cleaned up behind it
  pub record CanGo (expiration : V → E) (cmp : E → E → Ordering) (walk : SegExpTreeIterator R E V A U) : Type 0 where
    pub few : length walk.tree.now.chunks ≤ 63
    pub within : walk.cursor.left < 2 ^ length walk.tree.now.chunks
    pub latest : walk.tree.now.latest ≡ Some walk.time
    pub passed : HasPassed expiration cmp walk.time walk.asked walk.cursor.left walk.cursor.index walk.tree.now.chunks

  -- A step of the walk: it yields one of the values that were still to come, or `None` where none was. The tree is the same,
  -- with its latest time, its buckets, and its members as a bag. The nodes that are asked may have lost copies that are not
  -- live; where none came, all copies there are live. The step may be made again, also after `None`.
  pub record GivesNext (expiration : V → E) (cmp : E → E → Ordering) (walk : SegExpTreeIterator R E V A U) (found : Option V) (after : SegExpTreeIterator R E V A U) : Type 0 where
    pub yields : MatchOption found ((still_to_come expiration cmp walk ≡ []) × (still_to_come expiration cmp after ≡ [])) (λ value. IsPermutation (still_to_come expiration cmp walk) (value ∷ still_to_come expiration cmp after))
    pub tree : after.tree.ghost_name ≡ walk.tree.ghost_name
    pub asked : after.asked ≡ walk.asked
    pub time : after.time ≡ walk.time
    pub latest : after.tree.now.latest ≡ walk.tree.now.latest
    pub buckets : after.tree.now.buckets ≡ walk.tree.now.buckets
    pub members : IsPermutation walk.tree.now.members after.tree.now.members
    pub loses : LosesExpiredAt expiration cmp walk.time walk.asked walk.tree.now.chunks after.tree.now.chunks
    pub cleans : found ≡ None → Cleans expiration cmp walk.time walk.asked walk.tree.now.chunks after.tree.now.chunks
    pub copies : stored_copies after.tree.now.chunks ≤ stored_copies walk.tree.now.chunks
    pub can : CanGo expiration cmp after
