-- What the calls of a tree of segments do, each as one change. `done` is what the call answered.
use Rattle.std.specs.Prelude.{◌≡◌, ◌+◌, ◌≤◌, [], length, vec_len, vec_capacity, IsOk, IfErr, OnOk, OnErr, IsPermutation}
use Rattle.std.specs.declared.cmp.Ordering.{Ordering}
use Rattle.std.specs.declared.option.Option.TheVariants.{None, Some}
use Rattle.std.specs.declared.result.Result.{Result}
use Rattle.std.specs.declared.vec.Vec.{Vec}
use Rattle.i_tree.specs.declared.Refusal.{Refusal}
use Rattle.i_tree.specs.declared.Refusal.TheVariants.{OutOfMemory}
use Rattle.i_tree.specs.Seg.Buckets.{Interval, Filters}
use Rattle.i_tree.specs.Seg.Copies.{stored_copies, PlacesCopies}
use Rattle.i_tree.specs.Seg.Members.{Member, Appends, Joins, answer, live_members}
use Rattle.i_tree.specs.Seg.Nodes.{canonical_nodes, meeting_set}
use Rattle.i_tree.specs.Seg.Segments.{Contents}
use Rattle.i_tree.specs.Seg.Walk.{LosesExpiredAt, Cleans}

-- `expiration` gives a value's expiration, and `cmp` compares expirations.
module _ {E V : Type 0} (expiration : V → E) (cmp : E → E → Ordering) where
  -- An insertion: the segment joins where it is live at the latest time, and a copy of it at each of its canonical nodes, which
  -- are at most eight. A refusal is for want of memory, and changes nothing at all.
  pub record Inserts (segment : Member V) (done : Result (Unit {0}) Refusal) (old new : Contents E V) : Type 0 where
    pub ok : OnOk done (Joins expiration cmp old.latest segment old.members new.members)
    pub err : OnErr done (new ≡ old)
    pub refused : IfErr done (λ cause. cause ≡ OutOfMemory)
    pub latest : new.latest ≡ old.latest
    pub buckets : new.buckets ≡ old.buckets
    pub filters : Filters old.buckets
    pub placed : OnOk done (PlacesCopies (canonical_nodes segment.interval) segment.value old.chunks new.chunks)
    pub few : stored_copies new.chunks ≤ stored_copies old.chunks + 8

  -- A query of an interval: its answer is appended to a list, the time is the latest one then, and the live members stay. A
  -- refusal is for want of memory for the list alone, which stays as it was. At the nodes that the interval meets all copies are
  -- live then, and are the live ones of before; a refused query has taken copies there that are not live, and no others. No
  -- copy joins.
  pub record Answers {B : Type 0} (time : E) (asked : Interval) (done : Result (Unit {0}) Refusal) (old new : Contents E V) (before after : Vec V B) : Type 0 where
    pub ok : OnOk done (Appends (answer expiration cmp time asked old.members) before.items after.items)
    pub err : OnErr done (after.items ≡ before.items)
    pub refused : IfErr done (λ cause. cause ≡ OutOfMemory)
    pub with_room : vec_len before + length (answer expiration cmp time asked old.members) ≤ vec_capacity before → IsOk done
    pub members : IsPermutation (live_members expiration cmp time old.members) new.members
    pub latest : new.latest ≡ Some time
    pub buckets : new.buckets ≡ old.buckets
    pub filters : Filters old.buckets
    pub cleans : OnOk done (Cleans expiration cmp time (meeting_set asked) old.chunks new.chunks)
    pub loses : LosesExpiredAt expiration cmp time (meeting_set asked) old.chunks new.chunks
    pub fewer : stored_copies new.chunks ≤ stored_copies old.chunks

-- A clearing: no member, no copy, and no latest time.
pub record Clears {E V : Type 0} (old new : Contents E V) : Type 0 where
  pub empty : new.members ≡ []
  pub latest : new.latest ≡ None
  pub buckets : new.buckets ≡ old.buckets
  pub copies : stored_copies new.chunks ≡ 0
