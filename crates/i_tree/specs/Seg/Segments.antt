-- What contracts see of a tree of segments.
use Rattle.std.specs.Prelude.{ℕ, List}
use Rattle.std.specs.declared.option.Option.{Option}
use Rattle.i_tree.specs.Seg.Buckets.{Buckets}
use Rattle.i_tree.specs.Seg.Members.{Member}

-- the range and its buckets, the latest time, the members as a bag, and the copies at each node
pub record Contents (E V : Type 0) : Type 0 where
  pub buckets : Buckets
  pub latest : Option E
  pub members : List (Member V)
  pub chunks : List (List (ℕ × V))
