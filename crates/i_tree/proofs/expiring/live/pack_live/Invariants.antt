use Rattle.std.proofs.Common.{take}
use Rattle.std.proofs.lemmas.List.Filters.{FiltersInPlace}
use Rattle.i_tree.specs.Expiring.Live.{NoneExpiresBefore}
use Rattle.i_tree.specs.Root.Live.{is_live}
use Rattle.i_tree.proofs.expiring.live.pack_live.Given as goal

-- the first pairs are the live ones of those so far, none of which expires before the bound, and the others are as they were
abbrev pub invariant-loop-place : goal.invariant-loop-place
invariant-loop-place g l = record {
  packed : FiltersInPlace (λ pair. is_live g.X.Expires.expiration g.E.Ord.cmp l.time pair.0) l.fn.pairs l.pairs l.count l.place;
  late : NoneExpiresBefore g.X.Expires.expiration g.E.Ord.cmp l.earliest (take l.count l.pairs);
}
