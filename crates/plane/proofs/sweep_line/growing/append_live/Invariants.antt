use Rattle.std.proofs.Common.{◌+◌, ◌≤◌, length}
use Rattle.i_tree.specs.Rb.Shape.{entries}
use Rattle.i_tree.specs.Root.Live.{is_live}
use Rattle.plane.proofs.SweepLineLemmas.Growing.{HasWalked}
use Rattle.plane.proofs.sweep_line.growing.append_live.Given as goal

-- the handle is that of the next entry, the live ones of the pairs so far stand in the list, and its room is no less
abbrev pub invariant-loop : goal.invariant-loop
invariant-loop g l =
    HasWalked (λ pair. is_live g.K.ExpiredVal.expiration g.E.Ord.cmp l.time pair.0) (entries l.many.shape) l.counter l.here l.few.pairs
    × (length l.fn.few.pairs + l.fn.few.spare ≤ length l.few.pairs + l.few.spare)
