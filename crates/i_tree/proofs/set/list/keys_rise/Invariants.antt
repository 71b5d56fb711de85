use Rattle.std.proofs.Common.{◌≡◌, ◌<◌, ◌+◌, ℕ, get_or}
use Rattle.std.specs.declared.cmp.Ordering.TheVariants.{Less}
use Rattle.i_tree.proofs.set.list.keys_rise.Given as goal

-- The keys rise from each value to the next, up to the one that is read.
abbrev pub invariant-loop-next : goal.invariant-loop-next
invariant-loop-next g l =
    (k next : ℕ) (d : g.row.V.Denot) → next ≡ k + 1 → next < l.next → g.K.Ord.cmp (g.V.KeyValue.key_of (get_or l.values k d)) (g.V.KeyValue.key_of (get_or l.values next d)) ≡ Less
