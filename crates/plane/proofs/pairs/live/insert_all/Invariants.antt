use Rattle.std.proofs.Common.{◌≡◌, None, take}
use Rattle.std.specs.List.Sorted.{IsPermutation}
use Rattle.plane.specs.Pairs.Live.{members_in}
use Rattle.plane.proofs.pairs.live.insert_all.Given as goal

-- the items so far are in the tree, of which no query came
abbrev pub invariant-loop-placed : goal.invariant-loop-placed
invariant-loop-placed g l = (l.tree.buckets ≡ l.fn.tree.buckets) × (l.tree.latest ≡ None)
    × IsPermutation (members_in g.T.Boxed.bounds l.strips l.strip l.fn.tree.buckets (take l.placed-index l.items)) l.tree.members
