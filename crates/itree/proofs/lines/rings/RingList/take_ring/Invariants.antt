use Rattle.std.proofs.Common.{◌≡◌, ◌++◌, List}
use Rattle.std.specs.Slice.Iter.{chunks_rest, chunks_size}
use Rattle.plane.specs.declared.point.Point.{Point}
use Rattle.itree.proofs.Ringed.{Taken}
use Rattle.itree.proofs.lines.rings.RingList.take_ring.Given as goal

-- the words so far say the points that are taken
abbrev pub invariant-loop-pair : goal.invariant-loop-pair
invariant-loop-pair g l =
    (chunks_size l.pair-iterator ≡ 2)
    × ((ring : List Point) × (l.self.points.items ≡ l.fn.self.points.items ++ ring) × Taken l.words (chunks_rest l.pair-iterator) ring)
    × (l.self.ends.items ≡ l.fn.self.ends.items)
