use Rattle.std.proofs.Common.{◌≡◌, take}
use Rattle.std.specs.List.{All, flat_map}
use Rattle.overlay.specs.Contours.Rings.{ring_edges}
use Rattle.overlay.specs.Grouping.{IsHoleOf, IsTold, firsts_of}
use Rattle.overlay.proofs.grouping.below.walk_rings.Given as goal

-- what is found below the holes is the highest of the rings so far
abbrev pub invariant-loop-ring : goal.invariant-loop-ring
invariant-loop-ring g l = record {
  same : firsts_of l.holes ≡ firsts_of l.fn.holes;
  of : All (IsHoleOf g.rings) l.holes;
  told : All (IsTold (flat_map ring_edges (take l.ring g.rings))) l.holes;
}

-- the same rings
abbrev pub ghost-walk : goal.ghost-walk
ghost-walk g a = g.rings
