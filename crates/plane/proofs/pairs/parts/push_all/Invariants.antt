use Rattle.std.proofs.Common.{◌≡◌, ◌<◌, length, take}
use Rattle.plane.specs.Pairs.Parts.{Lists}
use Rattle.plane.specs.Pairs.Strips.{reached}
use Rattle.plane.proofs.pairs.parts.push_all.Given as goal

-- the parts of the items so far, as many as the strips that these reach
abbrev pub invariant-loop-place : goal.invariant-loop-place
invariant-loop-place g l = record {
  lists : Lists g.T.Boxed.bounds l.fn.strips l.items (λ other _. other < l.place) l.parts.items;
  count : length l.parts.items ≡ reached g.T.Boxed.bounds l.fn.strips (take l.place l.items);
}
