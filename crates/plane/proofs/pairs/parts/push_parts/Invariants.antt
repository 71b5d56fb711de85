use Rattle.std.proofs.Common.{◌≡◌, ◌+◌, ◌-◌, length, take}
use Rattle.plane.specs.Pairs.Parts.{Lists}
use Rattle.plane.specs.Pairs.Strips.{reached}
use Rattle.plane.proofs.PairsLemmas.Parts.{IsUpto}
use Rattle.plane.proofs.pairs.parts.push_parts.Given as goal

-- the parts so far, one for each strip from the first on
abbrev pub invariant-loop-strip : goal.invariant-loop-strip
invariant-loop-strip g l = record {
  lists : Lists g.T.Boxed.bounds l.fn.strips l.fn.items (IsUpto l.fn.place l.strip) l.parts.items;
  count : length l.parts.items ≡ reached g.T.Boxed.bounds l.fn.strips (take l.fn.place l.fn.items) + (l.strip - l.initial.strip);
}
