use Rattle.std.proofs.Common.{◌≡◌, map, take}
use Rattle.monotone_chains.specs.Stretches.{chord}
use Rattle.monotone_chains.specs.Stretches.Cut.{way}
use Rattle.monotone_chains.proofs.stretches.chords.chords_of.Given as goal

-- the chords of the parts so far
abbrev pub invariant-loop-part : goal.invariant-loop-part
invariant-loop-part g l = l.chords.items ≡ map chord (map way (take l.part-index l.parts))
