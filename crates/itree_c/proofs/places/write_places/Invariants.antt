use Rattle.std.proofs.Common.{◌≡◌, map, take}
use Rattle.itree_c.specs.Places.{place_of}
use Rattle.itree_c.proofs.places.write_places.Given as goal

-- the places up to this one are written
abbrev pub invariant-loop-place : goal.invariant-loop-place
invariant-loop-place l = take l.place l.places ≡ map place_of (take l.place l.found)
