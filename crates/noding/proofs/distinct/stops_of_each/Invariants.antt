use Rattle.noding.specs.Distinct.{AreCopied}
use Rattle.noding.proofs.distinct.stops_of_each.Given as goal

-- the edges so far have their stops
abbrev pub invariant-loop-place : goal.invariant-loop-place
invariant-loop-place g l = AreCopied l.distinct.places.items l.place l.stops l.copies.items
