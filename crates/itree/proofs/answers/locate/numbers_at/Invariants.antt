use Rattle.std.proofs.Common.{◌≡◌, map, take}
use Rattle.itree.specs.Told.{number_at}
use Rattle.itree.proofs.answers.locate.numbers_at.Given as goal

-- the numbers at the places so far are found
abbrev pub invariant-loop-place : goal.invariant-loop-place
invariant-loop-place g l = l.found.items ≡ map (number_at l.numbers) (take l.place-index l.places)
