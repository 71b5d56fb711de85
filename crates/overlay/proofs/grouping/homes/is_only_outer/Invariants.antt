use Rattle.std.proofs.Common.{◌≡◌, ◌<◌, ℕ, true}
use Rattle.overlay.specs.Grouping.{is_outer}
use Rattle.overlay.proofs.grouping.homes.is_only_outer.Given as goal

-- none of the rings so far is another one
abbrev pub invariant-loop-ring : goal.invariant-loop-ring
invariant-loop-ring l = (ring : ℕ) → ring < l.ring → is_outer l.are_outer ring ≡ true → ring ≡ l.outer
