use Rattle.std.proofs.Common.{drop}
use Rattle.std.specs.List.{AllPairs}
use Rattle.std.specs.Prelude.{◌↔◌}
use Rattle.tiles.specs.Join.{AreBeside}
use Rattle.tiles.proofs.joined.checks.are_all_beside.Given as goal

-- those so far are beside all others: the rest tells
abbrev pub invariant-loop-at : goal.invariant-loop-at
invariant-loop-at l = AllPairs AreBeside l.windows ↔ AllPairs AreBeside (drop l.at l.windows)
