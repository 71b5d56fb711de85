use Rattle.std.proofs.Common.{◌≡◌, ◌*◌, ◌≤◌, ◌^◌, take}
use Rattle.std.specs.List.{sum_by}
use Rattle.tiles.specs.Whole.{area}
use Rattle.tiles.proofs.whole.area_of_all.Given as goal

-- the sum of those so far, which have less than 2 ^ 64 each
abbrev pub invariant-loop-window : goal.invariant-loop-window
invariant-loop-window l = record {
  is : l.sum ≡ sum_by area (take l.window-index l.windows);
  less : l.sum ≤ l.window-index * 2 ^ 64;
}
