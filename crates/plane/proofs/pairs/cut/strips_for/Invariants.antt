use Rattle.std.proofs.Common.{◌≡◌, ◌*◌, ◌≤◌, take}
use Rattle.std.specs.List.{All, sum_by}
use Rattle.plane.proofs.PairsLemmas.Few.{IsBetween, height_of}
use Rattle.plane.proofs.pairs.cut.strips_for.Given as goal

-- the items so far lie between the base and the top, and their heights are summed up
abbrev pub invariant-loop-item : goal.invariant-loop-item
invariant-loop-item g l = record {
  between : All (λ item. IsBetween l.base l.top (g.T.Boxed.bounds item)) (take l.item-index l.items);
  heights : l.heights ≡ sum_by (λ item. height_of (g.T.Boxed.bounds item)) (take l.item-index l.items);
  fits : l.heights ≤ l.item-index * 4294967296;
}
