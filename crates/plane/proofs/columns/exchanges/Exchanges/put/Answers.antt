use Rattle.std.proofs.lemmas.List.Sorted.{IsPermutation-map}
use Rattle.std.specs.declared.cmp.Reverse.{Reverse}
use Rattle.plane.specs.declared.columns.exchanges.Exchange.{Exchange}
use Rattle.plane.proofs.columns.exchanges.Exchanges.put.Goals as goal

pub returns : goal.returns
returns g c = rw (← c.self.view_is) (IsPermutation-map (λ (item : Reverse Exchange). item.0) _ _ c.in_ok-push.ensures.permutation)
