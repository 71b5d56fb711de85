use Rattle.std.proofs.Common.{◌≡◌, refl}
use Rattle.plane.specs.Pairs.Pairs.{PairAt}
use Rattle.plane.proofs.PairsLemmas.Points.{Gains-one}
use Rattle.plane.proofs.pairs.few.append_if_they_meet.Goals as goal

pub returns-in_ok-push-clause-ok : goal.returns-in_ok-push-clause-ok
returns-in_ok-push-clause-ok g c =
    Gains-one (λ i j. (i ≡ c.args.first) × (j ≡ c.args.second) × PairAt g.T.Meets.Meeting c.args.items.now i j) c.args.out.now.items c.push.new.self.items c.args.first c.args.second
    c.in_ok-push.ensures.items (refl, refl, c.if-they_meet.ensures) (λ i j (first, second, _). (first, second))
