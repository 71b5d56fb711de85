use Rattle.std.proofs.Common.{◌≡◌, refl}
use Rattle.plane.proofs.PairsLemmas.Points.{Gains-one}
use Rattle.plane.proofs.pairs.few.append_if_it_meets.Goals as goal

pub returns-in_ok-push-clause-ok : goal.returns-in_ok-push-clause-ok
returns-in_ok-push-clause-ok g c =
    Gains-one (λ i j. (i ≡ c.args.place) × (j ≡ c.args.other) × g.X.Meets.Meeting c.args.item c.args.point) c.args.out.now.items c.push.new.self.items c.args.place c.args.other
    c.in_ok-push.ensures.items (refl, refl, c.if-meets.ensures) (λ i j (first, second, _). (first, second))
