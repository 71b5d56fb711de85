use Rattle.std.proofs.Common.{◌≡◌, refl}
use Rattle.plane.proofs.PairsLemmas.Points.{Gains-none, Gains-one}
use Rattle.layers.specs.Around.{LiesIn, halved}
use Rattle.layers.specs.Chains.{edges_of_chains}
use Rattle.layers.proofs.around.few.append_if_in.Goals as goal

pub returns-in_ok-push : goal.returns-in_ok-push
returns-in_ok-push g c =
    Gains-one (λ i j. (i ≡ c.args.placed.place) × (j ≡ c.args.shape) × LiesIn c.args.rule c.args.border (halved c.args.placed.point) (edges_of_chains c.args.chains.now))
    c.args.pairs.now.items c.push.new.self.items c.args.placed.place c.args.shape c.in_ok-push.ensures.items
    (refl, refl, c.lies_in.ensures.0 c.if-lies_in.true)
    (λ i j (first, second, lies). (first, second))

pub returns-else-lies_in : goal.returns-else-lies_in
returns-else-lies_in g c =
    Gains-none (λ i j. (i ≡ c.args.placed.place) × (j ≡ c.args.shape) × LiesIn c.args.rule c.args.border (halved c.args.placed.point) (edges_of_chains c.args.chains.now))
    c.args.pairs.now.items
    (λ i j (first, second, lies). let yes = c.lies_in.ensures.1 lies in let no = c.if-lies_in.false in cc (yes, no))
