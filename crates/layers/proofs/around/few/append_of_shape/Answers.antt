use Rattle.std.proofs.Common.{◌≡◌, subst}
use Rattle.std.proofs.lemmas.List.{take_all}
use Rattle.plane.specs.Pairs.Points.{Gains}
use Rattle.layers.specs.Chains.{LiesAmong, edges_of_chains}
use Rattle.layers.proofs.AroundLemmas.Groups.{Gains-placed}
use Rattle.layers.proofs.around.few.append_of_shape.Goals as goal

pub loop-placed-preserved : goal.loop-placed-preserved
loop-placed-preserved g c =
    Gains-placed c.args.rule c.args.border c.args.group.now c.requires.apart c.loop-placed.placed-index c.placed-item.result c.loop-placed-test.true c.placed-item.is
    c.args.shape (edges_of_chains c.args.chains.now) c.args.pairs.now.items c.loop-placed.pairs.items c.append_if_in.new.pairs.items
    c.loop-placed.invariant c.in_ok-append_if_in.ensures

pub returns : goal.returns
returns g c =
    subst (λ some. Gains (λ i j. (j ≡ c.args.shape) × LiesAmong c.args.rule c.args.border some (edges_of_chains c.args.chains.now) i) c.args.pairs.now.items c.loop-placed.pairs.items)
    (take_all c.loop-placed.placed-index c.args.group.now c.loop-placed-test.false) c.loop-placed.invariant
