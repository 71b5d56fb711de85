use Rattle.std.proofs.Common.{get_or, refl, []}
use Rattle.noding.specs.Columns.Uprights.{IsPairAbout}
use Rattle.plane.specs.Gains.{IsOfSome}
use Rattle.plane.proofs.GainsLemmas.{gains-all, gains-next, gains-none, gains-only, none_of}
use Rattle.noding.proofs.columns.crossings.append_met.Goals as goal

pub loop-pair-init : goal.loop-pair-init
loop-pair-init g c = gains-none (IsOfSome (IsPairAbout c.args.places.now) []) c.args.pairs.now.items (none_of (IsPairAbout c.args.places.now))

pub loop-pair-preserved : goal.loop-pair-preserved
loop-pair-preserved g c =
    let places = c.args.places.now in
    let met = c.args.met.now in
    let k = c.loop-pair.pair-index in
    let pair = get_or met k (0, 0) in
    gains-next (IsPairAbout places) met k (0, 0) c.args.pairs.now.items c.loop-pair.pairs.items c.push.new.self.items c.loop-pair-test.true c.loop-pair.invariant
    (gains-only (IsPairAbout places pair) c.loop-pair.pairs.items c.push.new.self.items (pair.0, get_or places pair.1 0) refl (λ y is. is) c.in_ok-push.ensures.items)

pub returns : goal.returns
returns g c = gains-all (IsPairAbout c.args.places.now) c.args.met.now c.loop-pair.pair-index c.args.pairs.now.items c.loop-pair.pairs.items c.loop-pair-test.false c.loop-pair.invariant
