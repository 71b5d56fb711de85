use Rattle.std.proofs.Common.{◌∙◌, ℕ, get_or, ap, sym, []}
use Rattle.plane.specs.Gains.{IsOfSome}
use Rattle.plane.specs.Meet.Columns.{IsPairAbout}
use Rattle.plane.proofs.GainsLemmas.{gains-all, gains-next, gains-none, gains-only, none_of}
use Rattle.plane.proofs.meet.by_columns.append_met.Goals as goal

pub loop-pair-init : goal.loop-pair-init
loop-pair-init g c = gains-none (IsOfSome (IsPairAbout c.args.count) []) c.args.pairs.now.items (none_of (IsPairAbout c.args.count))

pub loop-pair-preserved : goal.loop-pair-preserved
loop-pair-preserved g c =
    let met = c.args.met.now in
    let k = c.loop-pair.pair-index in
    let pair = get_or met k (0, 0) in
    let is = ap (λ (place : ℕ). (pair.0, place)) c.place_about.ensures in
    gains-next (IsPairAbout c.args.count) met k (0, 0) c.args.pairs.now.items c.loop-pair.pairs.items c.push.new.self.items c.loop-pair-test.true c.loop-pair.invariant
    (gains-only (IsPairAbout c.args.count pair) c.loop-pair.pairs.items c.push.new.self.items (pair.0, c.place_about.result) is (λ y same. same ∙ sym is) c.in_ok-push.ensures.items)

pub returns : goal.returns
returns g c = gains-all (IsPairAbout c.args.count) c.args.met.now c.loop-pair.pair-index c.args.pairs.now.items c.loop-pair.pairs.items c.loop-pair-test.false c.loop-pair.invariant
