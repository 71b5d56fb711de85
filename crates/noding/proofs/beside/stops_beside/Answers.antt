use Rattle.std.proofs.Common.{◌++◌, [], List, ℕ, get_or, subst, sym}
use Rattle.std.proofs.lemmas.List.{append-nil, take_all, take_more}
use Rattle.plane.specs.Gains.{GainsThese, IsOfSome}
use Rattle.plane.proofs.GainsLemmas.{gains-more, gains-none, none_of}
use Rattle.noding.specs.Beside.{IsStopBeside}
use Rattle.noding.specs.declared.stops.Stop.{Stop}
use Rattle.noding.proofs.beside.stops_beside.Goals as goal

pub loop-pair-init : goal.loop-pair-init
loop-pair-init g c =
    let stops = c.args.stops.now in
    subst (λ (beside : List Stop). GainsThese (IsOfSome (IsStopBeside c.args.edges.now stops) []) stops (stops ++ beside)) (sym c.new-beside.ensures.items)
    (subst (GainsThese (IsOfSome (IsStopBeside c.args.edges.now stops) []) stops) (sym (append-nil stops)) (gains-none _ stops (none_of (IsStopBeside c.args.edges.now stops))))

pub loop-pair-preserved : goal.loop-pair-preserved
loop-pair-preserved g c =
    let edges = c.args.edges.now in
    let stops = c.args.stops.now in
    let pairs = c.args.pairs.now in
    let k = c.loop-pair.pair-index in
    let after = stops ++ c.push_stops_of_two.new.beside.items in
    subst (λ (done : List (ℕ × ℕ)). GainsThese (IsOfSome (IsStopBeside edges stops) done) stops after) (sym (take_more pairs k (0, 0) c.loop-pair-test.true))
    (gains-more (IsStopBeside edges stops) _ (get_or pairs k (0, 0)) stops (stops ++ c.loop-pair.beside.items) after c.loop-pair.invariant c.in_ok-push_stops_of_two.ensures)

pub returns : goal.returns
returns g c =
    let stops = c.args.stops.now in
    subst (λ (done : List (ℕ × ℕ)). GainsThese (IsOfSome (IsStopBeside c.args.edges.now stops) done) stops (stops ++ c.loop-pair.beside.items)) (take_all c.loop-pair.pair-index c.args.pairs.now c.loop-pair-test.false) c.loop-pair.invariant
