use Rattle.std.proofs.Common.{◌⊎◌, List, [], subst}
use Rattle.plane.specs.Gains.{GainsThese, IsOfSome}
use Rattle.noding.specs.Stops.{IsStopCrossed, IsStopOfPair}
use Rattle.noding.specs.declared.stops.Stop.{Stop}
use Rattle.noding.proofs.ChainLemmas.Crossings.{each-crossed, within-crossed}
use Rattle.plane.proofs.GainsLemmas.{gained-all, gains-join}
use Rattle.noding.proofs.ChainLemmas.Stops.{AreStops-sorted}
use Rattle.noding.proofs.stops.stops_of_pairs.Goals as goal

pub push_stops_at_crossings-requires-clause-each : goal.push_stops_at_crossings-requires-clause-each
push_stops_at_crossings-requires-clause-each g c = each-crossed c.args.edges.now c.args.pairs.now c.args.crossings.now c.requires.crossed

pub push_stops_at_crossings-requires-clause-within : goal.push_stops_at_crossings-requires-clause-within
push_stops_at_crossings-requires-clause-within g c = within-crossed c.args.edges.now c.args.pairs.now c.args.crossings.now c.requires.crossed

pub are_asked_by_pairs-requires : goal.are_asked_by_pairs-requires
are_asked_by_pairs-requires g c = within-crossed c.args.edges.now c.args.pairs.now c.args.crossings.now c.requires.crossed

pub stops_by_pairs-requires-clause-ends : goal.stops_by_pairs-requires-clause-ends
stops_by_pairs-requires-clause-ends g c =
    let edges = c.args.edges.now in
    let pairs = c.args.pairs.now in
    let ended = c.push_stops_at_ends.new.stops.items in
    gained-all (IsOfSome (IsStopOfPair edges) pairs) ended
    (subst (λ (before : List Stop). GainsThese (IsOfSome (IsStopOfPair edges) pairs) before ended) c.new-stops.ensures.items c.in_ok-push_stops_at_ends.ensures)

pub returns-clause-ok : goal.returns-clause-ok
returns-clause-ok g c =
    let edges = c.args.edges.now in
    let pairs = c.args.pairs.now in
    let ended = c.push_stops_at_ends.new.stops.items in
    let all = c.push_stops_at_crossings.new.stops.items in
    let at_ends =
    subst (λ (before : List Stop). GainsThese (IsOfSome (IsStopOfPair edges) pairs) before ended) c.new-stops.ensures.items
    c.in_ok-push_stops_at_ends.ensures in
    let at_crossings = c.in_ok-push_stops_at_crossings.ensures.ok pairs c.requires.close c.requires.crossed in
    let told = gains-join (IsOfSome (IsStopOfPair edges) pairs) (IsStopCrossed edges pairs) [] ended all at_ends at_crossings in
    AreStops-sorted edges pairs c.requires.close all
    (gained-all (λ stop. IsOfSome (IsStopOfPair edges) pairs stop ⊎ IsStopCrossed edges pairs stop) all told)
    c.sort_stops.new.stops.items c.in_ok-sort_stops.ensures.same c.in_ok-sort_stops.ensures.in_order
