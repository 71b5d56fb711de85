use Rattle.std.proofs.Common.{◌<◌, ℕ, List, length, subst, sym}
use Rattle.std.specs.List.{All}
use Rattle.plane.specs.Gains.{GainsThese, IsOfSome}
use Rattle.noding.specs.Columns.Ends.{IsStopHeldAt}
use Rattle.noding.proofs.ColumnLemmas.Ends.{AreNodeStops-ends}
use Rattle.noding.proofs.columns.ends.nodes_at_ends.Goals as goal

pub push_stops_on-requires-2 : goal.push_stops_on-requires-2
push_stops_on-requires-2 g c =
    subst (All (λ pair. (pair.0 < length c.args.edges.now) × (pair.1 < length c.args.ends.now))) (sym c.deref.ensures.value) c.in_ok-on_uprights.ensures.within

pub returns-clause-ok : goal.returns-clause-ok
returns-clause-ok g c =
    let edges = c.args.edges.now in
    let ends = c.args.ends.now in
    let now = c.push_stops_on.new.stops.items in
    let found = c.push_stops_on-2.new.stops.items in
    let uprights = c.in_ok-on_uprights.on_uprights.items in
    let second = subst (λ (pairs : List (ℕ × ℕ)). GainsThese (IsOfSome (IsStopHeldAt edges ends) pairs) now found) c.deref.ensures.value c.in_ok-push_stops_on-2.ensures in
    AreNodeStops-ends edges c.args.crossings.now c.requires.crossed c.requires.at_ends ends c.requires.ends c.args.on.now uprights c.requires.on c.in_ok-on_uprights.ensures.ok
    c.new-stops.result.items now found c.sort_stops.new.stops.items c.new-stops.ensures.items c.in_ok-push_stops_on.ensures second c.in_ok-sort_stops.ensures.same c.in_ok-sort_stops.ensures.in_order
