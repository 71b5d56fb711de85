use Rattle.std.proofs.Common.{◌<◌, ℕ, Bool, List, length, subst, subst₂, sym, arith}
use Rattle.std.specs.Bool.{MatchBool}
use Rattle.std.specs.List.{All}
use Rattle.plane.specs.Gains.{GainsThese, IsOfSome}
use Rattle.noding.specs.Columns.Ends.{IsStopHeldAt}
use Rattle.noding.specs.Local.{IsMoved}
use Rattle.noding.specs.Stops.{AreKept}
use Rattle.noding.specs.declared.stops.Stop.{Stop}
use Rattle.noding.proofs.ChainLemmas.Zips.{AllZip-length}
use Rattle.noding.proofs.ColumnLemmas.Nodes.{AreNodeStops-rounds, rounds-within}
use Rattle.noding.proofs.columns.rounds.nodes_in_rounds.Goals as goal

pub nodes_of-requires-clause-within : goal.nodes_of-requires-clause-within
nodes_of-requires-clause-within g c =
    let edges = c.args.edges.now in
    let ends = c.args.ends.now in
    let spread = c.in-Some.field-0 in
    let uprights = c.in_ok-on_uprights.on_uprights.items in
    let first = c.push_stops_on.new.stops.items in
    let second = c.push_stops_on-2.new.stops.items in
    let found = c.push_stops_of_crossings.new.stops.items in
    let gains_uprights = subst (λ (pairs : List (ℕ × ℕ)). GainsThese (IsOfSome (IsStopHeldAt edges ends) pairs) first second) c.deref.ensures.value c.in_ok-push_stops_on-2.ensures in
    subst (All (λ stop. stop.place < length edges)) (sym c.deref-2.ensures.value)
    (rounds-within edges c.args.crossings.now c.requires.crossed ends c.requires.ends c.args.on.now uprights c.requires.on c.in_ok-on_uprights.ensures.ok
    spread.flags.items (rw c.in-Some.is at c.in_ok-flags.ensures.moved) spread.stops.items (rw c.in-Some.is at c.in_ok-flags.ensures.stops)
    first second found c.sort_stops.new.stops.items c.in_ok-push_stops_on.ensures gains_uprights c.in_ok-push_stops_of_crossings.ensures c.in_ok-sort_stops.ensures.same)

pub nodes_of-requires-clause-flags : goal.nodes_of-requires-clause-flags
nodes_of-requires-clause-flags g c =
    let edges = c.args.edges.now in
    let size = AllZip-length (λ edge is_moved. MatchBool is_moved (IsMoved edges edge) (¬ (IsMoved edges edge))) edges c.in-Some.field-0.flags.items (rw c.in-Some.is at c.in_ok-flags.ensures.moved) in
    omega (arith, size, c.deref-3.ensures.len)

pub returns-clause-ok : goal.returns-clause-ok
returns-clause-ok g c =
    let edges = c.args.edges.now in
    let ends = c.args.ends.now in
    let spread = c.in-Some.field-0 in
    let uprights = c.in_ok-on_uprights.on_uprights.items in
    let first = c.push_stops_on.new.stops.items in
    let second = c.push_stops_on-2.new.stops.items in
    let found = c.push_stops_of_crossings.new.stops.items in
    let gains_uprights = subst (λ (pairs : List (ℕ × ℕ)). GainsThese (IsOfSome (IsStopHeldAt edges ends) pairs) first second) c.deref.ensures.value c.in_ok-push_stops_on-2.ensures in
    let nodes = c.in_ok-nodes.nodes.items in
    AreNodeStops-rounds edges c.args.crossings.now c.requires.crossed ends c.requires.ends c.args.on.now uprights c.requires.on c.in_ok-on_uprights.ensures.ok
    spread.flags.items (rw c.in-Some.is at c.in_ok-flags.ensures.moved) spread.stops.items (rw c.in-Some.is at c.in_ok-flags.ensures.stops)
    first second found c.sort_stops.new.stops.items c.in_ok-push_stops_on.ensures gains_uprights c.in_ok-push_stops_of_crossings.ensures c.in_ok-sort_stops.ensures.same nodes
    (subst₂ (λ (flags : List Bool) (stops : List Stop). AreKept edges flags stops nodes) c.deref-3.ensures.value c.deref-2.ensures.value c.in_ok-nodes.ensures)
