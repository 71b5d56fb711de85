use Rattle.std.proofs.Common.{List, length, subst, sym}
use Rattle.std.specs.List.{AllPairs}
use Rattle.plane.specs.declared.edge.Edge.{Edge}
use Rattle.noding.specs.Distinct.{AreCopied}
use Rattle.noding.specs.Stops.{AreStops, IsBefore}
use Rattle.noding.specs.declared.stops.Stop.{Stop}
use Rattle.noding.proofs.ChainLemmas.Copies.{AreStops-copied}
use Rattle.noding.proofs.ChainLemmas.Distinct.{likes-within}
use Rattle.noding.proofs.stops.stops_in_order.Goals as goal

pub stops_of_each-requires-clause-within : goal.stops_of_each-requires-clause-within
stops_of_each-requires-clause-within g c =
    let distinct = c.in-Some.distinct in
    likes-within c.args.edges.now distinct.edges.items distinct.places.items (rw c.in-Some.is at c.in_ok-distinct.ensures)

pub stops_of_each-requires-clause-in_order : goal.stops_of_each-requires-clause-in_order
stops_of_each-requires-clause-in_order g c = subst (AllPairs IsBefore) (sym c.deref-2.ensures.value) c.in_ok-stops.ensures.ok.in_order

pub returns-clause-ok : goal.returns-clause-ok
returns-clause-ok g c =
    let distinct = c.in-Some.distinct in
    let stops = c.in_ok-stops.stops.items in
    let copies = c.in_ok-copies.copies.items in
    let told = subst (λ (edges : List Edge). AreStops edges stops) c.deref.ensures.value c.in_ok-stops.ensures.ok in
    let copied = subst (λ (list : List Stop). AreCopied distinct.places.items (length distinct.places.items) list copies) c.deref-2.ensures.value c.in_ok-copies.ensures in
    AreStops-copied c.args.edges.now distinct.edges.items distinct.places.items (rw c.in-Some.is at c.in_ok-distinct.ensures) stops copies copied told
