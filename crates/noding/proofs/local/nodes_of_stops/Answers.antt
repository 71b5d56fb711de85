use Rattle.std.proofs.Common.{◌<◌, length, subst, subst₂, sym, arith}
use Rattle.std.specs.Bool.{MatchBool}
use Rattle.std.specs.List.{All}
use Rattle.noding.specs.Local.{IsMoved}
use Rattle.noding.specs.Stops.{AreKept, LiesOnItsEdge}
use Rattle.noding.proofs.ChainLemmas.Kept.{AreNodeStops-kept, AreNodeStops-on, stops-within}
use Rattle.noding.proofs.ChainLemmas.Zips.{AllZip-length}
use Rattle.noding.proofs.local.nodes_of_stops.Goals as goal

pub returns-then-lie_on_edges : goal.returns-then-lie_on_edges
returns-then-lie_on_edges g c =
    AreNodeStops-on c.args.edges.now c.args.stops.items c.requires.stops (subst (All (LiesOnItsEdge c.args.edges.now)) c.deref.ensures.value c.if-lie_on_edges.ensures)

pub lie_on_edges-requires : goal.lie_on_edges-requires
lie_on_edges-requires g c =
    subst (All (λ stop. stop.place < length c.args.edges.now)) (sym c.deref.ensures.value) (stops-within c.args.edges.now c.args.stops.items c.requires.stops)

pub nodes_of-requires-clause-within : goal.nodes_of-requires-clause-within
nodes_of-requires-clause-within g c =
    subst (All (λ stop. stop.place < length c.args.edges.now)) (sym c.deref-3.ensures.value) (stops-within c.args.edges.now c.args.stops.items c.requires.stops)

pub nodes_of-requires-clause-flags : goal.nodes_of-requires-clause-flags
nodes_of-requires-clause-flags g c =
    let edges = c.args.edges.now in
    let size = AllZip-length (λ edge is_moved. MatchBool is_moved (IsMoved edges edge) (¬ (IsMoved edges edge))) edges c.in_ok-moved.moved.items c.in_ok-moved.ensures in
    omega (arith, size, c.deref-4.ensures.len)

pub returns : goal.returns
returns g c =
    let edges = c.args.edges.now in
    let nodes = c.in_ok-nodes.nodes.items in
    AreNodeStops-kept edges c.args.stops.items c.requires.stops c.in_ok-moved.moved.items c.in_ok-moved.ensures nodes
    (subst₂ (λ moved stops. AreKept edges moved stops nodes) c.deref-4.ensures.value c.deref-3.ensures.value c.in_ok-nodes.ensures)
