use Rattle.std.proofs.Common.{ap, arith}
use Rattle.i_tree.proofs.RbLemmas.Shape.SubtreeHandles.{live_from_cut}
use Rattle.i_tree.specs.Rb.Shape.{entries}
use Rattle.plane.specs.Columns.Status.{Line}
use Rattle.plane.proofs.ColumnLemmas.StatusInsertion.{handles_joined, joins_line}
use Rattle.plane.proofs.columns.status.ExchangeStatus.insert.Goals as goal

pub edges_beside-requires : goal.edges_beside-requires
edges_beside-requires g c =
    let end = c.descend-end.ensures.end in
    live_from_cut c.in_ok-handle.handle c.put.new.tree.shape end.front c.args.beginning end.back (c.in_ok-handle.ensures.joins end.front end.back end.between)

pub invariant_of-self-2 : goal.invariant_of-self-2
invariant_of-self-2 g c =
    let end = c.descend-end.ensures.end in
    let places = ap (λ (line : Line). line.places) c.self.view_is in
    handles_joined c.args.beginning c.self.inside.tree.shape c.descend-end.result end c.args.self.now.edges (ap (λ (line : Line). line.edges) c.self.view_is) c.in_ok-handle.handle (entries c.put.new.tree.shape)
    (c.in_ok-handle.ensures.joins end.front end.back end.between) c.self.inside.handles.items c.self.invariant (omega (arith, places, c.requires.place)) c.requires.absent

pub returns-clause-joins : goal.returns-clause-joins
returns-clause-joins g c =
    let end = c.descend-end.ensures.end in
    let joins = c.in_ok-handle.ensures.joins end.front end.back end.between in
    joins_line c.args.beginning c.self.inside.tree.shape c.descend-end.result end c.args.self.now.edges (ap (λ (line : Line). line.edges) c.self.view_is) c.in_ok-handle.handle (entries c.put.new.tree.shape)
    joins c.edges_beside.result (c.edges_beside.ensures.beside end.front c.args.beginning end.back joins)
