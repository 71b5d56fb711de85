use Rattle.std.proofs.Common.{ap, ◌∙◌, arith}
use Rattle.i_tree.proofs.RbLemmas.Shape.Contexts.{occurs_among-entries}
use Rattle.i_tree.proofs.RbLemmas.Shape.SubtreeHandles.{live_from_cut}
use Rattle.i_tree.specs.Rb.Shape.{entries}
use Rattle.plane.specs.Columns.Status.{Line}
use Rattle.plane.proofs.ColumnLemmas.StatusEntries.{AreOnce-entries, read_is_among}
use Rattle.plane.proofs.ColumnLemmas.StatusRemoval.{found_at, handles_left, handles_moved, has_moved, leaves_line, moved_within, place_within}
use Rattle.plane.proofs.columns.status.ExchangeStatus.remove.Goals as goal

pub index-handle-requires : goal.index-handle-requires
index-handle-requires g c =
    let within = place_within (entries c.self.inside.tree.shape) c.self.inside.handles.items c.self.invariant c.args.self.now.edges (ap (λ (line : Line). line.edges) c.self.view_is) c.args.place c.requires in
    omega (arith, within, c.self.inside.handles.ok.0)

pub edges_beside-told-requires : goal.edges_beside-told-requires
edges_beside-told-requires g c =
    let tree = c.self.inside.tree.shape in
    let found = found_at (entries tree) c.self.inside.handles.items c.self.invariant c.args.self.now.edges (ap (λ (line : Line). line.edges) c.self.view_is) c.args.place c.requires c.index-handle.result.now c.index-handle.ensures in
    live_from_cut c.index-handle.result.now tree found.front found.active found.back found.cut

pub remove-requires : goal.remove-requires
remove-requires g c =
    let tree = c.self.inside.tree.shape in
    let found = found_at (entries tree) c.self.inside.handles.items c.self.invariant c.args.self.now.edges (ap (λ (line : Line). line.edges) c.self.view_is) c.args.place c.requires c.index-handle.result.now c.index-handle.ensures in
    live_from_cut c.index-handle.result.now tree found.front found.active found.back found.cut

pub index_mut-requires : goal.index_mut-requires
index_mut-requires g c =
    let within = place_within (entries c.self.inside.tree.shape) c.self.inside.handles.items c.self.invariant c.args.self.now.edges (ap (λ (line : Line). line.edges) c.self.view_is) c.args.place c.requires in
    omega (arith, within, c.self.inside.handles.ok.0)

pub index_mut-requires-then-has : goal.index_mut-requires-then-has
index_mut-requires-then-has g c =
    let tree = c.self.inside.tree.shape in
    let new = c.remove.new.self.shape in
    let handles = c.self.inside.handles.items in
    let handle = c.index-handle.result.now in
    let once = AreOnce-entries tree c.edges_beside-told.ensures.core.handles in
    let found = found_at (entries tree) handles c.self.invariant c.args.self.now.edges (ap (λ (line : Line). line.edges) c.self.view_is) c.args.place c.requires handle c.index-handle.ensures in
    let loses = (c.remove.ensures.list found.front found.active found.back found.cut).1 in
    let among = read_is_among new handle c.item.result.now c.remove.ensures.core.handles c.if-has.ensures.value c.item.ensures.value in
    let moved = has_moved (entries tree) once handles c.self.invariant c.args.place handle found (entries new) loses (AreOnce-entries new c.remove.ensures.core.handles) c.item.result.now among in
    let within = moved_within (entries tree) once handles c.self.invariant c.args.place handle found (entries new) loses c.item.result.now moved in
    omega (arith, within, c.self.inside.handles.ok.0)

pub invariant_of-self : goal.invariant_of-self
invariant_of-self g c =
    let tree = c.self.inside.tree.shape in
    let new = c.remove.new.self.shape in
    let handles = c.self.inside.handles.items in
    let handle = c.index-handle.result.now in
    let once = AreOnce-entries tree c.edges_beside-told.ensures.core.handles in
    let found = found_at (entries tree) handles c.self.invariant c.args.self.now.edges (ap (λ (line : Line). line.edges) c.self.view_is) c.args.place c.requires handle c.index-handle.ensures in
    let loses = (c.remove.ensures.list found.front found.active found.back found.cut).1 in
    let among = read_is_among new handle c.item.result.now c.remove.ensures.core.handles c.if-has.ensures.value c.item.ensures.value in
    let moved = has_moved (entries tree) once handles c.self.invariant c.args.place handle found (entries new) loses (AreOnce-entries new c.remove.ensures.core.handles) c.item.result.now among in
    handles_moved (entries tree) once handles c.self.invariant c.args.place handle found (entries new) loses c.item.result.now moved

pub invariant_of-self-else-has : goal.invariant_of-self-else-has
invariant_of-self-else-has g c =
    let tree = c.self.inside.tree.shape in
    let new = c.remove.new.self.shape in
    let handles = c.self.inside.handles.items in
    let handle = c.index-handle.result.now in
    let once = AreOnce-entries tree c.edges_beside-told.ensures.core.handles in
    let found = found_at (entries tree) handles c.self.invariant c.args.self.now.edges (ap (λ (line : Line). line.edges) c.self.view_is) c.args.place c.requires handle c.index-handle.ensures in
    handles_left (entries tree) once handles c.self.invariant c.args.place handle found (entries new) (c.remove.ensures.list found.front found.active found.back found.cut).1
    (occurs_among-entries handle new ∙ c.if-has.ensures.value)

pub returns-then-has-clause-leaves : goal.returns-then-has-clause-leaves
returns-then-has-clause-leaves g c =
    let tree = c.self.inside.tree.shape in
    let handles = c.self.inside.handles.items in
    let handle = c.index-handle.result.now in
    let once = AreOnce-entries tree c.edges_beside-told.ensures.core.handles in
    let edges_are = ap (λ (line : Line). line.edges) c.self.view_is in
    let found = found_at (entries tree) handles c.self.invariant c.args.self.now.edges edges_are c.args.place c.requires handle c.index-handle.ensures in
    leaves_line (entries tree) once handles c.self.invariant c.args.place handle found (entries c.remove.new.self.shape) (c.remove.ensures.list found.front found.active found.back found.cut).1
    c.args.self.now.edges edges_are c.edges_beside-told.result (c.edges_beside-told.ensures.beside found.front found.active found.back found.cut)

pub returns-else-has-clause-leaves : goal.returns-else-has-clause-leaves
returns-else-has-clause-leaves g c =
    let tree = c.self.inside.tree.shape in
    let handles = c.self.inside.handles.items in
    let handle = c.index-handle.result.now in
    let once = AreOnce-entries tree c.edges_beside-told.ensures.core.handles in
    let edges_are = ap (λ (line : Line). line.edges) c.self.view_is in
    let found = found_at (entries tree) handles c.self.invariant c.args.self.now.edges edges_are c.args.place c.requires handle c.index-handle.ensures in
    leaves_line (entries tree) once handles c.self.invariant c.args.place handle found (entries c.remove.new.self.shape) (c.remove.ensures.list found.front found.active found.back found.cut).1
    c.args.self.now.edges edges_are c.edges_beside-told.result (c.edges_beside-told.ensures.beside found.front found.active found.back found.cut)
