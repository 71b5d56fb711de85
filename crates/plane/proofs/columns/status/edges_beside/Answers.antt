use Rattle.std.proofs.Common.{◌∷◌, ◌++◌, [], ◌∙◌, sym, append_assoc}
use Rattle.i_tree.specs.Rb.Shape.{entries}
use Rattle.plane.proofs.ColumnLemmas.StatusEntries.{AreOnce-entries, after_live, before_live, begins_with, ends_with}
use Rattle.plane.proofs.columns.status.edges_beside.Goals as goal

pub edge_at-below-requires : goal.edge_at-below-requires
edge_at-below-requires g c = before_live c.args.tree.now.shape c.args.handle c.requires c.before-2.result c.before-2.ensures.value

pub edge_at-above-requires : goal.edge_at-above-requires
edge_at-above-requires g c = after_live c.args.tree.now.shape c.args.handle c.requires c.after.result c.after.ensures.value

pub returns-clause-beside : goal.returns-clause-beside
returns-clause-beside g c =
    let tree = c.args.tree.now.shape in
    let once = AreOnce-entries tree c.after.ensures.core.handles in
    λ front item back cut. (
      ends_with (entries tree) once front ((c.args.handle, item) ∷ back) cut c.before-2.result c.edge_at-below.result (c.before-2.ensures.value front item back cut) c.edge_at-below.ensures,
      begins_with (entries tree) once (front ++ (c.args.handle, item) ∷ []) back (cut ∙ sym (append_assoc front ((c.args.handle, item) ∷ []) back))
          c.after.result c.edge_at-above.result (c.after.ensures.value front item back cut) c.edge_at-above.ensures,
    )
