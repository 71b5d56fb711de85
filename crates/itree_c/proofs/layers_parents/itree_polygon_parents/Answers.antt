use Rattle.std.proofs.Common.{ℕ, List, Option, length, ap, sym, ◌∙◌}
use Rattle.layers.proofs.ListLemmas.{length-lists_of}
use Rattle.itree_c.proofs.layers_parents.itree_polygon_parents.Goals as goal

-- there are as many parents as polygons
pub write_parents-requires : goal.write_parents-requires
write_parents-requires c =
    ap (λ (parents : List (Option ℕ)). length parents) c.deref.ensures.value ∙ c.in-Ok.ensures.ok.size
    ∙ length-lists_of _ 0 c.args.polygon_ends.now ∙ sym c.if-parents-polygon_ends.false
