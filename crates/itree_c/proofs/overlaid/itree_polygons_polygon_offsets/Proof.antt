-- the fifth field and the sixth are those of the polygons' offsets
use Rattle.itree_c.proofs.Steps.{◌∙◌, length, refl, vec_ptr}
use Rattle.itree_c.proofs.HandleReads.{reads}
use Rattle.itree_c.proofs.polygon_lists.PolygonLists.TheLaws.{lowered, lowers}
use Rattle.itree_c.specs.contracts.polygon_lists.PolygonLists.{the_row as held_row}
use Rattle.itree_c.specs.contracts.overlaid.itree_polygons_polygon_offsets.Key.{name as #self}
use Rattle.itree_c.proofs.overlaid.itree_polygons_polygon_offsets.Statement.{statement}
use Rattle.itree_c.proofs.overlaid.itree_polygons_polygon_offsets.Code as code

pub itree_polygons_polygon_offsets_spec : {M : Type 1} → statement M
itree_polygons_polygon_offsets_spec 𝓤 𝓛 𝓜 𝓡 wired =
    reads 𝓛 held_row (λ x. length x.held_polygon_offsets.items) (λ x. vec_ptr x.held_polygon_offsets) 𝓜 𝓡 refl lowered lowers.val_is 4 5 refl (λ x. refl) refl refl
    (λ x. x.polygon_offsets) (λ x. x.polygon_offset_count) (λ x. refl) (λ x. refl) (λ x good. good.1.1.1.1.1.0) (λ x. (x.polygons_told.1 ∙ x.held_polygon_offsets.ok.0, x.polygons_told.0))
    #self (code.unfolded 𝓤 𝓛.H 𝓜 𝓡 wired)
