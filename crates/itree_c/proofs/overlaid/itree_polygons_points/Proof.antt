-- the first field and the second are those of the points
use Rattle.itree_c.proofs.Steps.{◌∙◌, length, refl, vec_ptr}
use Rattle.itree_c.proofs.HandleReads.{reads}
use Rattle.itree_c.proofs.polygon_lists.PolygonLists.TheLaws.{lowered, lowers}
use Rattle.itree_c.specs.contracts.polygon_lists.PolygonLists.{the_row as held_row}
use Rattle.itree_c.specs.contracts.overlaid.itree_polygons_points.Key.{name as #self}
use Rattle.itree_c.proofs.overlaid.itree_polygons_points.Statement.{statement}
use Rattle.itree_c.proofs.overlaid.itree_polygons_points.Code as code

pub itree_polygons_points_spec : {M : Type 1} → statement M
itree_polygons_points_spec 𝓤 𝓛 𝓜 𝓡 wired =
    reads 𝓛 held_row (λ x. length x.held_points.items) (λ x. vec_ptr x.held_points) 𝓜 𝓡 refl lowered lowers.val_is 0 1 refl (λ x. refl) refl refl
    (λ x. x.points) (λ x. x.point_count) (λ x. refl) (λ x. refl) (λ x good. good.1.0) (λ x. (x.points_told.1 ∙ x.held_points.ok.0, x.points_told.0))
    #self (code.unfolded 𝓤 𝓛.H 𝓜 𝓡 wired)
