-- the handle is the pointer of what was made
use Rattle.itree_c.proofs.HandleMadeBy.{makes_by}
use Rattle.itree_c.proofs.ListsMade.{rings}
use Rattle.itree_c.proofs.overlaid.all_polygons.Met.{met}
use Rattle.itree_c.proofs.overlaid.all_polygons.Symbol.{name as callee}
use Rattle.itree_c.proofs.overlaid.itree_overlay.Code as code
use Rattle.itree_c.proofs.overlaid.itree_overlay.Statement.{statement}
use Rattle.itree_c.specs.Overlay.{AnswersOverlay}
use Rattle.itree_c.specs.contracts.polygon_lists.PolygonLists.{the_row as held_row}
use Rattle.itree_c.specs.contracts.overlaid.itree_overlay.Key.{name as #self}

pub itree_overlay_spec : {M : Type 1} → statement M
itree_overlay_spec 𝓤 𝓛 𝓜 𝓡 wired =
    makes_by 𝓛 held_row rings rings (λ l subject clip. AnswersOverlay subject.points.now subject.ends.now clip.points.now clip.ends.now)
    𝓜 𝓡 callee (met 𝓤 𝓛 𝓜 𝓡 (code.calls-itree_c::overlaid::all_polygons 𝓡.env wired)) #self (code.unfolded 𝓤 𝓛.H 𝓜 𝓡 wired)
