-- the handle is the pointer of what was made
use Rattle.itree_c.proofs.HandleMadeBeside.{makes_beside}
use Rattle.itree_c.proofs.ListsMade.{rings}
use Rattle.itree_c.proofs.grown.all_grown.Met.{met}
use Rattle.itree_c.proofs.grown.all_grown.Symbol.{name as callee}
use Rattle.itree_c.proofs.grown.itree_minkowski.Code as code
use Rattle.itree_c.proofs.grown.itree_minkowski.Statement.{statement}
use Rattle.itree_c.specs.Offsets.{AnswersGrown}
use Rattle.itree_c.specs.contracts.polygon_lists.PolygonLists.{the_row as held_row}
use Rattle.itree_c.specs.contracts.grown.itree_minkowski.Key.{name as #self}

pub itree_minkowski_spec : {M : Type 1} → statement M
itree_minkowski_spec 𝓤 𝓛 𝓜 𝓡 wired =
    makes_beside 𝓛 held_row rings (λ l polygons. AnswersGrown polygons.points.now polygons.ends.now)
    𝓜 𝓡 callee (met 𝓤 𝓛 𝓜 𝓡 (code.calls-itree_c::grown::all_grown 𝓡.env wired)) #self (code.unfolded 𝓤 𝓛.H 𝓜 𝓡 wired)
