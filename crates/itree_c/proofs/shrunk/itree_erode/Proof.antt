-- the handle is the pointer of what was made
use Rattle.itree_c.proofs.HandleMadeBeside.{makes_beside}
use Rattle.itree_c.proofs.ListsMade.{rings}
use Rattle.itree_c.proofs.shrunk.all_shrunk.Met.{met}
use Rattle.itree_c.proofs.shrunk.all_shrunk.Symbol.{name as callee}
use Rattle.itree_c.proofs.shrunk.itree_erode.Code as code
use Rattle.itree_c.proofs.shrunk.itree_erode.Statement.{statement}
use Rattle.itree_c.specs.Offsets.{AnswersShrunk}
use Rattle.itree_c.specs.contracts.polygon_lists.PolygonLists.{the_row as held_row}
use Rattle.itree_c.specs.contracts.shrunk.itree_erode.Key.{name as #self}

pub itree_erode_spec : {M : Type 1} → statement M
itree_erode_spec 𝓤 𝓛 𝓜 𝓡 wired =
    makes_beside 𝓛 held_row rings (λ l polygons. AnswersShrunk polygons.points.now polygons.ends.now)
    𝓜 𝓡 callee (met 𝓤 𝓛 𝓜 𝓡 (code.calls-itree_c::shrunk::all_shrunk 𝓡.env wired)) #self (code.unfolded 𝓤 𝓛.H 𝓜 𝓡 wired)
