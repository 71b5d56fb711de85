-- the handle is the pointer of what was made
use Rattle.itree_c.proofs.HandleMadeBesideThree.{makes_three}
use Rattle.itree_c.proofs.ListsMade.{rings}
use Rattle.itree_c.proofs.grown_joined.all_grown_joined.Met.{met}
use Rattle.itree_c.proofs.grown_joined.all_grown_joined.Symbol.{name as callee}
use Rattle.itree_c.proofs.grown_joined.itree_minkowski_joined.Code as code
use Rattle.itree_c.proofs.grown_joined.itree_minkowski_joined.Statement.{statement}
use Rattle.itree_c.specs.Offsets.{AnswersGrownJoined}
use Rattle.itree_c.specs.contracts.polygon_lists.PolygonLists.{the_row as held_row}
use Rattle.itree_c.specs.contracts.grown_joined.itree_minkowski_joined.Key.{name as #self}

pub itree_minkowski_joined_spec : {M : Type 1} → statement M
itree_minkowski_joined_spec 𝓤 𝓛 𝓜 𝓡 wired =
    makes_three 𝓛 held_row rings (λ l polygons. AnswersGrownJoined polygons.points.now polygons.ends.now)
    𝓜 𝓡 callee (met 𝓤 𝓛 𝓜 𝓡 (code.calls-itree_c::grown_joined::all_grown_joined 𝓡.env wired)) #self (code.unfolded 𝓤 𝓛.H 𝓜 𝓡 wired)
