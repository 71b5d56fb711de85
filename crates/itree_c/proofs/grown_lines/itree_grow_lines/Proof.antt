-- the handle is the pointer of what was made
use Rattle.itree_c.proofs.HandleMadeOf.{makes_of}
use Rattle.itree_c.proofs.ListsMade.{rings}
use Rattle.itree_c.proofs.grown_lines.all_grown_lines.Met.{met}
use Rattle.itree_c.proofs.grown_lines.all_grown_lines.Symbol.{name as callee}
use Rattle.itree_c.proofs.grown_lines.itree_grow_lines.Code as code
use Rattle.itree_c.proofs.grown_lines.itree_grow_lines.Statement.{statement}
use Rattle.itree_c.specs.Offsets.{AnswersGrownLines}
use Rattle.itree_c.specs.contracts.polygon_lists.PolygonLists.{the_row as held_row}
use Rattle.itree_c.specs.contracts.grown_lines.itree_grow_lines.Key.{name as #self}

pub itree_grow_lines_spec : {M : Type 1} → statement M
itree_grow_lines_spec 𝓤 𝓛 𝓜 𝓡 wired =
    makes_of 𝓛 held_row rings (λ l lines. AnswersGrownLines lines.points.now lines.ends.now)
    𝓜 𝓡 callee (met 𝓤 𝓛 𝓜 𝓡 (code.calls-itree_c::grown_lines::all_grown_lines 𝓡.env wired)) #self (code.unfolded 𝓤 𝓛.H 𝓜 𝓡 wired)
