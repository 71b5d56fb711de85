-- the handle is the pointer of what was made
use Rattle.itree_c.proofs.HandleMadeBy.{makes_by}
use Rattle.itree_c.proofs.ListsMade.{lines, rings}
use Rattle.itree_c.proofs.layers_lines.all_pieces.Met.{met}
use Rattle.itree_c.proofs.layers_lines.all_pieces.Symbol.{name as callee}
use Rattle.itree_c.proofs.layers_lines.itree_clip_lines.Code as code
use Rattle.itree_c.proofs.layers_lines.itree_clip_lines.Statement.{statement}
use Rattle.itree_c.specs.Layers.{AnswersPieces}
use Rattle.itree_c.specs.contracts.polygon_lists.PolygonLists.{the_row as held_row}
use Rattle.itree_c.specs.contracts.layers_lines.itree_clip_lines.Key.{name as #self}

pub itree_clip_lines_spec : {M : Type 1} → statement M
itree_clip_lines_spec 𝓤 𝓛 𝓜 𝓡 wired =
    makes_by 𝓛 held_row lines rings (λ l. AnswersPieces)
    𝓜 𝓡 callee (met 𝓤 𝓛 𝓜 𝓡 (code.calls-itree_c::layers_lines::all_pieces 𝓡.env wired)) #self (code.unfolded 𝓤 𝓛.H 𝓜 𝓡 wired)
