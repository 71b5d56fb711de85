-- Parts of the edges of rings.
use Rattle.std.proofs.Common.{◌≡◌, ◌++◌, [], List, ap, sym, ◌∙◌, subst}
use Rattle.std.specs.List.{All}
use Rattle.std.proofs.lemmas.List.Elements.{All-append}
use Rattle.plane.specs.declared.edge.Edge.{Edge}
use Rattle.monotone_chains.specs.Stretches.Cut.{AppendsParts, IsPart}
use Rattle.monotone_chains.specs.declared.stretches.parts.Part.{Part}

-- parts of some edges, and behind them those of others, are parts
pub IsPart-both : (edges others : List Edge) (none one both : List Part) → none ≡ [] → AppendsParts edges none one → AppendsParts others one both → All IsPart both
IsPart-both edges others none one both empty (parts, are, each, is) (more, are', each', is') =
    subst (All IsPart) (sym (is' ∙ ap (λ (list : List Part). list ++ more) (is ∙ ap (λ (list : List Part). list ++ parts) empty))) (All-append IsPart parts more each each')
