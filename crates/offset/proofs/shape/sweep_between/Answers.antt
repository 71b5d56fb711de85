use Rattle.std.proofs.Common.{◌∙◌, FitsSigned, ap, rules}
use mir.Syntax.{w128}
use Rattle.std.proofs.lemmas.Int.{to_z-of_z}
use Rattle.overlay.specs.Areas.{swept}
use Rattle.offset.proofs.ShapeLemmas.{height-origin}
use Rattle.offset.proofs.shape.sweep_between.Goals as goal

pub returns : goal.returns
returns c =
    let fits : FitsSigned w128 c.height_over.result = search rules in
    to_z-of_z w128 c.height_over.result fits ∙ c.height_over.ensures.value ∙ height-origin c.edge_between.result ∙ ap swept c.edge_between.ensures
