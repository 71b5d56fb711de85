use Rattle.std.proofs.Common.{◌∙◌, sym}
use Rattle.std.proofs.lemmas.Bool.{eqb-false}
use Rattle.tiles.specs.Join.{IsIn, no_tile}
use Rattle.tiles.specs.Window.{HasPoints}
use Rattle.tiles.proofs.JoinTests.{all-first}
use Rattle.tiles.proofs.joined.windows.around.Goals as goal

pub around_those-requires : goal.around_those-requires
around_those-requires c = all-first HasPoints c.args.windows.now no_tile.0 (eqb-false _ _ (sym c.is_empty.ensures ∙ c.if-is_empty.false)) c.requires

pub returns-clause-least : goal.returns-clause-least
returns-clause-least c = λ outer some all.
    c.around_those.ensures.least outer (all-first (IsIn outer) c.args.windows.now no_tile.0 (eqb-false _ _ (sym c.is_empty.ensures ∙ c.if-is_empty.false)) all) all
