use Rattle.std.proofs.lemmas.Bool.{MatchBool-at_false}
use Rattle.tiles.proofs.JoinTests.{last-decides}
use Rattle.tiles.proofs.joined.windows.are_beside.Goals as goal

pub returns : goal.returns
returns c =
    last-decides c.is_below-2.result _ _ _ _
    (MatchBool-at_false _ _ c.if-is_left_of.false c.is_left_of.ensures) (MatchBool-at_false _ _ c.if-is_left_of-2.false c.is_left_of-2.ensures) (MatchBool-at_false _ _ c.if-is_below.false c.is_below.ensures)
    c.is_below-2.ensures
