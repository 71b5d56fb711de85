use Rattle.validity.proofs.Meetings.{apart-no_touch, cross-no_touch}
use Rattle.validity.proofs.one_piece.touch_alone.Goals as goal

pub returns-in-Apart : goal.returns-in-Apart
returns-in-Apart c = apart-no_touch c.args.one c.args.other c.in-Apart.ensures

pub returns-in-Cross : goal.returns-in-Cross
returns-in-Cross c = cross-no_touch c.args.one c.args.other c.in-Cross.ensures
