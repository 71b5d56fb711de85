use Rattle.tiles.proofs.JoinTests.{border-along, border-decides}
use Rattle.tiles.proofs.joined.windows.is_at_border.Goals as goal

pub returns : goal.returns
returns c = border-decides c.args.window c.args.point c.stands_up.result c.if-stands_across.ensures c.stands_up.ensures

pub returns-then-stands_across : goal.returns-then-stands_across
returns-then-stands_across c = border-along c.args.window c.args.point c.if-stands_across.ensures
