use Rattle.std.proofs.Common.{◌<◌, arith, length}
use Rattle.offset.proofs.RoundLemmas.{told-once}
use Rattle.offset.proofs.shape.is_convex_around_origin.Goals as goal

pub returns : goal.returns
returns c =
    let some : 0 < length c.args.corners.now = grind (arith, c.is_empty.ensures, c.if-is_empty.false) in
    told-once c.args.corners.now some (c.if-not-go_round_origin.ensures) (c.if-not-turn_left.ensures) c.go_round_once.result c.go_round_once.ensures
