use Rattle.std.proofs.Common.{◌≡◌, ap, arith, pos, true}
use Rattle.std.specs.Prelude.{int_le}
use Rattle.std.proofs.lemmas.Int.{ints}
use Rattle.offset.specs.Shape.{turn}
use Rattle.offset.proofs.RawLemmas.{passes-le}
use Rattle.offset.proofs.raw.is_of_fan.Goals as goal

pub returns-then-turn-ge0 : goal.returns-then-turn-ge0
returns-then-turn-ge0 c =
    let begins : int_le (pos 0) (turn c.args.edge c.args.side) ≡ true = passes-le (pos 0) (turn c.args.edge c.args.side) (omega (arith, ints, c.turn.ensures, c.if-turn-ge0.true)) in
    let ends = c.turn-then-turn-ge0.ensures in
    grind (arith, ints, begins, ends)
