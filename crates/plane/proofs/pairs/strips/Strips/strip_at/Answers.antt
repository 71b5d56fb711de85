use Rattle.std.proofs.Common.{◌^◌, ◌≤◌, arith}
use Rattle.std.proofs.Math.Nat.{div-lt_iff_lt-mul}
use Rattle.std.proofs.lemmas.Nat.{pow_pos}
use Rattle.plane.proofs.PairsLemmas.Strips.{wide}
use Rattle.plane.proofs.pairs.strips.Strips.strip_at.Goals as goal

pub returns-clause-few : goal.returns-clause-few
returns-clause-few c =
    let bits = c.args.self.bits in
    let least : 32 ≤ 2 ^ bits = wide c.args.self in
    (div-lt_iff_lt-mul {k = 2 ^ bits} {x = c.abs_diff.result} {y = 134217728} (pow_pos bits)).1 (omega (arith, least))
