use Rattle.std.proofs.Common.{◌≡◌, rules, to_z, of_z, w32}
use Rattle.plane.proofs.PairsLemmas.Boxes.{upto_tested}
use Rattle.plane.proofs.pairs.boxes.rows_meet.Goals as goal

pub returns : goal.returns
returns c =
    let one = c.args.one in
    let other = c.args.other in
    let low : to_z w32 (of_z w32 one.low) ≡ one.low = search rules in
    let high : to_z w32 (of_z w32 one.high) ≡ one.high = search rules in
    let other_low : to_z w32 (of_z w32 other.low) ≡ other.low = search rules in
    let other_high : to_z w32 (of_z w32 other.high) ≡ other.high = search rules in
    upto_tested one.low other.high other.low one.high _ _ _ _ low other_high other_low high
