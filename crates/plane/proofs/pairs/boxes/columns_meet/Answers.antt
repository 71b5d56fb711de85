use Rattle.std.proofs.Common.{◌≡◌, rules, to_z, of_z, w32}
use Rattle.plane.proofs.PairsLemmas.Boxes.{upto_tested}
use Rattle.plane.proofs.pairs.boxes.columns_meet.Goals as goal

pub returns : goal.returns
returns c =
    let one = c.args.one in
    let other = c.args.other in
    let left : to_z w32 (of_z w32 one.left) ≡ one.left = search rules in
    let right : to_z w32 (of_z w32 one.right) ≡ one.right = search rules in
    let other_left : to_z w32 (of_z w32 other.left) ≡ other.left = search rules in
    let other_right : to_z w32 (of_z w32 other.right) ≡ other.right = search rules in
    upto_tested one.left other.right other.left one.right _ _ _ _ left other_right other_left right
