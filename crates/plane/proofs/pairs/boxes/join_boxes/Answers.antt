use Rattle.std.proofs.Common.{SFits, w32, rules}
use Rattle.std.proofs.lemmas.Int.{to_z-of_z}
use Rattle.plane.proofs.pairs.boxes.join_boxes.Goals as goal

pub returns-clause-one : goal.returns-clause-one
returns-clause-one c =
    let left-fits : SFits w32 c.min.result = search rules in
    let given-fits-left : SFits w32 c.args.one.left = search rules in
    let left = simp to_z-of_z at c.min.ensures.self_bound in
    let right-fits : SFits w32 c.max.result = search rules in
    let given-fits-right : SFits w32 c.args.one.right = search rules in
    let right = simp to_z-of_z at c.max.ensures.self_bound in
    let low-fits : SFits w32 c.min-2.result = search rules in
    let given-fits-low : SFits w32 c.args.one.low = search rules in
    let low = simp to_z-of_z at c.min-2.ensures.self_bound in
    let high-fits : SFits w32 c.max-2.result = search rules in
    let given-fits-high : SFits w32 c.args.one.high = search rules in
    let high = simp to_z-of_z at c.max-2.ensures.self_bound in
    record {
      left = simp to_z-of_z left;
      right = simp to_z-of_z right;
      low = simp to_z-of_z low;
      high = simp to_z-of_z high;
    }

pub returns-clause-other : goal.returns-clause-other
returns-clause-other c =
    let left-fits : SFits w32 c.min.result = search rules in
    let given-fits-left : SFits w32 c.args.other.left = search rules in
    let left = simp to_z-of_z at c.min.ensures.other_bound in
    let right-fits : SFits w32 c.max.result = search rules in
    let given-fits-right : SFits w32 c.args.other.right = search rules in
    let right = simp to_z-of_z at c.max.ensures.other_bound in
    let low-fits : SFits w32 c.min-2.result = search rules in
    let given-fits-low : SFits w32 c.args.other.low = search rules in
    let low = simp to_z-of_z at c.min-2.ensures.other_bound in
    let high-fits : SFits w32 c.max-2.result = search rules in
    let given-fits-high : SFits w32 c.args.other.high = search rules in
    let high = simp to_z-of_z at c.max-2.ensures.other_bound in
    record {
      left = simp to_z-of_z left;
      right = simp to_z-of_z right;
      low = simp to_z-of_z low;
      high = simp to_z-of_z high;
    }
