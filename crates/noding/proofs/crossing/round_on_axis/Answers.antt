use Rattle.std.proofs.Common.{◌≡◌, ◌+ℤ◌, ◌-ℤ◌, ◌*ℤ◌, rules}
use Rattle.std.specs.Int.RustNames.{unsigned_abs}
use Rattle.noding.specs.Rounding.{RoundsOn}
use Rattle.noding.proofs.SnapLemmas.Common.{RoundsOn-multiple, mean-nowhere}
use Rattle.noding.proofs.crossing.round_on_axis.Goals as goal

pub returns-then-from-to : goal.returns-then-from-to
returns-then-from-to c =
    let mean = (c.args.all *ℤ c.args.from) +ℤ (c.args.first *ℤ (c.args.to -ℤ c.args.from)) in
    let same : c.args.from ≡ c.args.to = search rules in
    let there : RoundsOn (unsigned_abs c.args.all) mean c.args.from = RoundsOn-multiple c.args.all c.args.from mean c.requires.some (mean-nowhere c.args.all c.args.first c.args.from c.args.to same) in
    search rules

pub returns-then-other_from-other_to : goal.returns-then-other_from-other_to
returns-then-other_from-other_to c =
    let mean = (c.args.all *ℤ c.args.from) +ℤ (c.args.first *ℤ (c.args.to -ℤ c.args.from)) in
    let same : c.args.other_from ≡ c.args.other_to = search rules in
    let there : RoundsOn (unsigned_abs c.args.all) mean c.args.other_from = RoundsOn-multiple c.args.all c.args.other_from mean c.requires.some (c.requires.common same) in
    search rules
