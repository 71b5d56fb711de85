use Rattle.std.proofs.Common.{◌≡◌, ◌*ℤ◌, ap₂, ◌∙◌, rules}
use Rattle.std.specs.Ordering.{int_cmp}
use Rattle.plane.specs.SweepLine.Heights.{run, rise}
use Rattle.plane.proofs.sweep_line.heights.compare_slopes.Goals as goal

pub returns : goal.returns
returns c =
    let one = c.args.one in
    let other = c.args.other in
    let rises : c.difference.result ≡ rise one = search rules in
    let other_runs : c.difference-2.result ≡ run other = search rules in
    let other_rises : c.difference-3.result ≡ rise other = search rules in
    let runs : c.difference-4.result ≡ run one = search rules in
    let product : c.product-steepness.result ≡ c.difference.result *ℤ c.difference-2.result = search rules in
    let other_product : c.product-other_steepness.result ≡ c.difference-3.result *ℤ c.difference-4.result = search rules in
    let compared : c.cmp.result ≡ int_cmp c.product-steepness.result c.product-other_steepness.result = search rules in
    compared ∙ ap₂ int_cmp (product ∙ ap₂ (◌*ℤ◌) rises other_runs) (other_product ∙ ap₂ (◌*ℤ◌) other_rises runs)
