use Rattle.std.proofs.Common.{ap, ◌<ℤ◌, ◌≤ℤ◌, ◌∙◌, arith, rules}
use Rattle.std.proofs.lemmas.Int.{ints}
use Rattle.plane.specs.declared.point.Point.{Point}
use Rattle.plane.proofs.SweepLineLemmas.Comparisons.{starts-later, starts-earlier}
use Rattle.plane.proofs.sweep_line.heights.compare_starts.Goals as goal

pub returns-then-one-other : goal.returns-then-one-other
returns-then-one-other c =
    let one = c.args.one in
    let other = c.args.other in
    let later : one.x0 <ℤ other.x0 = search rules in
    let upto : one.x0 ≤ℤ other.x0 = omega (arith, ints, later) in
    starts-later one other c.start_of.result c.compare_to_point.result upto c.requires.other_right (ap (λ (p : Point). p.x) c.start_of.ensures) (ap (λ (p : Point). p.y) c.start_of.ensures) c.compare_to_point.ensures

pub returns : goal.returns
returns c =
    let one = c.args.one in
    let other = c.args.other in
    let earlier : other.x0 ≤ℤ one.x0 = search rules in
    c.reverse.ensures
    ∙ starts-earlier one other c.start_of-2.result c.compare_to_point-2.result earlier c.requires.right (ap (λ (p : Point). p.x) c.start_of-2.ensures) (ap (λ (p : Point). p.y) c.start_of-2.ensures) c.compare_to_point-2.ensures
