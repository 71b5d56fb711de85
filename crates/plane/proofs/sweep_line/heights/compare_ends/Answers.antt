use Rattle.std.proofs.Common.{◌≡◌, ap, ◌<ℤ◌, ◌≤ℤ◌, ◌∙◌, rules}
use Rattle.plane.specs.declared.edge.Edge.{Edge}
use Rattle.plane.specs.declared.point.Point.{Point}
use Rattle.plane.proofs.SweepLineLemmas.Comparisons.{ends-earlier, ends-later}
use Rattle.plane.proofs.sweep_line.heights.compare_ends.Goals as goal

pub returns-then-outlasts : goal.returns-then-outlasts
returns-then-outlasts c =
    let one = c.args.one in
    let other = c.args.other in
    let earlier : other.x1 <ℤ one.x1 = search rules in
    let longer : c.select-longer.result ≡ one = c.select-longer.ensures.first c.if-outlasts.true in
    let shorter : c.select-shorter.result ≡ other = c.select-shorter.ensures.first c.if-outlasts.true in
    ends-earlier one other c.end_of.result c.compare_to_point-heights.result earlier c.requires.other_right
    (ap (λ (p : Point). p.x) c.end_of.ensures ∙ ap (λ (e : Edge). e.x1) shorter)
    (ap (λ (p : Point). p.y) c.end_of.ensures ∙ ap (λ (e : Edge). e.y1) shorter)
    (rw longer at c.compare_to_point-heights.ensures)

pub returns : goal.returns
returns c =
    let one = c.args.one in
    let other = c.args.other in
    let later : one.x1 ≤ℤ other.x1 = search rules in
    let longer : c.select-longer.result ≡ other = c.select-longer.ensures.other c.if-outlasts.false in
    let shorter : c.select-shorter.result ≡ one = c.select-shorter.ensures.other c.if-outlasts.false in
    c.reverse.ensures
    ∙ ends-later one other c.end_of.result c.compare_to_point-heights.result later c.requires.right
    (ap (λ (p : Point). p.x) c.end_of.ensures ∙ ap (λ (e : Edge). e.x1) shorter)
    (ap (λ (p : Point). p.y) c.end_of.ensures ∙ ap (λ (e : Edge). e.y1) shorter)
    (rw longer at c.compare_to_point-heights.ensures)
