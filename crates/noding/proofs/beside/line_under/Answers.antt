use Rattle.std.proofs.Common.{◌≡◌, ◌∙◌, ap, pos, ◌-ℤ◌, ◌<ℤ◌, ℤ, true, to_z, of_z, rules, subst, sym, arith}
use Rattle.std.specs.Int.{w128}
use Rattle.std.specs.Int.Signed.{lt_z}
use Rattle.std.proofs.lemmas.Int.{ints}
use Rattle.plane.specs.declared.edge.Edge.{Edge}
use Rattle.plane.specs.Ends.{end_of, reversed, start_of}
use Rattle.plane.specs.Lines.{height_over}
use Rattle.noding.specs.Beside.{RisesOver}
use Rattle.noding.proofs.SnapLemmas.Reversed.{left-reversed}
use Rattle.noding.proofs.beside.line_under.Goals as goal

below : (a b : ℤ) → lt_z a b ≡ true → a <ℤ b
below a b set = search (rules, set)

-- what comes down over an edge rises over it the other way round
turned : (edge other : Edge) → height_over edge (end_of other) <ℤ height_over edge (start_of other) → RisesOver (reversed edge) other
turned edge other falls =
    let start : height_over (reversed edge) (start_of other) ≡ pos 0 -ℤ height_over edge (start_of other) = left-reversed edge other.x0 other.y0 in
    let end : height_over (reversed edge) (end_of other) ≡ pos 0 -ℤ height_over edge (end_of other) = left-reversed edge other.x1 other.y1 in
    omega (arith, ints, start, end, falls)

pub returns-then-height_over-clause-rises : goal.returns-then-height_over-clause-rises
returns-then-height_over-clause-rises c =
    let edge = c.args.edge in
    let other = c.args.other in
    let end : to_z w128 (of_z w128 c.height_over.result) ≡ c.height_over.result = search rules in
    let start : to_z w128 (of_z w128 c.height_over-2.result) ≡ c.height_over-2.result = search rules in
    let end_is : c.height_over.result ≡ height_over edge (end_of other) = c.height_over.ensures.value ∙ ap (height_over edge) c.end_of.ensures in
    let start_is : c.height_over-2.result ≡ height_over edge (start_of other) = c.height_over-2.ensures.value ∙ ap (height_over edge) c.start_of.ensures in
    let less = below (to_z w128 (of_z w128 c.height_over.result)) (to_z w128 (of_z w128 c.height_over-2.result)) c.if-height_over.true in
    subst (λ (e : Edge). RisesOver e other) (sym c.reverse.ensures) (turned edge other (omega (arith, ints, less, end, start, end_is, start_is)))
