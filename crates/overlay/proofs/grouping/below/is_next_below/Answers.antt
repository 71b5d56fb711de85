use Rattle.std.proofs.Common.{◌≡◌, ◌&&◌, Bool, true, false, not, ap, sym, subst, ◌∙◌, arith}
use Rattle.std.specs.Bool.{OnTrue}
use Rattle.std.proofs.lemmas.Int.{ints}
use Rattle.overlay.specs.Fill.Counts.{is_lower_on}
use Rattle.overlay.specs.Grouping.{AreEndsAbove, is_first_or_above}
use Rattle.overlay.proofs.FillLemmas.Tests.{over_true}
use Rattle.overlay.proofs.GroupingLemmas.Highest.{above-not_lower, found-over, sides-meet, side-right}
use Rattle.overlay.proofs.grouping.below.is_next_below.Goals.{then-not-is_over, else-not-is_over}
use Rattle.overlay.proofs.grouping.below.is_next_below.Goals as goal

and-true : (a b t : Bool) → b ≡ true → t ≡ a → t ≡ a && b
and-true true b t is same = same ∙ sym is
and-true false b t is same = same

and-false : (a b t : Bool) → t ≡ false → (a ≡ false) → t ≡ a && b
and-false true b t is isnt = cc
and-false false b t is isnt = is

and-second : (a b t : Bool) → t ≡ false → b ≡ false → t ≡ a && b
and-second true b t is isnt = is ∙ sym isnt
and-second false b t is isnt = is

pub returns-then-is_first_or_above : goal.returns-then-is_first_or_above
returns-then-is_first_or_above c = λ rings noded is of over.
    let first = c.args.first in
    let x = first.piece.edge.x0 in
    let right = side-right rings first of.first in
    let lower = c.is_below.ensures rings x noded is of.first over (over_true x first.piece.edge (omega (arith, ints)) right) in
    elim c.if-not-is_over.branch [
      | then-not-is_over w ↦ and-true (is_lower_on x c.args.side.piece.edge first.piece.edge) (is_first_or_above x c.args.side c.args.below) c.is_below.result
          (sym (w.is_first_or_above.ensures rings x noded is over (found-over rings (record { first = first; below = c.args.below }) of)) ∙ sym w.value-is ∙ c.if-is_first_or_above.true) lower
      | else-not-is_over w ↦ absurd (never (sym c.if-is_first_or_above.true ∙ w.value-is ∙ ap not w.if-not-is_over.false))
    ]
  where
    never : true ≡ false → ⊥
    never h = cc

pub returns-else-is_first_or_above : goal.returns-else-is_first_or_above
returns-else-is_first_or_above c = λ rings noded is of over.
    let first = c.args.first in
    let x = first.piece.edge.x0 in
    elim c.if-not-is_over.branch [
      | then-not-is_over w ↦ and-second (is_lower_on x c.args.side.piece.edge first.piece.edge) (is_first_or_above x c.args.side c.args.below) c.if-not-is_over.value c.if-is_first_or_above.false
          (sym (w.is_first_or_above.ensures rings x noded is over (found-over rings (record { first = first; below = c.args.below }) of)) ∙ sym w.value-is ∙ c.if-is_first_or_above.false)
      | else-not-is_over w ↦ and-false (is_lower_on x c.args.side.piece.edge first.piece.edge) (is_first_or_above x c.args.side c.args.below) c.if-not-is_over.value c.if-is_first_or_above.false
          (above-not_lower c.args.side.piece.edge first.piece.edge (sides-meet rings c.args.side first noded is of.first) over (side-right rings first of.first)
          (subst (λ (t : Bool). OnTrue t (AreEndsAbove first.piece.edge.y0 c.args.side.piece.edge)) w.if-not-is_over.false c.is_over.ensures))
    ]
