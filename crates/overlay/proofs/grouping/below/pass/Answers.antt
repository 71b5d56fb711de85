use Rattle.std.proofs.Common.{◌≡◌, ◌<ℤ◌, ◌<◌, ◌+◌, ℕ, Some, true, cond, get_or, length, ap, sym, subst, ◌∙◌, arith}
use Rattle.overlay.specs.Fill.Counts.{is_over}
use Rattle.overlay.specs.Grouping.{IsHoleOf}
use Rattle.overlay.specs.declared.grouping.holes.Hole.{Hole}
use Rattle.overlay.proofs.GroupingLemmas.Highest.{hole-right}
use Rattle.overlay.proofs.GroupingLemmas.Told.{HasPassed, next-told, no_hole, passed-all, passed-kept, passed-more, passed-none, passed-over}
use Rattle.overlay.proofs.grouping.below.pass.Goals.{else-is_next_below, then-is_next_below}
use Rattle.overlay.proofs.grouping.below.pass.Goals as goal

pub loop-place-init : goal.loop-place-init
loop-place-init g c = passed-none c.args.side c.args.holes.now c.args.start c.args.end c.requires.1.1.1.1.0

pub is_next_below-requires-clause-first_right : goal.is_next_below-requires-clause-first_right
is_next_below-requires-clause-first_right g c =
    let inside : c.loop-place.place < length c.args.holes.now = (let less = c.loop-place-test.true in let end = c.requires.1.1.1.0 in omega (arith, less, end)) in
    let same = c.loop-place.invariant.rest c.loop-place.place no_hole (omega arith) inside in
    subst (λ (hole : Hole). hole.first.piece.edge.x0 <ℤ hole.first.piece.edge.x1) (sym same) (hole-right g.rings c.requires.0 (get_or c.args.holes.now c.loop-place.place no_hole) (c.requires.1.1.1.1.1 c.loop-place.place no_hole inside))

pub loop-place-preserved : goal.loop-place-preserved
loop-place-preserved g c =
    let old = c.args.holes.now in
    let now = c.loop-place.holes in
    let k = c.loop-place.place in
    let side = c.args.side in
    let inside : k < length old = (let less = c.loop-place-test.true in let end = c.requires.1.1.1.0 in omega (arith, less, end)) in
    let same = c.loop-place.invariant.rest k no_hole (omega arith) inside in
    let of : IsHoleOf g.rings (get_or now k no_hole) = subst (IsHoleOf g.rings) (sym same) (c.requires.1.1.1.1.1 k no_hole inside) in
    let over = subst (λ (hole : Hole). is_over hole.first.piece.edge.x0 side.piece.edge ≡ true) (sym same)
    (passed-over side old c.args.start c.args.end c.requires.1.1.1.1.0 k no_hole inside (let from = c.loop-place.auto.place in omega (arith, from)) (let less = c.loop-place-test.true in omega (arith, less))) in
    let test = c.is_next_below.ensures g.rings c.requires.0 c.requires.1.0 of over in
    let told = next-told side (get_or now k no_hole) c.is_next_below.result over test in
    elim c.if-is_next_below.branch [
      | then-is_next_below w ↦ subst (HasPassed side (k + 1) old) (sym w.holes-is)
          (passed-more side old now k (record { first = (get_or now k no_hole).first; below = Some side }) no_hole inside c.loop-place.invariant
          (ap (λ t. cond t (record { first = (get_or now k no_hole).first; below = Some side }) (get_or now k no_hole)) (sym w.if-is_next_below.true) ∙ sym told))
      | else-is_next_below w ↦ subst (HasPassed side (k + 1) old) (sym w.holes-is)
          (passed-kept side old now k no_hole inside c.loop-place.invariant (ap (λ t. cond t (record { first = (get_or now k no_hole).first; below = Some side }) (get_or now k no_hole)) (sym w.if-is_next_below.false) ∙ sym told))
    ]

pub returns : goal.returns
returns g c =
    let past = c.loop-place-test.false in
    let upto = c.requires.1.1.0 in
    let end = c.loop-place.auto.place-end in
    let at : c.loop-place.place ≡ c.args.end = omega (arith, past, end, upto) in
    passed-all c.args.side c.args.holes.now c.args.start c.args.end c.requires.1.1.1.1.0 c.loop-place.holes (subst (λ (n : ℕ). HasPassed c.args.side n c.args.holes.now c.loop-place.holes) at c.loop-place.invariant)
