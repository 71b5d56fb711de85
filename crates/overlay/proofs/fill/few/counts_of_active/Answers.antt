use Rattle.std.proofs.Common.{◌≡◌, ◌<◌, ◌+◌, ◌≤ℤ◌, length, take, ap, ap₂, true, false, sym, subst, ◌∙◌, arith, rules, to_z, of_z, w32}
use Rattle.std.specs.Int.Signed.{lt_z}
use Rattle.i_tree.proofs.ExpiringLemmas.Packing.{packed-more}
use Rattle.overlay.specs.declared.fill.pieces.Piece.{Piece}
use Rattle.overlay.specs.Fill.Counts.{Counts}
use Rattle.overlay.specs.Fill.Few.{is_upto}
use Rattle.overlay.specs.Fill.Sweep.{Fits, no_piece, plus}
use Rattle.overlay.proofs.KeptLemmas.Begun.{piece_at}
use Rattle.overlay.proofs.KeptLemmas.Few.{counted-more, counts-fit, counts-within}
use Rattle.overlay.proofs.KeptLemmas.Looked.{packed-at, packed-here}
use Rattle.overlay.proofs.fill.few.counts_of_active.Goals as goal

pub plus_if_upto-counts-requires-clause-begun : goal.plus_if_upto-counts-requires-clause-begun
plus_if_upto-counts-requires-clause-begun c =
    let before = c.args.active.now in
    let k = c.loop-at.at in
    let within : k < length before = omega (arith, c.loop-at.invariant.packed.long) in
    subst (λ (piece : Piece). piece.edge.x0 ≤ℤ c.args.point.x) (sym (packed-at before c.loop-at.active c.loop-at.kept k c.loop-at.invariant.packed)) (c.requires.begun k no_piece within)

pub plus_if_upto-counts-requires-clause-within : goal.plus_if_upto-counts-requires-clause-within
plus_if_upto-counts-requires-clause-within c =
    let (most, countable, weigh) = c.requires.weigh in
    let k = c.loop-at.at in
    subst (λ (counts : Counts). Fits counts no_piece) (sym c.loop-at.invariant.counts) (counts-within c.args.point (take k c.args.active.now) most countable (weigh k))

pub plus_if_upto-counts-requires-clause-fits : goal.plus_if_upto-counts-requires-clause-fits
plus_if_upto-counts-requires-clause-fits c =
    let before = c.args.active.now in
    let k = c.loop-at.at in
    let within : k < length before = omega (arith, c.loop-at.invariant.packed.long) in
    let (most, countable, weigh) = c.requires.weigh in
    subst (λ (piece : Piece). is_upto c.args.point piece.edge ≡ true → Fits c.loop-at.counts piece) (sym (packed-at before c.loop-at.active c.loop-at.kept k c.loop-at.invariant.packed))
    (λ is. subst (λ (counts : Counts). Fits counts (piece_at before k)) (sym c.loop-at.invariant.counts) (counts-fit c.args.point before k no_piece within most countable (weigh (k + 1)) is))

pub loop-at-preserved : goal.loop-at-preserved
loop-at-preserved c =
    let before = c.args.active.now in
    let now = c.loop-at.active in
    let k = c.loop-at.at in
    let inside : k < length now = omega arith in
    let within : k < length before = omega (arith, c.loop-at.invariant.packed.long) in
    let here = packed-at before now c.loop-at.kept k c.loop-at.invariant.packed in
    let x : to_z w32 (of_z w32 c.args.point.x) ≡ c.args.point.x = search rules in
    let x1 : to_z w32 (of_z w32 (piece_at now k).edge.x1) ≡ (piece_at now k).edge.x1 = search rules in
    record {
      packed = packed-more (piece_at now k) c.loop-at.invariant.packed inside (packed-here now k inside) _ _ (sym (ap₂ lt_z x x1)) (omega (arith, c.from-kept.ensures));
      counts = counted-more c.args.point before k within c.loop-at.counts c.plus_if_upto-counts.result c.loop-at.invariant.counts
          (λ is. c.plus_if_upto-counts.ensures.upto (subst (λ (piece : Piece). is_upto c.args.point piece.edge ≡ true) (sym here) is) ∙ ap (plus c.loop-at.counts) here)
          (λ is. c.plus_if_upto-counts.ensures.above (subst (λ (piece : Piece). is_upto c.args.point piece.edge ≡ false) (sym here) is));
    }
