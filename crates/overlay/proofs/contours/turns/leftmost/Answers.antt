use Rattle.std.proofs.Common.{◌≡◌, ◌+◌, ℕ, Option, true, false, get_or, sym, ◌∙◌, subst, arith}
use Rattle.std.proofs.lemmas.List.{get_or_default}
use Rattle.overlay.specs.Contours.Turns.{Leaves}
use Rattle.overlay.proofs.ContourLemmas.Order.{from-first, upto-other}
use Rattle.overlay.proofs.ContourLemmas.Turns.{IsBestBefore, best-all, best-skip, best-take}
use Rattle.overlay.proofs.contours.turns.leftmost.Goals.{then-not-used-place, else-not-used-place}
use Rattle.overlay.proofs.contours.turns.leftmost.Goals as goal

pub loop-place-init : goal.loop-place-init
loop-place-init c = (
  omega arith,
  c.requires.first.inside,
  λ k within leaves. (let from = from-first c.args.sorted.now c.requires.order c.args.at c.args.first c.requires.first k leaves.starts in omega (arith, within, from)),
)

pub loop-place-preserved : goal.loop-place-preserved
loop-place-preserved c =
    let (from, upto, best) = c.loop-place.invariant in
    let sorted = c.args.sorted.now in
    let used = c.args.used.now in
    let back = c.args.back in
    let at = c.args.at in
    let place = c.loop-place.place in
    let inside = c.loop-place-test.true in
    let size = c.requires.size in
    let read : get_or used place true ≡ get_or used place false = get_or_default used place true false (omega (arith, inside, size)) in (
      omega (arith, from),
      omega (arith, inside),
      elim c.if-not-used-place.branch [
        | then-not-used-place w ↦
            let test = w.if-not-used-place.true in
            let leaves : Leaves sorted used at place = record { inside = inside; unused = read ∙ test; starts = c.if-starts_at.ensures } in
            subst (λ (now : Option ℕ). IsBestBefore sorted used back at (place + 1) now) (sym w.best-is)
            (best-take sorted used back at place c.loop-place.best w.better.result leaves w.better.ensures best)
        | else-not-used-place w ↦
            let test = w.if-not-used-place.false in
            subst (λ (now : Option ℕ). IsBestBefore sorted used back at (place + 1) now) (sym w.best-is)
            (best-skip sorted used back at place c.loop-place.best (λ leaves. (let unused = leaves.unused in cc)) best)
      ],
    )

pub returns-else-starts_at : goal.returns-else-starts_at
returns-else-starts_at c =
    let (from, upto, best) = c.loop-place.invariant in
    best-all c.args.sorted.now c.args.used.now c.args.back c.args.at c.loop-place.place c.loop-place.best
    (λ k leaves. upto-other c.args.sorted.now c.requires.order c.args.at c.args.first c.requires.first c.loop-place.place k from c.loop-place-test.true c.if-starts_at.ensures leaves.inside leaves.starts) best

pub returns-after-loop-place : goal.returns-after-loop-place
returns-after-loop-place c =
    let (from, upto, best) = c.loop-place.invariant in
    let past = c.loop-place-test.false in
    best-all c.args.sorted.now c.args.used.now c.args.back c.args.at c.loop-place.place c.loop-place.best
    (λ k leaves. (let inside = leaves.inside in omega (arith, inside, past))) best
