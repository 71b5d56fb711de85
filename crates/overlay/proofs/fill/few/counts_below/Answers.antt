use Rattle.std.proofs.Common.{◌∙◌, ◌≤ℤ◌, List, take, ap, sym, subst, arith, take_at}
use Rattle.std.specs.List.{All, filter}
use Rattle.std.proofs.lemmas.Int.{ints}
use Rattle.std.proofs.lemmas.List.Elements.{All-filter}
use Rattle.overlay.specs.declared.fill.pieces.Piece.{Piece}
use Rattle.overlay.specs.Fill.Few.{counts_upto, goes_on}
use Rattle.overlay.specs.Fill.Sweep.{WeighUpto}
use Rattle.overlay.proofs.KeptLemmas.Looked.{active-counted, active-left, going-weigh_upto}
use Rattle.overlay.proofs.fill.few.counts_below.Goals as goal

pub counts_of_active-kept-requires-clause-begun : goal.counts_of_active-kept-requires-clause-begun
counts_of_active-kept-requires-clause-begun g c =
    let (from, upto, is) = c.requires.active in
    subst (All (λ (piece : Piece). piece.edge.x0 ≤ℤ c.args.point.x)) (sym (c.deref_mut.ensures.value ∙ is)) (All-filter (goes_on from) (λ (piece : Piece). piece.edge.x0 ≤ℤ c.args.point.x) c.args.begun.now c.requires.begun)

pub counts_of_active-kept-requires-clause-weigh : goal.counts_of_active-kept-requires-clause-weigh
counts_of_active-kept-requires-clause-weigh g c =
    let (from, upto, is) = c.requires.active in
    let (most, countable, weigh) = c.requires.weigh in
    (most, countable, λ count. subst (λ (list : List Piece). WeighUpto most (take count list)) (sym (c.deref_mut.ensures.value ∙ is)) (going-weigh_upto most from c.args.begun.now c.requires.apart weigh count))

pub returns-clause-counts : goal.returns-clause-counts
returns-clause-counts g c = c.counts_of_active-kept.ensures.counts ∙ ap (counts_upto c.args.point) c.deref_mut.ensures.value ∙ active-counted c.args.point c.args.begun.now c.args.active.now.items c.requires.active

pub returns-clause-active : goal.returns-clause-active
returns-clause-active g c =
    let x = c.args.point.x in
    let all = take_at c.counts_of_active-kept.new.active _ c.args.active.now.len (c.counts_of_active-kept.auto.active ∙ c.deref_mut.ensures.len) in (
      x,
      omega (arith, ints),
      c.truncate.ensures.items
          ∙ ap (take c.counts_of_active-kept.result.1) all
          ∙ c.counts_of_active-kept.ensures.kept
          ∙ ap (filter (goes_on x)) c.deref_mut.ensures.value
          ∙ active-left x c.args.begun.now c.args.active.now.items c.requires.active,
    )
