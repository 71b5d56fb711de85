use Rattle.std.proofs.Common.{◌∙◌, ◌≤ℤ◌, List, length, take, arith, ap, sym, subst}
use Rattle.std.specs.List.{All, filter}
use Rattle.std.proofs.lemmas.Int.{ints}
use Rattle.std.proofs.lemmas.List.{take_all}
use Rattle.std.proofs.lemmas.List.Elements.{All-filter}
use Rattle.overlay.specs.declared.fill.pieces.Piece.{Piece}
use Rattle.overlay.specs.Fill.Few.{counts_upto, goes_on}
use Rattle.overlay.specs.Fill.Sweep.{WeighUpto}
use Rattle.overlay.proofs.KeptLemmas.Looked.{going-counted, going-weigh_upto, looked-all}
use Rattle.overlay.proofs.fill.handed.counts_below.Goals as goal

pub counts_upto-requires-clause-begun : goal.counts_upto-requires-clause-begun
counts_upto-requires-clause-begun g c =
    let x = c.args.point.x in
    let begun = c.args.begun.now in
    let all = c.deref.ensures.value ∙ c.in_ok-look.ensures ∙ looked-all x begun c.args.looked.now.count c.args.looked.now.live.items c.requires.looked in
    subst (All (λ (p : Piece). p.edge.x0 ≤ℤ x)) (sym all) (All-filter (goes_on x) (λ (p : Piece). p.edge.x0 ≤ℤ x) begun c.requires.begun)

pub counts_upto-requires-clause-weigh : goal.counts_upto-requires-clause-weigh
counts_upto-requires-clause-weigh g c =
    let x = c.args.point.x in
    let begun = c.args.begun.now in
    let all = c.deref.ensures.value ∙ c.in_ok-look.ensures ∙ looked-all x begun c.args.looked.now.count c.args.looked.now.live.items c.requires.looked in
    let (most, countable, weigh) = c.requires.weigh in (most, countable, λ count. subst (λ (list : List Piece). WeighUpto most (take count list)) (sym all) (going-weigh_upto most x begun c.requires.apart weigh count))

pub returns-clause-counts : goal.returns-clause-counts
returns-clause-counts g c =
    let point = c.args.point in
    let begun = c.args.begun.now in
    let all = c.deref.ensures.value ∙ c.in_ok-look.ensures ∙ looked-all point.x begun c.args.looked.now.count c.args.looked.now.live.items c.requires.looked in
    c.counts_upto.ensures ∙ ap (counts_upto point) all ∙ going-counted point begun

pub returns-clause-looked : goal.returns-clause-looked
returns-clause-looked g c =
    let x = c.args.point.x in
    let begun = c.args.begun.now in
    let all = c.in_ok-look.ensures ∙ looked-all x begun c.args.looked.now.count c.args.looked.now.live.items c.requires.looked in
    (omega arith, (x, omega (arith, ints), all ∙ ap (filter (goes_on x)) (sym (take_all (length begun) begun (omega arith)))))
