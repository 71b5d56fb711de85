use Rattle.std.proofs.Common.{◌≡◌, ℕ, suc, ◌++◌, ◌∷◌, [], ◌+◌, ◌+ℤ◌, List, pos, get_or, drop, sym, ap, ◌∙◌, append_assoc, append-nil, arith, to_z, of_z, w64, rules, refl}
use Rattle.std.proofs.lemmas.Int.{ints}
use Rattle.std.proofs.lemmas.List.{drop_all}
use Rattle.std.proofs.Math.Seq.{drop-cons}
use Rattle.plane.specs.declared.edge.Edge.{Edge}
use Rattle.plane.proofs.PairsLemmas.Extends.{OnErr-always}
use Rattle.overlay.specs.Fill.Verticals.{before_all, verticals_between}
use Rattle.overlay.specs.declared.fill.verticals.End.{End}
use Rattle.overlay.proofs.VerticalLemmas.Between.{between-more, between-none}
use Rattle.overlay.proofs.fill.verticals.push_verticals.Goals.{in-Some+in_ok-push, in_default}
use Rattle.overlay.proofs.fill.verticals.push_verticals.Goals as goal

pub loop-end-init : goal.loop-end-init
loop-end-init g c = (refl, ([], sym (append-nil c.args.edges.now.items)), omega (arith, ints), omega (arith, ints))

pub returns-in_err-push-clause-err : goal.returns-in_err-push-clause-err
returns-in_err-push-clause-err g c =
    let (is, (more, extends), from, upto) = c.loop-end.invariant in
    OnErr-always c.from_residual.result _ (more, c.in_err-push.ensures.items ∙ extends)

pub sum_with-sum-requires-clause-change : goal.sum_with-sum-requires-clause-change
sum_with-sum-requires-clause-change g c = c.requires c.loop-end.end-index (record { x = pos 0; y = pos 0; change = pos 0 }) c.loop-end-test.true

pub loop-end-preserved : goal.loop-end-preserved
loop-end-preserved g c =
    let (is, (more, extends), from, upto) = c.loop-end.invariant in
    let k = c.loop-end.end-index in
    let ends = c.args.ends.now in
    let none : End = record { x = pos 0; y = pos 0; change = pos 0 } in
    let end : End = get_or ends k none in
    let sum = to_z w64 c.loop-end.sum-bits in
    let last = c.loop-end.last in
    let now = c.loop-end.edges.items in
    let all = c.args.edges.now.items ++ verticals_between (pos 0) before_all ends in
    let rest = drop (k + 1) ends in
    let change = c.requires k none c.loop-end-test.true in
    let next : to_z w64 (of_z w64 c.sum_with-sum.result) ≡ c.sum_with-sum.result = search rules in
    let told = c.sum_with-sum.ensures in
    let added : to_z w64 (of_z w64 c.sum_with-sum.result) ≡ (sum +ℤ end.change) = next ∙ told in
    let place : suc k ≡ k + 1 = omega arith in
    let here : now ++ verticals_between sum last (end ∷ rest) ≡ all = sym (ap (λ (list : List End). now ++ verticals_between sum last list) (drop-cons ends k none c.loop-end-test.true ∙ ap (λ (n : ℕ). end ∷ drop n ends) place)) ∙ is in
    let low = change.0 in
    let high = change.1 in
    elim c.match-vertical_between.branch [
      | in-Some+in_ok-push w ↦
          let edge = w.in-Some.edge in
          let pushed : c.match-vertical_between.edges.items ≡ now ++ edge ∷ [] = ap (λ edges. edges.items) w.edges-is ∙ w.in_ok-push.ensures.items in (
            ap (λ (list : List Edge). list ++ verticals_between (to_z w64 (of_z w64 c.sum_with-sum.result)) end rest) pushed
                ∙ between-more now all sum (to_z w64 (of_z w64 c.sum_with-sum.result)) last end rest added here edge (sym c.vertical_between.ensures ∙ w.in-Some.is),
            (more ++ edge ∷ [], pushed ∙ ap (λ (list : List Edge). list ++ edge ∷ []) extends ∙ append_assoc c.args.edges.now.items more (edge ∷ [])),
            omega (arith, ints, added, low, from),
            omega (arith, ints, added, high, upto),
          )
      | in_default w ↦
          let same : c.match-vertical_between.edges.items ≡ now = ap (λ edges. edges.items) w.edges-is in (
            ap (λ (list : List Edge). list ++ verticals_between (to_z w64 (of_z w64 c.sum_with-sum.result)) end rest) same
                ∙ between-none now all sum (to_z w64 (of_z w64 c.sum_with-sum.result)) last end rest added here (sym c.vertical_between.ensures ∙ w.in_default.is),
            (more, same ∙ extends),
            omega (arith, ints, added, low, from),
            omega (arith, ints, added, high, upto),
          )
    ]

pub returns-clause-ok : goal.returns-clause-ok
returns-clause-ok g c =
    let (is, (more, extends), from, upto) = c.loop-end.invariant in
    let sum = to_z w64 c.loop-end.sum-bits in
    let now = c.loop-end.edges.items in
    sym (append-nil now) ∙ sym (ap (λ (list : List End). now ++ verticals_between sum c.loop-end.last list) (drop_all c.loop-end.end-index c.args.ends.now c.loop-end-test.false)) ∙ is
