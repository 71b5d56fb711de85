use Rattle.std.proofs.Common.{◌≢◌, ◌≤◌, ◌-◌, length, ℕ, List, ◌∷◌, sym, ap, ◌∙◌, subst, arith}
use Rattle.i_tree.specs.Rb.Shape.{first_handle}
use Rattle.i_tree.specs.declared.set.iterator.SetIterator.{SetIterator}
use Rattle.i_tree.specs.Set.Iterating.{CanYield}
use Rattle.i_tree.specs.Set.Pairs.{values, HasHandle}
use Rattle.i_tree.proofs.SetLemmas.Live.{HasHandle-middle}
use Rattle.i_tree.proofs.SetLemmas.Walking.{IsNext, is_next, none_left}
use Rattle.i_tree.proofs.set.iterator.SetIteratorIterator.next.Goals as goal

pub returns-then-self-eq0-clause-steps : goal.returns-then-self-eq0-clause-steps
returns-then-self-eq0-clause-steps g c =
    let none = ap values (none_left (g.C.SetCollection.pairs c.args.self.now.set.now) c.args.self.now.left c.if-self-eq0.true) in
    (none, none)

next : {K V C : Type 0} (pairs : C → List (ℕ × V)) (walk : SetIterator K V C) → walk.left ≢ 0 → CanYield pairs walk → IsNext (pairs walk.set.now) walk.left walk.next
next pairs walk some can = is_next (pairs walk.set.now) walk.left walk.next some can.few can.next

pub value_by_index-value-requires : goal.value_by_index-value-requires
value_by_index-value-requires g c =
    let here = next g.C.SetCollection.pairs c.args.self.now c.if-self-eq0.false c.requires in
    subst (λ pairs. HasHandle pairs c.args.self.now.next) (sym here.cut) (HasHandle-middle here.front c.args.self.now.next here.value here.back)

pub index_after-self-requires : goal.index_after-self-requires
index_after-self-requires g c =
    let here = next g.C.SetCollection.pairs c.args.self.now c.if-self-eq0.false c.requires in
    subst (λ pairs. HasHandle pairs c.args.self.now.next) (sym here.cut) (HasHandle-middle here.front c.args.self.now.next here.value here.back)

pub returns-clause-steps : goal.returns-clause-steps
returns-clause-steps g c =
    let here = next g.C.SetCollection.pairs c.args.self.now c.if-self-eq0.false c.requires in
    let value_is = c.value_by_index-value.ensures.value here.front here.value here.back here.cut in
    ap values here.here ∙ ap (λ value. value ∷ values here.back) (sym value_is) ∙ ap (λ pairs. c.value_by_index-value.result.now ∷ values pairs) (sym here.rest)

pub returns-clause-goes : goal.returns-clause-goes
returns-clause-goes g c =
    let here = next g.C.SetCollection.pairs c.args.self.now c.if-self-eq0.false c.requires in
    let few : c.args.self.now.left - 1 ≤ length (g.C.SetCollection.pairs c.args.self.now.set.now) = omega (arith, c.requires.few) in
    let next = c.index_after-self.ensures.value here.front here.value here.back here.cut ∙ ap first_handle (sym here.rest) in
    record { on = λ _. (record { few = few; next = next }, tt, omega (arith, c.if-self-eq0.false)); keeps = record { few = few; next = next }; rests = λ _. tt }
