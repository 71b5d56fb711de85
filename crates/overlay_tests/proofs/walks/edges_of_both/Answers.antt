use Rattle.std.proofs.Common.{◌≡◌, ◌++◌, ◌≤◌, ℕ, List, length, take, drop, ap, ap₂, subst, sym, ◌∙◌, arith}
use Rattle.std.proofs.lemmas.List.{drop_at, length-append, take_at}
use Rattle.plane.specs.declared.edge.Edge.{Edge}
use Rattle.noding.specs.Windings.{IsClosed}
use Rattle.overlay_tests.proofs.walks.edges_of_both.Goals as goal

-- where a list is two closed ones
module _ (both first others : List Edge) (count : ℕ) (is : both ≡ first ++ others) (size : count ≡ length first) where
  front : IsClosed first → IsClosed (take count both)
  front = subst IsClosed (sym (ap (λ (edges : List Edge). take count edges) is ∙ take_at first others count (sym size)))

  back : IsClosed others → IsClosed (drop count both)
  back = subst IsClosed (sym (ap (λ (edges : List Edge). drop count edges) is ∙ drop_at first others count (sym size)))

  within : count ≤ length both
  within =
      let sum = length-append first others in
      let same = ap (λ (edges : List Edge). length edges) is in
      omega (arith, sum, same, size)

pub returns-clause-count : goal.returns-clause-count
returns-clause-count c =
    within c.in_ok-both.both.items c.in_ok-first.first.items c.in_ok-others.others.items c.len.result
    (c.in_ok-both.ensures ∙ ap₂ (λ (one other : List Edge). one ++ other) c.deref.ensures.value c.deref-2.ensures.value) (c.len.ensures ∙ c.in_ok-first.first.ok.0)

pub returns-clause-closed : goal.returns-clause-closed
returns-clause-closed c =
    front c.in_ok-both.both.items c.in_ok-first.first.items c.in_ok-others.others.items c.len.result
    (c.in_ok-both.ensures ∙ ap₂ (λ (one other : List Edge). one ++ other) c.deref.ensures.value c.deref-2.ensures.value) (c.len.ensures ∙ c.in_ok-first.first.ok.0) c.in_ok-first.ensures

pub returns-clause-clip_closed : goal.returns-clause-clip_closed
returns-clause-clip_closed c =
    back c.in_ok-both.both.items c.in_ok-first.first.items c.in_ok-others.others.items c.len.result
    (c.in_ok-both.ensures ∙ ap₂ (λ (one other : List Edge). one ++ other) c.deref.ensures.value c.deref-2.ensures.value) (c.len.ensures ∙ c.in_ok-first.first.ok.0) c.in_ok-others.ensures
