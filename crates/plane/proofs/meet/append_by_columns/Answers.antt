use Rattle.std.proofs.Common.{◌∙◌, ◌++◌, inl, ℕ, List, ap}
use Rattle.plane.specs.Meet.Edges.{Meet}
use Rattle.plane.proofs.PairsLemmas.Within.{gained-within}
use Rattle.plane.proofs.meet.append_by_columns.Goals as goal

pub returns-clause-ok : goal.returns-clause-ok
returns-clause-ok g c =
    let before = c.args.out.now.items in
    (c.in_ok-pairs.pairs.items, c.in_ok-extend_from_slice.ensures.items ∙ ap (λ (list : List (ℕ × ℕ)). before ++ list) c.deref.ensures.value, c.in_ok-pairs.ensures.ok)

pub returns-clause-within : goal.returns-clause-within
returns-clause-within g c =
    let (pairs, is, are) = returns-clause-ok g c in
    gained-within Meet c.args.edges.now 0 c.args.out.now.items c.extend_from_slice.new.self.items (pairs, is, inl are)
