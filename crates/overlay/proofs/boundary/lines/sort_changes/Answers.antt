use Rattle.std.proofs.Common.{rules}
use Rattle.std.proofs.lemmas.List.Sorted.{answers_always}
use Rattle.overlay.specs.declared.boundary.lines.Change.{Change}
use Rattle.overlay.specs.Lines.{before}
use Rattle.overlay.proofs.LineLemmas.Places.{change_order, in_order}
use Rattle.overlay.proofs.boundary.lines.sort_changes.Goals as goal

pub returns-clause-order : goal.returns-clause-order
returns-clause-order c =
    in_order c.sort_unstable_by.new.self
    (c.sort_unstable_by.ensures.sorted (λ (one other : Change). before one.place other.place) change_order (answers_always _ _ _ (λ f a r f' called. search rules)))
