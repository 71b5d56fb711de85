use Rattle.std.proofs.Common.{Option, Vec, ℕ, ◌∙◌, sym, subst}
use Rattle.std.specs.Option.{IfSome}
use Rattle.std.proofs.lemmas.Option.{IfSome_then}
use Rattle.plane.specs.Pairs.Pairs.{ArePairs}
use Rattle.noding.specs.Close.{ComeClose}
use Rattle.noding.proofs.ChainLemmas.Close.{ArePairs-gained, ArePairs-within, IfSome-told, close-in_boxes}
use Rattle.noding.proofs.close.close_pairs.Goals as goal

pub pairs_within_budget-requires : goal.pairs_within_budget-requires
pairs_within_budget-requires g c = close-in_boxes

pub returns-clause-ok : goal.returns-clause-ok
returns-clause-ok g c =
    let pairs = c.pairs_within_budget.new.out in
    let gained = ArePairs-gained c.args.edges.now c.deref.result.now c.new-pairs.result.items pairs.items (c.deref.ensures.value ∙ c.in_ok-items.ensures) c.new-pairs.ensures.items in
    subst (λ (found : Option (Vec (ℕ × ℕ) g.row.A.Denot)). IfSome found (λ pairs. ArePairs ComeClose c.args.edges.now pairs.items)) (sym c.then_some.ensures)
    (IfSome-told c.in_ok-are_all.are_all pairs (λ (pairs : Vec (ℕ × ℕ) g.row.A.Denot). ArePairs ComeClose c.args.edges.now pairs.items) _ _ gained c.in_ok-are_all.ensures.ok)

pub returns-clause-within : goal.returns-clause-within
returns-clause-within g c = IfSome_then c.then_some.result (returns-clause-ok g c) (λ pairs are. ArePairs-within c.args.edges.now pairs.items are)
