use Rattle.std.proofs.Common.{◌≡◌, ◌∙◌, ◌++◌, ◌<◌, true, ℕ, List, ap, length, subst, sym}
use Rattle.std.specs.List.{All}
use Rattle.std.proofs.lemmas.List.Elements.{All-nil}
use Rattle.plane.specs.Pairs.Pairs.{ArePairsBetween}
use Rattle.plane.specs.declared.edge.Edge.{Edge}
use Rattle.noding.specs.Columns.Ends.{HaveAllOnUprights}
use Rattle.noding.specs.Columns.Passing.{PassesAs}
use Rattle.noding.proofs.ColumnLemmas.Ends.{all-on_uprights, no-uprights, on_uprights-within}
use Rattle.noding.proofs.columns.ends.pairs_on_uprights.Goals as goal

pub returns-then-not-has_upright-clause-ok : goal.returns-then-not-has_upright-clause-ok
returns-then-not-has_upright-clause-ok g c = no-uprights c.args.edges.now c.args.points.now c.new-pairs.result.items (c.has_upright.ensures c.if-not-has_upright.true)

pub returns-then-not-has_upright-clause-within : goal.returns-then-not-has_upright-clause-within
returns-then-not-has_upright-clause-within g c =
    let within = λ (pair : ℕ × ℕ). (pair.0 < length c.args.edges.now) × (pair.1 < length c.args.points.now) in
    subst (All within) (sym c.new-pairs.ensures.items) (All-nil within)

pub returns-clause-ok : goal.returns-clause-ok
returns-clause-ok g c =
    let edges = c.args.edges.now in
    let points = c.args.points.now in
    let (found, appended, are) = c.in_ok-append_passed.ensures.ok in
    let listed : c.append_passed.new.pairs.items ≡ found = appended ∙ ap (λ (list : List (ℕ × ℕ)). list ++ found) c.new-pairs.ensures.items in
    let told = subst (λ (alone : List Edge). ArePairsBetween (PassesAs true) alone points found) (c.deref.ensures.value ∙ c.in_ok-uprights.ensures) are in
    subst (HaveAllOnUprights edges points) (sym listed) (all-on_uprights edges points found told)

pub returns-clause-within : goal.returns-clause-within
returns-clause-within g c =
    let edges = c.args.edges.now in
    let points = c.args.points.now in
    let (found, appended, are) = c.in_ok-append_passed.ensures.ok in
    let listed : c.append_passed.new.pairs.items ≡ found = appended ∙ ap (λ (list : List (ℕ × ℕ)). list ++ found) c.new-pairs.ensures.items in
    let told = subst (λ (alone : List Edge). ArePairsBetween (PassesAs true) alone points found) (c.deref.ensures.value ∙ c.in_ok-uprights.ensures) are in
    subst (All (λ pair. (pair.0 < length edges) × (pair.1 < length points))) (sym listed) (on_uprights-within edges points found told)
