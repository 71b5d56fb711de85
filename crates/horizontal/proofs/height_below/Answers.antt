-- How a level stands to the point's height is told by the order of heights.
use Rattle.std.proofs.Common.{rules, SFits, w32}
use Rattle.std.specs.Cmp.{int_cmp_total}
use Rattle.std.specs.Ordering.{int_cmp}
use Rattle.std.proofs.lemmas.Int.{to_z-of_z}
use Rattle.i_tree.proofs.RootLemmas.Monotone.{IsMonotone-compare}
use Rattle.horizontal.specs.Levels.{live_entries}
use Rattle.horizontal.specs.declared.Level.{Level}
use Rattle.horizontal.proofs.height_below.Goals as goal

pub returns-clause-value : goal.returns-clause-value
returns-clause-value g c =
    let x : SFits w32 c.args.point.x = search rules in
    let y = c.args.point.y in
    let value = simp to_z-of_z at c.first_less_or_equal_by.ensures.value in
    value (λ (level : Level). int_cmp level.y y) (λ k d inside answer says. says)
    (IsMonotone-compare int_cmp_total (λ (level : Level). level.y) y (live_entries c.args.point.x (g.C.KeyExpCollection.stored c.args.store.now)))

pub returns-clause-kept : goal.returns-clause-kept
returns-clause-kept g c =
    let x : SFits w32 c.args.point.x = search rules in
    simp to_z-of_z at c.first_less_or_equal_by.ensures.kept
