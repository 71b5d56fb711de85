use Rattle.std.proofs.Common.{◌≡◌, ℕ, zero, suc, ◌+◌, ◌<◌, ◌≤◌, true, false, List, ◌++◌, refl, ap, ◌∙◌, rules, arith}
use Rattle.std.proofs.lemmas.Bool.{both_ways}
use Rattle.runs.proofs.RunLemmas.SegSteps.{not_before, not_late, serves_values, serves_refused_query}
use Rattle.runs.proofs.segments.query.Goals as goal

-- where nothing was found there was room for it
some_found : (len count capacity : ℕ) → len ≡ 0 → (len + count ≤ capacity → false ≡ true) → 0 < count
some_found len zero capacity none with_room = absurd (both_ways false refl (with_room (omega (arith, none))))
some_found len (suc count) capacity none with_room = omega arith

pub collect_by_range-requires-clause-in_time : goal.collect_by_range-requires-clause-in_time
collect_by_range-requires-clause-in_time g c =
    not_before g.E.Ord.cmp c.args.tree.now.latest c.args.time (not_late g.E.Ord.cmp c.latest_time.result c.args.tree.now.latest c.args.time c.latest_time.ensures.latest c.if-is_late.ensures)

pub returns-in-Ok-clause-serves : goal.returns-in-Ok-clause-serves
returns-in-Ok-clause-serves g c =
    let in_time = not_late g.E.Ord.cmp c.latest_time.result c.args.tree.now.latest c.args.time c.latest_time.ensures.latest c.if-is_late.ensures in
    let (found, same, are) = c.in-Ok.ensures.ok in
    serves_values g.V.ExpiredVal.expiration g.met.E.Ord.total g.R.LayoutNumber.whole c.args.tree.now.buckets c.args.tree.now.members c.args.tree.now.latest c.args.range c.args.time c.collect_by_range.new.self.members c.collect_by_range.new.self.latest
    (search rules) in_time c.in-Ok.ensures.members c.in-Ok.ensures.latest c.collect_by_range.new.out.items (found, same, are ∙ ap (λ (before : List g.row.V.Denot). before ++ found) c.new-values.ensures.items)

pub returns-in-Err-clause-serves : goal.returns-in-Err-clause-serves
returns-in-Err-clause-serves g c =
    let in_time = not_late g.E.Ord.cmp c.latest_time.result c.args.tree.now.latest c.args.time c.latest_time.ensures.latest c.if-is_late.ensures in
    serves_refused_query g.V.ExpiredVal.expiration g.met.E.Ord.total g.R.LayoutNumber.whole c.args.tree.now.buckets c.args.tree.now.members c.args.tree.now.latest c.args.range c.args.time c.collect_by_range.new.self.members c.collect_by_range.new.self.latest
    (search rules) in_time c.in-Err.ensures.members c.in-Err.ensures.latest
    (some_found _ _ _ c.new-values.ensures.len c.in-Err.ensures.with_room)
