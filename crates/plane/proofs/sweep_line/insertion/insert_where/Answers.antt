-- What the insertion tells, it tells by the order along the line, since the closure answers by it.
use Rattle.std.proofs.Common.{refl, rules, SFits, w32, w64}
use Rattle.std.proofs.lemmas.Int.{to_z-of_z}
use Rattle.plane.specs.declared.sweep_line.active.ActiveEdge.{ActiveEdge}
use Rattle.plane.specs.SweepLine.Active.{Entry, cmp_active, live_entries}
use Rattle.plane.proofs.SweepLineLemmas.Begins.{begin_monotone, begin_new}
use Rattle.plane.proofs.SweepLineLemmas.Insertion.{JoinsAt-along, joined_at, never_none, told_at}
use Rattle.plane.proofs.SweepLineLemmas.Sorted.{IsSortedAt-joins}
use Rattle.plane.proofs.sweep_line.insertion.insert_where.Goals as goal

pub insert_between-requires : goal.insert_between-requires
insert_between-requires g c =
    let fits : SFits w32 c.args.beginning.edge.x0 = search rules in
    let fits_wide : SFits w64 c.args.beginning.edge.x0 = search rules in
    simp to_z-of_z c.requires.asked

pub returns-in_default : goal.returns-in_default
returns-in_default g c =
    let fits : SFits w32 c.args.beginning.edge.x0 = search rules in
    let fits_wide : SFits w64 c.args.beginning.edge.x0 = search rules in
    let order = λ (other : ActiveEdge). cmp_active other c.args.beginning in
    let entries = live_entries c.args.beginning.edge.x0 (g.C.StatusCollection.stored c.args.status.now) in
    let entry : Entry = (c.args.beginning, tt) in
    let cases = simp to_z-of_z at c.in_ok-found.ensures.cases in
    absurd (never_none order entries c.in_ok-found.field-0 c.in_default.is
    (cases order (λ k d inside answer says. c.requires.answers _ answer says) (begin_monotone c.args.beginning.edge.x0 entries entry c.requires.sorted refl c.requires.right c.requires.last))
    (begin_new c.args.beginning.edge.x0 entries entry c.requires.sorted refl c.requires.right c.requires.last))

pub returns-clause-neighbours : goal.returns-clause-neighbours
returns-clause-neighbours g c =
    let fits : SFits w32 c.args.beginning.edge.x0 = search rules in
    let fits_wide : SFits w64 c.args.beginning.edge.x0 = search rules in
    let order = λ (other : ActiveEdge). cmp_active other c.args.beginning in
    let entries = live_entries c.args.beginning.edge.x0 (g.C.StatusCollection.stored c.args.status.now) in
    let entry : Entry = (c.args.beginning, tt) in
    let told = simp to_z-of_z at c.in_ok-found.ensures.neighbours in
    told_at _ c.in_ok-found.field-0 c.in-Some.found c.in-Some.is told order (λ k d inside answer says. c.requires.answers _ answer says)
    (begin_monotone c.args.beginning.edge.x0 entries entry c.requires.sorted refl c.requires.right c.requires.last)

pub returns-clause-ok : goal.returns-clause-ok
returns-clause-ok g c =
    let fits : SFits w32 c.args.beginning.edge.x0 = search rules in
    let fits_wide : SFits w64 c.args.beginning.edge.x0 = search rules in
    let stored = g.C.StatusCollection.stored in
    let entries = live_entries c.args.beginning.edge.x0 (stored c.args.status.now) in
    let entry : Entry = (c.args.beginning, tt) in
    let joined = simp to_z-of_z at c.in_ok-found.ensures.ok in
    let joins = joined_at _ _ c.in_ok-found.field-0 c.in-Some.found c.in-Some.is joined in
    JoinsAt-along c.args.beginning.edge.x0 c.args.beginning _ (stored c.args.status.now) (stored c.insert_between.new.self) (λ k d inside answer says. c.requires.answers _ answer says)
    (begin_monotone c.args.beginning.edge.x0 entries entry c.requires.sorted refl c.requires.right c.requires.last) joins

pub returns-clause-sorted : goal.returns-clause-sorted
returns-clause-sorted g c = λ later onwards apart.
    let stored = g.C.StatusCollection.stored in
    IsSortedAt-joins c.args.beginning.edge.x0 (c.args.beginning, tt) refl c.requires.right (stored c.args.status.now) (stored c.insert_between.new.self) c.requires.sorted (returns-clause-ok g c)
    later onwards apart
