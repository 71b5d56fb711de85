use Rattle.std.proofs.Common.{rules, SFits, w64, inl, inr, refl}
use Rattle.std.proofs.lemmas.Int.{to_z-of_z}
use Rattle.plane.proofs.ColumnLemmas.Comparing.{Compares-none}
use Rattle.plane.proofs.columns.sweep.Columns.look.Goals as goal

pub first_above-requires-clause-steeper : goal.first_above-requires-clause-steeper
first_above-requires-clause-steeper g c =
    let fits : SFits w64 c.args.from = search rules in
    let can = rw (c.in-Some-Some.is-0, c.in-Some-Some.is-1) at c.requires in
    simp to_z-of_z can.4

pub returns-in_ok-put-clause-looks : goal.returns-in_ok-put-clause-looks
returns-in_ok-put-clause-looks g c =
    let fits : SFits w64 c.args.from = search rules in
    let fits_too : SFits w64 c.in-Some.moment = search rules in
    let first = simp to_z-of_z at c.in-Some.ensures in
    let moved = simp to_z-of_z at c.in_ok-put.ensures in
    rw (c.in-Some-Some.is-0, c.in-Some-Some.is-1) (inr (record { moment = c.in-Some.moment; below = (c.in-Some-Some.lower).place; above = (c.in-Some-Some.upper).place }, moved, refl, refl, first))

pub returns-in_default-first_above-clause-looks : goal.returns-in_default-first_above-clause-looks
returns-in_default-first_above-clause-looks g c =
    let fits : SFits w64 c.args.from = search rules in
    let never = simp to_z-of_z at c.in_default-first_above.ensures in
    rw (c.in-Some-Some.is-0, c.in-Some-Some.is-1) (inl (refl, never))

pub returns-in_default-clause-steps : goal.returns-in_default-clause-steps
returns-in_default-clause-steps g c = Compares-none g.met.C.Counter.law c.args.steps.now 0 0 1

pub returns-in_default-2-clause-steps : goal.returns-in_default-2-clause-steps
returns-in_default-2-clause-steps g c = Compares-none g.met.C.Counter.law c.args.steps.now 0 0 1
