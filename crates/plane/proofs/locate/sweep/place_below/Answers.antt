use Rattle.std.proofs.Common.{rules, SFits, w32, w64, ap, sym}
use Rattle.std.proofs.lemmas.Int.{to_z-of_z}
use Rattle.plane.specs.Locate.Serving.{place_of}
use Rattle.plane.specs.SweepLine.Active.{cmp_to_point}
use Rattle.plane.proofs.SweepLineLemmas.Under.{point_monotone}
use Rattle.plane.proofs.locate.sweep.place_below.Goals as goal

pub returns-in-Some-clause-value : goal.returns-in-Some-clause-value
returns-in-Some-clause-value g c =
    let fits : SFits w32 c.args.point.x = search rules in
    let fits_wide : SFits w64 c.args.point.x = search rules in
    let value = simp to_z-of_z at c.neighbours_by-below.ensures.value in
    let are = value (cmp_to_point c.args.point) (λ k d inside answer says. says) (point_monotone c.args.point _ c.requires) in
    (c.neighbours_by-below.result.0, are.0, ap place_of (sym c.in-Some.is))

pub returns-in-None-clause-value : goal.returns-in-None-clause-value
returns-in-None-clause-value g c =
    let fits : SFits w32 c.args.point.x = search rules in
    let fits_wide : SFits w64 c.args.point.x = search rules in
    let value = simp to_z-of_z at c.neighbours_by-below.ensures.value in
    let are = value (cmp_to_point c.args.point) (λ k d inside answer says. says) (point_monotone c.args.point _ c.requires) in
    (c.neighbours_by-below.result.0, are.0, ap place_of (sym c.in-None.is))

pub returns-in-Some-clause-kept : goal.returns-in-Some-clause-kept
returns-in-Some-clause-kept g c =
    let fits : SFits w32 c.args.point.x = search rules in
    let fits_wide : SFits w64 c.args.point.x = search rules in
    simp to_z-of_z at c.neighbours_by-below.ensures.kept

pub returns-in-None-clause-kept : goal.returns-in-None-clause-kept
returns-in-None-clause-kept g c =
    let fits : SFits w32 c.args.point.x = search rules in
    let fits_wide : SFits w64 c.args.point.x = search rules in
    simp to_z-of_z at c.neighbours_by-below.ensures.kept
