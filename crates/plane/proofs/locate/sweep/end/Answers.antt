use Rattle.std.proofs.Common.{rules, SFits, w32, w64}
use Rattle.std.proofs.lemmas.Int.{to_z-of_z}
use Rattle.std.proofs.lemmas.Result.{on_ok_weaker}
use Rattle.plane.specs.declared.sweep_line.active.ActiveEdge.{ActiveEdge}
use Rattle.plane.specs.SweepLine.Active.{cmp_to_ending, live_entries}
use Rattle.plane.proofs.LocateLemmas.Serving.{crossing_between, in_order_between}
use Rattle.plane.proofs.locate.sweep.end.Goals as goal

pub neighbours_by-below-requires : goal.neighbours_by-below-requires
neighbours_by-below-requires g c =
    let fits : SFits w32 c.args.ending.edge.x1 = search rules in
    let fits_wide : SFits w64 c.args.ending.edge.x1 = search rules in
    simp to_z-of_z (λ k d inside. (c.requires.all_right k d inside, c.requires.right))

pub check_neighbours-requires : goal.check_neighbours-requires
check_neighbours-requires g c =
    let fits : SFits w32 c.args.ending.edge.x1 = search rules in
    let fits_wide : SFits w64 c.args.ending.edge.x1 = search rules in
    let value = simp to_z-of_z at c.neighbours_by-below.ensures.value in
    let order = λ (other : ActiveEdge). cmp_to_ending c.args.ending other in
    let are = value order (λ k d inside answer says. says) c.requires.monotone in
    record {
      order = in_order_between order (live_entries c.args.ending.edge.x1 (g.C.StatusCollection.stored c.args.status.now)) c.neighbours_by-below.result
          c.requires.monotone c.requires.all_right c.requires.order are;
    }

pub returns-clause-ok : goal.returns-clause-ok
returns-clause-ok g c =
    let fits : SFits w32 c.args.ending.edge.x1 = search rules in
    let fits_wide : SFits w64 c.args.ending.edge.x1 = search rules in
    let value = simp to_z-of_z at c.neighbours_by-below.ensures.value in
    let are = value (λ (other : ActiveEdge). cmp_to_ending c.args.ending other) (λ k d inside answer says. says) c.requires.monotone in
    on_ok_weaker c.check_neighbours.result (λ apart. (c.neighbours_by-below.result, are, apart)) c.check_neighbours.ensures.ok

pub returns-clause-crossing : goal.returns-clause-crossing
returns-clause-crossing g c i j told =
    let fits : SFits w32 c.args.ending.edge.x1 = search rules in
    let fits_wide : SFits w64 c.args.ending.edge.x1 = search rules in
    let value = simp to_z-of_z at c.neighbours_by-below.ensures.value in
    let are = value (λ (other : ActiveEdge). cmp_to_ending c.args.ending other) (λ k d inside answer says. says) c.requires.monotone in
    crossing_between (λ (other : ActiveEdge). cmp_to_ending c.args.ending other) _ c.neighbours_by-below.result i j are (c.check_neighbours.ensures.crossing i j told)

pub returns-clause-kept : goal.returns-clause-kept
returns-clause-kept g c =
    let fits : SFits w32 c.args.ending.edge.x1 = search rules in
    let fits_wide : SFits w64 c.args.ending.edge.x1 = search rules in
    simp to_z-of_z at c.neighbours_by-below.ensures.kept
