use Rattle.std.proofs.Common.{MatchBool, FitsSigned, ap, ◌∙◌, rules, subst, w32}
use Rattle.std.proofs.lemmas.Int.{to_z-of_z}
use Rattle.plane.specs.declared.edge.Edge.{Edge}
use Rattle.plane.specs.Ends.{edge_between, end_of, start_of}
use Rattle.noding.specs.Close.{PassesInside, PassesPoint}
use Rattle.noding.proofs.ChainLemmas.Close.{either_tested, first_tested}
use Rattle.noding.proofs.beside.closes_from.Goals as goal

pub returns-then-passes_inside : goal.returns-then-passes_inside
returns-then-passes_inside c =
    let from = c.args.from in
    let edge = c.args.edge in
    let point = c.args.point in
    let x : FitsSigned w32 c.args.point.x = search rules in
    let y : FitsSigned w32 c.args.point.y = search rules in
    let first = subst (λ (e : Edge). MatchBool c.passes_inside.result (PassesInside e point.x point.y) (¬ (PassesInside e point.x point.y)))
    (c.edge_between-first.ensures ∙ ap (edge_between from) c.start_of.ensures) (simp to_z-of_z at c.passes_inside.ensures) in
    first_tested c.passes_inside.result (PassesPoint (edge_between from (start_of edge)) point) (PassesPoint (edge_between from (end_of edge)) point) first c.if-passes_inside.true

pub returns-else-passes_inside : goal.returns-else-passes_inside
returns-else-passes_inside c =
    let from = c.args.from in
    let edge = c.args.edge in
    let point = c.args.point in
    let x : FitsSigned w32 c.args.point.x = search rules in
    let y : FitsSigned w32 c.args.point.y = search rules in
    let first = subst (λ (e : Edge). MatchBool c.passes_inside.result (PassesInside e point.x point.y) (¬ (PassesInside e point.x point.y)))
    (c.edge_between-first.ensures ∙ ap (edge_between from) c.start_of.ensures) (simp to_z-of_z at c.passes_inside.ensures) in
    let last = subst (λ (e : Edge). MatchBool c.passes_inside-else-passes_inside.result (PassesInside e point.x point.y) (¬ (PassesInside e point.x point.y)))
    (c.edge_between-last.ensures ∙ ap (edge_between from) c.end_of.ensures) (simp to_z-of_z at c.passes_inside-else-passes_inside.ensures) in
    either_tested c.passes_inside.result c.passes_inside-else-passes_inside.result
    (PassesPoint (edge_between from (start_of edge)) point) (PassesPoint (edge_between from (end_of edge)) point) first last c.if-passes_inside.false
