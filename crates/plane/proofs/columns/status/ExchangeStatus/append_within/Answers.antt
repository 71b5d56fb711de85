use Rattle.std.proofs.Common.{◌≡◌, ◌∙◌, ℕ, ap, length, subst, sym}
use Rattle.i_tree.specs.Rb.Shape.{entries}
use Rattle.plane.specs.Columns.Status.{Line}
use Rattle.plane.proofs.ColumnLemmas.StatusWalk.{first_within, on_line}
use Rattle.plane.proofs.ColumnLemmas.Comparing.{AppendsComparing-descent, Compares-descent}
use Rattle.plane.specs.Columns.Steps.{Compares}
use Rattle.plane.specs.declared.sweep_line.active.ActiveEdge.{ActiveEdge}
use Rattle.std.proofs.lemmas.List.{length-map}
use Rattle.std.proofs.lemmas.Result.{on_ok_weaker}
use Rattle.plane.proofs.columns.status.ExchangeStatus.append_within.Goals as goal

pub append_from-requires-clause-first : goal.append_from-requires-clause-first
append_from-requires-clause-first g c =
    let end = c.descend-end.ensures.end in
    let (front, within, back, split) = c.requires.split in
    first_within c.args.asked c.self.inside.tree.shape c.descend-end.result end c.args.self.now.edges (ap (λ (line : Line). line.edges) c.self.view_is) front within back split
    c.handle_behind-first.result (c.handle_behind-first.ensures end.front end.back end.between.cut end.last_is)

pub returns-clause-ok : goal.returns-clause-ok
returns-clause-ok g c =
    on_line c.args.asked c.args.place _ c.args.self.now.edges (ap (λ (line : Line). line.edges) c.self.view_is) c.args.met.now.items c.append_from.new.met.items c.append_from.result c.append_from.ensures.ok

pub returns-clause-steps : goal.returns-clause-steps
returns-clause-steps g c =
    let tree = c.self.inside.tree.shape in
    let active : length c.args.self.now.edges ≡ length (entries tree) = sym (ap (λ (line : Line). length line.edges) c.self.view_is) ∙ length-map (entries tree) (λ (pair : ℕ × ActiveEdge). pair.1) in
    let descent = subst (λ (n : ℕ). Compares g.C.Counter.made c.args.steps.now c.descend-end.new.steps n 1 0) (sym active) (Compares-descent c.args.steps.now c.descend-end.new.steps (length (entries tree)) c.descend-end.ensures.steps) in
    on_ok_weaker c.append_from.result
    (λ appends. AppendsComparing-descent g.met.C.Counter.law c.args.steps.now c.descend-end.new.steps c.append_from.new.steps (length c.args.self.now.edges) c.args.met.now.items c.append_from.new.met.items descent appends)
    c.append_from.ensures.steps
