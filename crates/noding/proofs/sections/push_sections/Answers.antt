use Rattle.std.proofs.Common.{◌≡◌, ◌++◌, ◌∷◌, [], ◌∙◌, ap}
use Rattle.plane.specs.declared.edge.Edge.{Edge}
use Rattle.plane.specs.Ends.{edge_between}
use Rattle.noding.proofs.ChainLemmas.Sections.{parts-all, parts-more, parts-none, parts-one}
use Rattle.noding.proofs.sections.push_sections.Goals as goal

pub returns-then-count-eq1 : goal.returns-then-count-eq1
returns-then-count-eq1 g c = parts-one c.args.place c.args.edge c.args.count c.args.sections.now.items c.push.new.self.items c.in_ok-push.ensures.items

pub loop-part-init : goal.loop-part-init
loop-part-init g c = (parts-none c.args.place c.args.edge c.args.count c.args.sections.now.items, c.point_along-from.ensures)

pub loop-part-preserved : goal.loop-part-preserved
loop-part-preserved g c =
    let place = c.args.place in
    let edge = c.args.edge in
    let now = c.loop-part.sections.items in
    let pushed : c.push-in-loop-part.new.self.items ≡ now ++ record { place = place; edge = edge; chord = edge_between c.loop-part.from c.point_along-to.result } ∷ [] =
    c.in_ok-push-2.ensures.items ∙ ap (λ (chord : Edge). now ++ record { place = place; edge = edge; chord = chord } ∷ []) c.edge_between-chord.ensures in (
      parts-more place edge c.loop-part.part c.args.count c.loop-part.from c.point_along-to.result c.args.sections.now.items now c.push-in-loop-part.new.self.items c.requires c.loop-part-test.true c.loop-part.invariant.1 c.point_along-to.ensures
          pushed c.loop-part.invariant.0,
      c.point_along-to.ensures,
    )

pub returns : goal.returns
returns g c = parts-all c.args.place c.args.edge c.loop-part.part c.args.count c.args.sections.now.items c.loop-part.sections.items c.loop-part-test.false c.loop-part.invariant.0
