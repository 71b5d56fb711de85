use Rattle.std.proofs.Common.{pos, get_or, subst, sym}
use Rattle.std.proofs.lemmas.Option.{slice_get-get_or}
use Rattle.plane.specs.declared.edge.Edge.{Edge}
use Rattle.noding.specs.Sections.{AreSections}
use Rattle.noding.proofs.ChainLemmas.Sections.{sections-all, sections-more, sections-none}
use Rattle.noding.proofs.sections.sections_of.Goals as goal

abbrev none : Edge
none = record { x0 = pos 0; y0 = pos 0; x1 = pos 0; y1 = pos 0 }

pub loop-place-init : goal.loop-place-init
loop-place-init g c = subst (AreSections c.args.edges.now 0) (sym c.in_ok-sections.ensures.items) (sections-none c.args.edges.now)

pub loop-place-preserved : goal.loop-place-preserved
loop-place-preserved g c =
    let edges = c.args.edges.now in
    let place = c.loop-place.place in
    sections-more edges place (get_or edges place none) c.count_for.result c.loop-place.sections.items c.push_sections.new.sections.items c.count_for.ensures (slice_get-get_or edges place none c.loop-place-test.true)
    c.loop-place.invariant c.in_ok-push_sections.ensures

pub returns : goal.returns
returns g c = sections-all c.args.edges.now c.loop-place.place c.loop-place.sections.items c.loop-place-test.false c.loop-place.invariant
