use Rattle.std.proofs.Common.{◌≡◌, ◌++◌, ◌∷◌, [], pos, get_or, rules, w32, FitsSigned, ap, ◌∙◌}
use Rattle.std.proofs.lemmas.Int.{to_z-of_z}
use Rattle.plane.specs.declared.edge.Edge.{Edge}
use Rattle.plane.specs.declared.point.Point.{Point}
use Rattle.plane.proofs.GainsLemmas.{upto-all, upto-first, upto-next}
use Rattle.noding.specs.Sections.{IsStopIn}
use Rattle.noding.specs.Stops.{stop_of}
use Rattle.noding.specs.declared.sections.Section.{Section}
use Rattle.noding.specs.declared.stops.Stop.{Stop}
use Rattle.noding.proofs.ChainLemmas.Sections.{gains-in}
use Rattle.noding.proofs.stops.push_stops_here.Goals as goal

pub loop-pair-init : goal.loop-pair-init
loop-pair-init g c = upto-first (IsStopIn c.args.sections.now c.args.points.now) c.args.sections.now c.args.points.now c.args.passes.now c.args.stops.now.items

pub loop-pair-preserved : goal.loop-pair-preserved
loop-pair-preserved g c =
    let sections = c.args.sections.now in
    let points = c.args.points.now in
    let passes = c.args.passes.now in
    let k = c.loop-pair.pair-index in
    let now = c.loop-pair.stops.items in
    let after = c.push.new.self.items in
    let nowhere : Edge = record { x0 = pos 0; y0 = pos 0; x1 = pos 0; y1 = pos 0 } in
    let none : Section = record { place = 0; edge = nowhere; chord = nowhere } in
    let origin : Point = record { x = pos 0; y = pos 0 } in
    let pair = get_or passes k (0, 0) in
    let section = get_or sections pair.0 none in
    let point = get_or points pair.1 origin in
    let x : FitsSigned w32 point.x = search rules in
    let y : FitsSigned w32 point.y = search rules in
    let stop : c.stop_of.result ≡ stop_of section.place section.edge point.x point.y = simp to_z-of_z at c.stop_of.ensures in
    upto-next (IsStopIn sections points) sections points passes c.args.stops.now.items c.requires k none origin now after c.loop-pair-test.true c.loop-pair.invariant
    (λ first second. gains-in sections points pair section point now after first second (c.in_ok-push.ensures.items ∙ ap (λ (last : Stop). now ++ last ∷ []) stop))

pub returns : goal.returns
returns g c =
    upto-all (IsStopIn c.args.sections.now c.args.points.now) c.args.sections.now c.args.points.now c.args.passes.now c.args.stops.now.items
    c.loop-pair.pair-index c.loop-pair.stops.items c.loop-pair-test.false c.loop-pair.invariant
