use Rattle.std.proofs.Common.{◌≡◌, ◌++◌, ◌∷◌, [], rules, w32, FitsSigned, ap, ◌∙◌}
use Rattle.std.proofs.lemmas.Int.{to_z-of_z}
use Rattle.noding.specs.Stops.{IsStopAlong, stop_of}
use Rattle.noding.specs.declared.stops.Stop.{Stop}
use Rattle.plane.proofs.GainsLemmas.{gains-none}
use Rattle.noding.proofs.ChainLemmas.Stops.{gains-stop}
use Rattle.noding.proofs.stops.push_if_passed.Goals as goal

pub returns-in_ok-push : goal.returns-in_ok-push
returns-in_ok-push g c =
    let point = c.args.crossing.point in
    let x : FitsSigned w32 c.args.crossing.point.x = search rules in
    let y : FitsSigned w32 c.args.crossing.point.y = search rules in
    let stop : c.stop_of.result ≡ stop_of c.args.place c.args.edge point.x point.y = simp to_z-of_z at c.stop_of.ensures in
    gains-stop c.args.place c.args.edge point.x point.y c.args.stops.now.items c.push.new.self.items c.if-passes_crossing.ensures
    (c.in_ok-push.ensures.items ∙ ap (λ (last : Stop). c.args.stops.now.items ++ last ∷ []) stop)

pub returns-else-passes_crossing : goal.returns-else-passes_crossing
returns-else-passes_crossing g c =
    gains-none (IsStopAlong c.args.place c.args.edge c.args.crossing.point.x c.args.crossing.point.y) c.args.stops.now.items (λ stop along. c.if-passes_crossing.ensures along.0)
