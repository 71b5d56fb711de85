use Rattle.std.proofs.Common.{◌≡◌, ◌++◌, ◌∷◌, [], rules, w32, FitsSigned, ap, ◌∙◌}
use Rattle.std.proofs.lemmas.Int.{to_z-of_z}
use Rattle.noding.specs.Close.{PassesInside}
use Rattle.noding.specs.Stops.{IsStopAlong, stop_of}
use Rattle.noding.specs.declared.stops.Stop.{Stop}
use Rattle.plane.proofs.GainsLemmas.{gains-none}
use Rattle.noding.proofs.ChainLemmas.Stops.{gains-stop}
use Rattle.noding.proofs.stops.push_if_inside.Goals as goal

pub returns-in_ok-push : goal.returns-in_ok-push
returns-in_ok-push g c =
    let x : FitsSigned w32 c.args.x = search rules in
    let y : FitsSigned w32 c.args.y = search rules in
    let passes : PassesInside c.args.edge c.args.x c.args.y = simp to_z-of_z at c.if-passes_inside.ensures in
    let stop : c.stop_of.result ≡ stop_of c.args.place c.args.edge c.args.x c.args.y = simp to_z-of_z at c.stop_of.ensures in
    gains-stop c.args.place c.args.edge c.args.x c.args.y c.args.stops.now.items c.push.new.self.items passes
    (c.in_ok-push.ensures.items ∙ ap (λ (last : Stop). c.args.stops.now.items ++ last ∷ []) stop)

pub returns-else-passes_inside : goal.returns-else-passes_inside
returns-else-passes_inside g c =
    let x : FitsSigned w32 c.args.x = search rules in
    let y : FitsSigned w32 c.args.y = search rules in
    let none : ¬ (PassesInside c.args.edge c.args.x c.args.y) = simp to_z-of_z at c.if-passes_inside.ensures in
    gains-none (IsStopAlong c.args.place c.args.edge c.args.x c.args.y) c.args.stops.now.items (λ stop along. none along.0)
