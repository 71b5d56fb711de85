use Rattle.std.proofs.Common.{◌≡◌, ◌++◌, ◌∷◌, [], refl, rules, w32, FitsSigned, ap, ◌∙◌}
use Rattle.std.proofs.lemmas.Int.{to_z-of_z}
use Rattle.noding.specs.Columns.Ends.{IsStopHeld}
use Rattle.noding.specs.Stops.{stop_of}
use Rattle.noding.specs.declared.stops.Stop.{Stop}
use Rattle.plane.proofs.GainsLemmas.{gains-none, gains-only}
use Rattle.noding.proofs.columns.ends.push_if_held.Goals as goal

pub returns-in_ok-push : goal.returns-in_ok-push
returns-in_ok-push g c =
    let point = c.args.point in
    let before = c.args.stops.now.items in
    let x : FitsSigned w32 c.args.point.x = search rules in
    let y : FitsSigned w32 c.args.point.y = search rules in
    let stop : c.stop_of.result ≡ stop_of c.args.place c.args.edge point.x point.y = simp to_z-of_z at c.stop_of.ensures in
    gains-only (IsStopHeld c.args.place c.args.edge point) before c.push.new.self.items (stop_of c.args.place c.args.edge point.x point.y) (c.if-lies_inside.ensures, refl) (λ stop is. is.1)
    (c.in_ok-push.ensures.items ∙ ap (λ (last : Stop). before ++ last ∷ []) stop)

pub returns-else-lies_inside : goal.returns-else-lies_inside
returns-else-lies_inside g c = gains-none (IsStopHeld c.args.place c.args.edge c.args.point) c.args.stops.now.items (λ stop is. c.if-lies_inside.ensures is.0)
