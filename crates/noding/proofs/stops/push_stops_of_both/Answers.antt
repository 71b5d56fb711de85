use Rattle.std.proofs.Common.{◌≡◌, ◌++◌, ◌∷◌, [], ap, ◌∙◌, rules, w32, FitsSigned}
use Rattle.std.proofs.lemmas.Int.{to_z-of_z}
use Rattle.noding.specs.Stops.{IsStopOfBoth, stop_of}
use Rattle.noding.specs.declared.stops.Stop.{Stop}
use Rattle.noding.proofs.ChainLemmas.Crossed.{gains-both}
use Rattle.plane.proofs.GainsLemmas.{gains-none}
use Rattle.noding.proofs.stops.push_stops_of_both.Goals as goal

pub returns-then-is_end_of_one : goal.returns-then-is_end_of_one
returns-then-is_end_of_one g c = gains-none (IsStopOfBoth c.args.crossing c.args.one c.args.other) c.args.stops.now.items (λ stop at. at.0 c.if-is_end_of_one.ensures)

pub returns : goal.returns
returns g c =
    let crossing = c.args.crossing in
    let point = crossing.point in
    let before = c.args.stops.now.items in
    let x : FitsSigned w32 c.args.crossing.point.x = search rules in
    let y : FitsSigned w32 c.args.crossing.point.y = search rules in
    let first : c.stop_of.result ≡ stop_of crossing.one c.args.one point.x point.y = simp to_z-of_z at c.stop_of.ensures in
    let second : c.stop_of-2.result ≡ stop_of crossing.other c.args.other point.x point.y = simp to_z-of_z at c.stop_of-2.ensures in
    gains-both crossing c.args.one c.args.other before c.push.new.self.items c.push-2.new.self.items c.if-is_end_of_one.ensures
    (c.in_ok-push.ensures.items ∙ ap (λ (last : Stop). before ++ last ∷ []) first)
    (c.in_ok-push-2.ensures.items ∙ ap (λ (last : Stop). c.push.new.self.items ++ last ∷ []) second)
