use Rattle.std.proofs.Common.{rules, w32, FitsSigned}
use Rattle.std.proofs.lemmas.Int.{to_z-of_z}
use Rattle.noding.specs.Stops.{IsStopAlong}
use Rattle.plane.proofs.GainsLemmas.{gains-join}
use Rattle.noding.proofs.stops.push_ends_of.Goals as goal

pub returns : goal.returns
returns g c =
    let place = c.args.place in
    let edge = c.args.edge in
    let other = c.args.other in
    let x0 : FitsSigned w32 c.args.other.x0 = search rules in
    let y0 : FitsSigned w32 c.args.other.y0 = search rules in
    let x1 : FitsSigned w32 c.args.other.x1 = search rules in
    let y1 : FitsSigned w32 c.args.other.y1 = search rules in
    gains-join (IsStopAlong place edge other.x0 other.y0) (IsStopAlong place edge other.x1 other.y1) c.args.stops.now.items c.push_if_inside.new.stops.items c.push_if_inside-2.new.stops.items
    (simp to_z-of_z at c.in_ok-push_if_inside.ensures) (simp to_z-of_z at c.in_ok-push_if_inside-2.ensures)
