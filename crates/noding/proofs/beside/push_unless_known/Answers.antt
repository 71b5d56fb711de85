use Rattle.std.proofs.Common.{◌≡◌, ◌++◌, ◌∷◌, [], FitsSigned, ap, refl, rules, subst, sym, w32, ◌∙◌}
use Rattle.std.specs.List.{Contains}
use Rattle.std.proofs.lemmas.List.Elements.{Contains-append_left}
use Rattle.std.proofs.lemmas.Int.{to_z-of_z}
use Rattle.noding.specs.Close.{PassesInside}
use Rattle.noding.specs.Stops.{IsStopAlong, stop_of}
use Rattle.noding.specs.declared.stops.Stop.{Stop}
use Rattle.plane.proofs.GainsLemmas.{gains-none}
use Rattle.noding.proofs.ChainLemmas.Passed.{gains-behind, gains-known}
use Rattle.noding.proofs.beside.push_unless_known.Goals as goal

pub returns-then-not-passes_inside : goal.returns-then-not-passes_inside
returns-then-not-passes_inside g c = λ known among.
    let point = c.args.point in
    let x : FitsSigned w32 c.args.point.x = search rules in
    let y : FitsSigned w32 c.args.point.y = search rules in
    let none : ¬ (PassesInside c.args.edge point.x point.y) = simp to_z-of_z at c.if-not-passes_inside.ensures in
    gains-none (IsStopAlong c.args.place c.args.edge point.x point.y) (known ++ c.args.beside.now.items) (λ stop along. none along.0)

pub returns-in_ok-push : goal.returns-in_ok-push
returns-in_ok-push g c = λ known among.
    let point = c.args.point in
    let x : FitsSigned w32 c.args.point.x = search rules in
    let y : FitsSigned w32 c.args.point.y = search rules in
    let passes : PassesInside c.args.edge point.x point.y = simp to_z-of_z at c.if-not-passes_inside.ensures in
    let is : c.stop_of-stop.result ≡ stop_of c.args.place c.args.edge point.x point.y = simp to_z-of_z at c.stop_of-stop.ensures in
    gains-behind (IsStopAlong c.args.place c.args.edge point.x point.y) known c.args.beside.now.items c.push.new.self.items (stop_of c.args.place c.args.edge point.x point.y)
    (passes, refl) (λ stop along. along.1) (c.in_ok-push.ensures.items ∙ ap (λ (last : Stop). c.args.beside.now.items ++ last ∷ []) is)

pub returns-else-not-is_among : goal.returns-else-not-is_among
returns-else-not-is_among g c = λ known among.
    let point = c.args.point in
    let x : FitsSigned w32 c.args.point.x = search rules in
    let y : FitsSigned w32 c.args.point.y = search rules in
    let is : c.stop_of-stop.result ≡ stop_of c.args.place c.args.edge point.x point.y = simp to_z-of_z at c.stop_of-stop.ensures in
    let held : Contains c.args.own.now c.stop_of-stop.result = c.is_among.ensures c.if-not-is_among.false in
    gains-known (IsStopAlong c.args.place c.args.edge point.x point.y) (known ++ c.args.beside.now.items)
    (λ stop along. Contains-append_left known c.args.beside.now.items stop (subst (Contains known) (sym along.1) (among (stop_of c.args.place c.args.edge point.x point.y) (subst (Contains c.args.own.now) is held))))

pub returns-then-is_at : goal.returns-then-is_at
returns-then-is_at g c = λ known among.
    let point = c.args.point in
    let x : FitsSigned w32 c.args.point.x = search rules in
    let y : FitsSigned w32 c.args.point.y = search rules in
    let is : c.stop_of-stop.result ≡ stop_of c.args.place c.args.edge point.x point.y = simp to_z-of_z at c.stop_of-stop.ensures in
    let held : Contains c.args.own.now c.stop_of-stop.result = c.is_at.ensures c.if-is_at.true in
    gains-known (IsStopAlong c.args.place c.args.edge point.x point.y) (known ++ c.args.beside.now.items)
    (λ stop along. Contains-append_left known c.args.beside.now.items stop (subst (Contains known) (sym along.1) (among (stop_of c.args.place c.args.edge point.x point.y) (subst (Contains c.args.own.now) is held))))
