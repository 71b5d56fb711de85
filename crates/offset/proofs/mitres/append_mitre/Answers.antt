use Rattle.std.proofs.Common.{◌≡◌, ◌^◌, ◌∙◌, ◌++◌, ◌*ℤ◌, ◌<ℤ◌, ap, ap₂, append-nil, arith, false, List, pos, refl, rules, subst, sym, true, ℤ, FitsSigned}
use Rattle.std.specs.Int.{w128}
use Rattle.std.proofs.lemmas.Int.{ints, to_z-of_z}
use Rattle.std.proofs.lemmas.Result.{IfErr-weaker, on_ok_weaker}
use Rattle.plane.specs.declared.edge.Edge.{Edge}
use Rattle.plane.specs.declared.point.Point.{Point}
use Rattle.plane.specs.Ends.{edge_between, end_of}
use Rattle.plane.specs.Meet.Crosses.{IsWithin}
use Rattle.offset.specs.Faults.{IsRawFault}
use Rattle.offset.specs.Joins.{has_tip, mitre, mitre_by, nearest, point_at, way_to_tip}
use Rattle.offset.specs.Shape.{turn}
use Rattle.offset.proofs.JoinLemmas.Tips.{mitre-told, mitre-unturned, tip-near, way-is}
use Rattle.offset.proofs.mitres.append_mitre.Goals as goal

pub returns-then-turn-le0-clause-ok : goal.returns-then-turn-le0-clause-ok
returns-then-turn-le0-clause-ok g c =
    let none = mitre-unturned c.args.limit c.args.corners.now c.args.edge c.args.next (omega (arith, ints, c.turn.ensures, c.if-turn-le0.true)) in
    sym (ap (λ (edges : List Edge). c.args.edges.now.items ++ edges) none ∙ append-nil c.args.edges.now.items)

pub way_to_tip_on-x-requires-clause-left : goal.way_to_tip_on-x-requires-clause-left
way_to_tip_on-x-requires-clause-left g c = omega (arith, ints, c.turn.ensures, c.if-turn-le0.false)

pub way_to_tip_on-y-requires-clause-left : goal.way_to_tip_on-y-requires-clause-left
way_to_tip_on-y-requires-clause-left g c = omega (arith, ints, c.turn.ensures, c.if-turn-le0.false)

pub append_mitre_by-requires-clause-x : goal.append_mitre_by-requires-clause-x
append_mitre_by-requires-clause-x g c =
    let told : c.has_tip.result ≡ has_tip c.args.limit c.args.corners.now c.furthest-from.result c.furthest-to.result (point_at c.way_to_tip_on-x.result c.way_to_tip_on-y.result) = search rules in
    let near = tip-near c.args.limit c.args.corners.now c.furthest-from.result c.furthest-to.result c.way_to_tip_on-x.result c.way_to_tip_on-y.result (sym told ∙ c.if-has_tip.true) in
    let x : IsWithin (2 ^ 62) c.way_to_tip_on-x.result = near.0 in
    search rules

pub append_mitre_by-requires-clause-y : goal.append_mitre_by-requires-clause-y
append_mitre_by-requires-clause-y g c =
    let told : c.has_tip.result ≡ has_tip c.args.limit c.args.corners.now c.furthest-from.result c.furthest-to.result (point_at c.way_to_tip_on-x.result c.way_to_tip_on-y.result) = search rules in
    let near = tip-near c.args.limit c.args.corners.now c.furthest-from.result c.furthest-to.result c.way_to_tip_on-x.result c.way_to_tip_on-y.result (sym told ∙ c.if-has_tip.true) in
    let y : IsWithin (2 ^ 62) c.way_to_tip_on-y.result = near.1 in
    search rules

pub returns-then-has_tip-clause-ok : goal.returns-then-has_tip-clause-ok
returns-then-has_tip-clause-ok g c =
    let x = c.way_to_tip_on-x.result in
    let y = c.way_to_tip_on-y.result in
    let from = c.furthest-from.result in
    let to = c.furthest-to.result in
    let told : c.has_tip.result ≡ has_tip c.args.limit c.args.corners.now from to (point_at x y) = search rules in
    let along_x : x ≡ nearest (turn (edge_between from to) c.args.next *ℤ c.vector_along-way.result.x) (turn c.args.edge c.args.next) = search rules in
    let along_y : y ≡ nearest (turn (edge_between from to) c.args.next *ℤ c.vector_along-way.result.y) (turn c.args.edge c.args.next) = search rules in
    let way = way-is c.args.edge c.args.next from to x y c.vector_along-way.result.x c.vector_along-way.result.y along_x along_y c.vector_along-way.ensures.x c.vector_along-way.ensures.y in
    let is = mitre-told c.args.limit c.args.corners.now c.args.edge c.args.next from to c.end_of.result (point_at x y) true c.furthest-from.ensures c.furthest-to.ensures c.end_of.ensures way (omega (arith, ints, c.turn.ensures, c.if-turn-le0.false)) (sym told ∙ c.if-has_tip.true) in
    let fits_x : FitsSigned w128 x = record { sfits = c.way_to_tip_on-x.type_inv } in
    let fits_y : FitsSigned w128 y = record { sfits = c.way_to_tip_on-y.type_inv } in
    let same = ap₂ (λ (u v : ℤ). mitre_by c.end_of.result from to (point_at u v)) (to_z-of_z w128 x fits_x) (to_z-of_z w128 y fits_y) in
    on_ok_weaker c.append_mitre_by.result
    (λ made. made ∙ ap (λ (edges : List Edge). c.args.edges.now.items ++ edges) (same ∙ is))
    c.append_mitre_by.ensures.ok

pub returns-then-has_tip-clause-fault : goal.returns-then-has_tip-clause-fault
returns-then-has_tip-clause-fault g c =
    let x = c.way_to_tip_on-x.result in
    let y = c.way_to_tip_on-y.result in
    let from = c.furthest-from.result in
    let to = c.furthest-to.result in
    let told : c.has_tip.result ≡ has_tip c.args.limit c.args.corners.now from to (point_at x y) = search rules in
    let along_x : x ≡ nearest (turn (edge_between from to) c.args.next *ℤ c.vector_along-way.result.x) (turn c.args.edge c.args.next) = search rules in
    let along_y : y ≡ nearest (turn (edge_between from to) c.args.next *ℤ c.vector_along-way.result.y) (turn c.args.edge c.args.next) = search rules in
    let way = way-is c.args.edge c.args.next from to x y c.vector_along-way.result.x c.vector_along-way.result.y along_x along_y c.vector_along-way.ensures.x c.vector_along-way.ensures.y in
    let is = mitre-told c.args.limit c.args.corners.now c.args.edge c.args.next from to c.end_of.result (point_at x y) true c.furthest-from.ensures c.furthest-to.ensures c.end_of.ensures way (omega (arith, ints, c.turn.ensures, c.if-turn-le0.false)) (sym told ∙ c.if-has_tip.true) in
    let fits_x : FitsSigned w128 x = record { sfits = c.way_to_tip_on-x.type_inv } in
    let fits_y : FitsSigned w128 y = record { sfits = c.way_to_tip_on-y.type_inv } in
    let same = ap₂ (λ (u v : ℤ). mitre_by c.end_of.result from to (point_at u v)) (to_z-of_z w128 x fits_x) (to_z-of_z w128 y fits_y) in
    IfErr-weaker c.append_mitre_by.result _ (IsRawFault (mitre c.args.limit c.args.corners.now c.args.edge c.args.next))
    (λ fault fails. subst (λ (edges : List Edge). IsRawFault edges fault) (same ∙ is) fails)
    c.append_mitre_by.ensures.fault

pub returns-else-has_tip-clause-ok : goal.returns-else-has_tip-clause-ok
returns-else-has_tip-clause-ok g c =
    let x = c.way_to_tip_on-x.result in
    let y = c.way_to_tip_on-y.result in
    let from = c.furthest-from.result in
    let to = c.furthest-to.result in
    let told : c.has_tip.result ≡ has_tip c.args.limit c.args.corners.now from to (point_at x y) = search rules in
    let along_x : x ≡ nearest (turn (edge_between from to) c.args.next *ℤ c.vector_along-way.result.x) (turn c.args.edge c.args.next) = search rules in
    let along_y : y ≡ nearest (turn (edge_between from to) c.args.next *ℤ c.vector_along-way.result.y) (turn c.args.edge c.args.next) = search rules in
    let way = way-is c.args.edge c.args.next from to x y c.vector_along-way.result.x c.vector_along-way.result.y along_x along_y c.vector_along-way.ensures.x c.vector_along-way.ensures.y in
    let none = mitre-told c.args.limit c.args.corners.now c.args.edge c.args.next from to (end_of c.args.edge) (point_at x y) false c.furthest-from.ensures c.furthest-to.ensures refl way (omega (arith, ints, c.turn.ensures, c.if-turn-le0.false)) (sym told ∙ c.if-has_tip.false) in
    sym (ap (λ (edges : List Edge). c.args.edges.now.items ++ edges) (sym none) ∙ append-nil c.args.edges.now.items)
