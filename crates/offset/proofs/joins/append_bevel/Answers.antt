use Rattle.std.proofs.Common.{◌≡◌, ◌∙◌, ◌∷◌, ◌++◌, [], ap, ap₂, arith, cond, Bool, true, false, List, map, pos, subst, sym}
use Rattle.std.specs.Prelude.{int_lt}
use Rattle.std.proofs.lemmas.Int.{ints}
use Rattle.std.proofs.lemmas.Result.{IfErr-weaker, on_ok_weaker}
use Rattle.plane.specs.declared.edge.Edge.{Edge}
use Rattle.plane.specs.declared.point.Point.{Point}
use Rattle.plane.specs.Ends.{edge_between, end_of}
use Rattle.overlay.specs.Areas.{swept}
use Rattle.offset.specs.Faults.{IsRawFault}
use Rattle.offset.specs.Joins.{bevel, chord}
use Rattle.offset.specs.Raw.{fan, furthest, moved_edge}
use Rattle.offset.proofs.RawLemmas.{fails-lt, passes-lt}
use Rattle.offset.proofs.joins.append_bevel.Goals as goal

-- the chord or the fan, as the test chooses
chosen : (corners : List Point) (edge next : Edge) (t : Bool) → int_lt (pos 0) (swept (chord corners edge next)) ≡ t → bevel corners edge next ≡ cond t (chord corners edge next ∷ []) (fan corners edge next)
chosen corners edge next t is = ap (λ (u : Bool). cond u (chord corners edge next ∷ []) (fan corners edge next)) is

-- the chord is that of the furthest corners
made : (corners : List Point) (edge next told : Edge) (from to : Point) → told ≡ edge_between from to → from ≡ furthest corners edge → to ≡ furthest corners next → told ≡ chord corners edge next
made corners edge next told from to is is_from is_to = is ∙ ap₂ edge_between is_from is_to

pub returns-then-swept-gt0-clause-ok : goal.returns-then-swept-gt0-clause-ok
returns-then-swept-gt0-clause-ok g c =
    let corners = c.args.corners.now in
    let edge = c.args.edge in
    let next = c.args.next in
    let is = made corners edge next c.edge_between-chord.result c.furthest.result c.furthest-2.result c.edge_between-chord.ensures c.furthest.ensures c.furthest-2.ensures in
    let sweeps = ap swept is in
    let one = chosen corners edge next true (passes-lt (pos 0) (swept (chord corners edge next)) (omega (arith, ints, sweeps, c.swept.ensures.value, c.if-swept-gt0.true))) in
    on_ok_weaker c.push_moved.result
    (λ told. told ∙ ap₂ (λ (at : Point) (e : Edge). c.args.edges.now.items ++ moved_edge at e ∷ []) c.end_of.ensures is ∙ sym (ap (λ (some : List Edge). c.args.edges.now.items ++ map (moved_edge (end_of edge)) some) one))
    c.push_moved.ensures.ok

pub returns-then-swept-gt0-clause-fault : goal.returns-then-swept-gt0-clause-fault
returns-then-swept-gt0-clause-fault g c =
    let corners = c.args.corners.now in
    let edge = c.args.edge in
    let next = c.args.next in
    let is = made corners edge next c.edge_between-chord.result c.furthest.result c.furthest-2.result c.edge_between-chord.ensures c.furthest.ensures c.furthest-2.ensures in
    let sweeps = ap swept is in
    let one = chosen corners edge next true (passes-lt (pos 0) (swept (chord corners edge next)) (omega (arith, ints, sweeps, c.swept.ensures.value, c.if-swept-gt0.true))) in
    IfErr-weaker c.push_moved.result _ (IsRawFault (map (moved_edge (end_of edge)) (bevel corners edge next)))
    (λ fault fails. subst (λ (some : List Edge). IsRawFault some fault) (ap₂ (λ (at : Point) (e : Edge). moved_edge at e ∷ []) c.end_of.ensures is ∙ sym (ap (map (moved_edge (end_of edge))) one)) fails)
    c.push_moved.ensures.fault

pub returns-else-swept-gt0-clause-ok : goal.returns-else-swept-gt0-clause-ok
returns-else-swept-gt0-clause-ok g c =
    let corners = c.args.corners.now in
    let edge = c.args.edge in
    let next = c.args.next in
    let is = made corners edge next c.edge_between-chord.result c.furthest.result c.furthest-2.result c.edge_between-chord.ensures c.furthest.ensures c.furthest-2.ensures in
    let sweeps = ap swept is in
    let none = chosen corners edge next false (fails-lt (pos 0) (swept (chord corners edge next)) (omega (arith, ints, sweeps, c.swept.ensures.value, c.if-swept-gt0.false))) in
    on_ok_weaker c.append_fan.result
    (λ told. told ∙ sym (ap (λ (some : List Edge). c.args.edges.now.items ++ map (moved_edge (end_of edge)) some) none))
    c.append_fan.ensures.ok

pub returns-else-swept-gt0-clause-fault : goal.returns-else-swept-gt0-clause-fault
returns-else-swept-gt0-clause-fault g c =
    let corners = c.args.corners.now in
    let edge = c.args.edge in
    let next = c.args.next in
    let is = made corners edge next c.edge_between-chord.result c.furthest.result c.furthest-2.result c.edge_between-chord.ensures c.furthest.ensures c.furthest-2.ensures in
    let sweeps = ap swept is in
    let none = chosen corners edge next false (fails-lt (pos 0) (swept (chord corners edge next)) (omega (arith, ints, sweeps, c.swept.ensures.value, c.if-swept-gt0.false))) in
    IfErr-weaker c.append_fan.result _ (IsRawFault (map (moved_edge (end_of edge)) (bevel corners edge next)))
    (λ fault fails. subst (λ (some : List Edge). IsRawFault some fault) (sym (ap (map (moved_edge (end_of edge))) none)) fails)
    c.append_fan.ensures.fault
