use Rattle.std.proofs.Common.{◌++◌, ◌≡◌, Bool, ap, arith, cond, false, List, map, pos, refl, subst, sym, true, ◌∙◌}
use Rattle.std.proofs.lemmas.Int.{ints}
use Rattle.std.proofs.lemmas.Result.{IfErr-weaker, on_ok_weaker}
use Rattle.plane.specs.declared.edge.Edge.{Edge}
use Rattle.plane.specs.Ends.{end_of}
use Rattle.offset.specs.Faults.{IsRawFault}
use Rattle.offset.specs.Raw.{fan, joint, moved_edge, ways}
use Rattle.offset.specs.Shape.{turn}
use Rattle.offset.proofs.RawLemmas.{fails-lt, passes-lt, ways-apart}
use Rattle.offset.proofs.raw.append_joint.Goals as goal

-- the one of two, as a test chooses
chosen : (t u : Bool) (one other : List Edge) → t ≡ u → cond t one other ≡ cond u one other
chosen t u one other same = ap (λ (t : Bool). cond t one other) same

pub returns-then-turn-gt0-clause-ok : goal.returns-then-turn-gt0-clause-ok
returns-then-turn-gt0-clause-ok g c =
    let corners = c.args.corners.now in
    let edge = c.args.edge in
    let next = c.args.next in
    let left = chosen _ true (map (moved_edge (end_of edge)) (fan corners edge next)) (ways corners edge next) (passes-lt (pos 0) (turn edge next) (omega (arith, ints, c.turn.ensures, c.if-turn-gt0.true))) in
    on_ok_weaker c.append_fan.result (λ made. made ∙ ap (λ (edges : List Edge). c.args.edges.now.items ++ edges) (sym left)) c.append_fan.ensures.ok

pub returns-then-turn-gt0-clause-fault : goal.returns-then-turn-gt0-clause-fault
returns-then-turn-gt0-clause-fault g c =
    let corners = c.args.corners.now in
    let edge = c.args.edge in
    let next = c.args.next in
    let left = chosen _ true (map (moved_edge (end_of edge)) (fan corners edge next)) (ways corners edge next) (passes-lt (pos 0) (turn edge next) (omega (arith, ints, c.turn.ensures, c.if-turn-gt0.true))) in
    IfErr-weaker c.append_fan.result _ (IsRawFault (joint corners edge next)) (λ fault fails. subst (λ (edges : List Edge). IsRawFault edges fault) (sym left) fails) c.append_fan.ensures.fault

pub returns-else-turn-gt0-clause-ok : goal.returns-else-turn-gt0-clause-ok
returns-else-turn-gt0-clause-ok g c =
    let corners = c.args.corners.now in
    let edge = c.args.edge in
    let next = c.args.next in
    let other = chosen _ false (map (moved_edge (end_of edge)) (fan corners edge next)) (ways corners edge next) (fails-lt (pos 0) (turn edge next) (omega (arith, ints, c.turn.ensures, c.if-turn-gt0.false))) in
    let same = ways-apart corners edge next c.args.from c.args.to c.end_of.result true c.requires.from c.requires.to c.end_of.ensures (sym c.requires.apart) refl in
    on_ok_weaker c.append_ways_by.result (λ made. made ∙ ap (λ (edges : List Edge). c.args.edges.now.items ++ edges) (same ∙ sym other)) c.append_ways_by.ensures.ok

pub returns-else-turn-gt0-clause-fault : goal.returns-else-turn-gt0-clause-fault
returns-else-turn-gt0-clause-fault g c =
    let corners = c.args.corners.now in
    let edge = c.args.edge in
    let next = c.args.next in
    let other = chosen _ false (map (moved_edge (end_of edge)) (fan corners edge next)) (ways corners edge next) (fails-lt (pos 0) (turn edge next) (omega (arith, ints, c.turn.ensures, c.if-turn-gt0.false))) in
    let same = ways-apart corners edge next c.args.from c.args.to c.end_of.result true c.requires.from c.requires.to c.end_of.ensures (sym c.requires.apart) refl in
    IfErr-weaker c.append_ways_by.result _ (IsRawFault (joint corners edge next)) (λ fault fails. subst (λ (edges : List Edge). IsRawFault edges fault) (same ∙ sym other) fails) c.append_ways_by.ensures.fault
